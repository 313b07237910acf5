-- A package that comes as the offered one enters, field by field.
use Rattle.std.proofs.Common.{◌≡◌, ◌∙◌, ◌||◌, ◌<◌, ◌≤◌, ◌+◌, ℕ, Bool, true, false, List, [], ◌∷◌, Option, None, Some, drop, get_or, length, refl, ap, inl, inr}
use Rattle.std.specs.Prelude.{bytes_eq}
use Rattle.basics.proofs.Lists.{at_drop}
use Rattle.pms_names.specs.Flags.{IsRising, has}
use Rattle.build_pool.specs.declared.orders.Order.{Order}
use Rattle.dep_atom.specs.declared.package.Facts.{Facts}
use Rattle.dep_tree.specs.Texts.{Dependencies}
use Rattle.required_use.specs.Texts.{Expressions}
use Rattle.pkg_state.specs.Package.{Package, with_flags}
use Rattle.plan_model.specs.Entering.{entered_with}
use Rattle.plan_lives.proofs.Steps.{drop_end}
use Rattle.plan_model.specs.Offers.{AreOn, ComesAs, IsFirst, Names}

pub comes : (a : Order) (p : Package) (on : List (List ℕ)) (f : Facts) (r pd d b i : Dependencies) (q : Expressions) → AreOn a.enabled p.facts.enabled on
    → f ≡ with_flags on p.facts → r ≡ entered_with (has on) a.binds p.rdepend → pd ≡ entered_with (has on) [] p.pdepend → d ≡ entered_with (has on) [] p.depend → b ≡ entered_with (has on) [] p.bdepend → i ≡ entered_with (has on) [] p.idepend → q ≡ p.required
    → ComesAs a p (record { facts = f; eapi = p.eapi; rdepend = r; pdepend = pd; depend = d; bdepend = b; idepend = i; required = q })
comes a p on f r pd d b i q flags ef er epd ed eb ei eq = record {
  on = on;
  flags = flags;
  is = λ k. record { facts = ef k; eapi = p.eapi; rdepend = er k; pdepend = epd k; depend = ed k; bdepend = eb k; idepend = ei k; required = eq k };
}

-- a flag of the text is put among those that are on
pub flag_moves : (first rest on : Bool) → (rest || (first || on)) ≡ ((first || rest) || on)
flag_moves true true on = refl
flag_moves true false on = refl
flag_moves false true on = refl
flag_moves false false on = refl

-- the flags of the text that are left, and those that are on
abbrev pub AreLeft : List (List ℕ) → List (List ℕ) → List (List ℕ) → List (List ℕ) → Type 0
AreLeft text implicit rest on = (q : List ℕ) → (has rest q || has on q) ≡ (has text q || has implicit q)

pub flag_put : (text implicit rest : List (List ℕ)) (flag : List ℕ) (on new : List (List ℕ)) → AreLeft text implicit (flag ∷ rest) on → ((q : List ℕ) → has new q ≡ (bytes_eq q flag || has on q)) → AreLeft text implicit rest new
flag_put text implicit rest flag on new so_far puts q =
    ap (λ (b : Bool). has rest q || b) (puts q) ∙ flag_moves (bytes_eq q flag) (has rest q) (has on q) ∙ so_far q

pub flags_put : (text implicit on : List (List ℕ)) → AreLeft text implicit [] on → IsRising on → AreOn text implicit on
flags_put text implicit on so_far rising = record { rising = rising; members = so_far }

-- the packages from a place on, of which the first that is named is sought
module _ (a : Order) (ps : List Package) (i : ℕ) (so_far : (o : Option Package) → IsFirst a (drop i ps) o → IsFirst a ps o) where
  pub first_here : (p : Package) → i < length ps → p ≡ get_or ps i p → Names a p → IsFirst a ps (Some p)
  first_here p lt is named = so_far (Some p) (rw (at_drop ps i p lt is) (inl (named, refl)))

  pub first_later : (p : Package) → i < length ps → p ≡ get_or ps i p → ¬ Names a p → (o : Option Package) → IsFirst a (drop (i + 1) ps) o → IsFirst a ps o
  first_later p lt is other o rest = so_far o (rw (at_drop ps i p lt is) (inr (other, rest)))

  pub first_none : length ps ≤ i → IsFirst a ps None
  first_none le = so_far None (rw (drop_end ps i le) refl)

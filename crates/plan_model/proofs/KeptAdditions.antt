-- The additions of a linked plan, one by one.
use Rattle.std.proofs.Common.{◌≡◌, ◌∙◌, ◌||◌, ℕ, ◌+◌, Bool, true, false, List, [], ◌∷◌, Option, Some, None, inl, inr, refl, ap, subst, sym}
use Rattle.std.specs.Prelude.{bytes_eq}
use Rattle.std.specs.List.{AllByRecursion}
use Rattle.std.proofs.lemmas.Slice.Eq.{bytes_eq-Decides}
use Rattle.basics.specs.Members.{Has}
use Rattle.basics.proofs.Each.{all_has, zip_has}
use Rattle.basics.proofs.Tests.{or-true}
use Rattle.pms_names.specs.Flags.{has}
use Rattle.build_pool.specs.declared.orders.Order.{Order}
use Rattle.dep_group.specs.Trees.{no_trees}
use Rattle.pkg_state.specs.Editions.{FitsEdition}
use Rattle.pkg_state.specs.Eapis.{empty_holds, has_class}
use Rattle.pkg_state.specs.Package.{Package, tree_of}
use Rattle.pkg_state.specs.declared.class.Class.{Class}
use Rattle.pkg_state.specs.declared.class.Class.TheVariants.{Bdepend, Depend, Idepend, Pdepend, Rdepend}
use Rattle.plan_text.specs.Plans.{GroupValue}
use Rattle.plan_text.specs.Texts.{AreGroups, IsAddition}
use Rattle.plan_text.specs.Words.{IsBind}
use Rattle.dep_atom.specs.declared.slot.Bind.{Bind}
use Rattle.vdb_files.specs.Recorded.{AreBound}
use Rattle.plan_model.specs.Laws.{AreOffered, CanBeKept, IsFormed, IsLit, LinkedAdditionsCanBeKept}
use Rattle.plan_model.specs.Linked.{IsLinkedGroup}
use Rattle.plan_model.specs.Offers.{AreOn, Brings, IsFirst, entering}
use Rattle.plan_model.proofs.Closed.{FormIsAtoms, entered_bound, entered_none}

groups_have : (n : ℕ) (gs : List GroupValue) (t : GroupValue) → AreGroups n gs → Has gs t → AllByRecursion IsAddition t.additions
groups_have n [] t are is = absurd is
groups_have n (g ∷ gs) t are (inl e) = subst (λ (h : GroupValue). AllByRecursion IsAddition h.additions) e are.0.additions
groups_have n (g ∷ gs) t are (inr is) = groups_have (n + 1) gs t are.1 is

first_has : (a : Order) (ps : List Package) (p : Package) → IsFirst a ps (Some p) → Has ps p
first_has a [] p is = absurd (cc is)
first_has a (q ∷ ps) p (inl is) = inl (some_same q p (sym is.1))
  where
    or_else : Package → Option Package → Package
    or_else d None = d
    or_else d (Some r) = r

    some_same : (q p : Package) → Some q ≡ Some p → q ≡ p
    some_same q p e = ap (or_else q) e
first_has a (q ∷ ps) p (inr is) = inr (first_has a ps p is.1)

needs_bound : FormIsAtoms → (on : List (List ℕ)) (binds : List Bind) (p : Package) → AllByRecursion IsBind binds → IsFormed p → (class : Class) → AreBound (tree_of class (entering on binds p))
needs_bound law on binds p are form Rdepend = entered_bound law (has on) binds p.rdepend are (form.needs Rdepend)
needs_bound law on binds p are form Pdepend = entered_bound law (has on) [] p.pdepend tt (form.needs Pdepend)
needs_bound law on binds p are form Depend = entered_bound law (has on) [] p.depend tt (form.needs Depend)
needs_bound law on binds p are form Bdepend = entered_bound law (has on) [] p.bdepend tt (form.needs Bdepend)
needs_bound law on binds p are form Idepend = entered_bound law (has on) [] p.idepend tt (form.needs Idepend)

-- what enters fits the edition of what was offered
module _ (on : List (List ℕ)) (binds : List Bind) (p : Package) (fits : FitsEdition p) where
  none_enters : (class : Class) → has_class p.eapi class ≡ false → (tree_of class (entering on binds p)).groups ≡ no_trees
  none_enters Rdepend lacks = entered_none (has on) binds p.rdepend.groups (fits.lacking Rdepend lacks)
  none_enters Pdepend lacks = entered_none (has on) [] p.pdepend.groups (fits.lacking Pdepend lacks)
  none_enters Depend lacks = entered_none (has on) [] p.depend.groups (fits.lacking Depend lacks)
  none_enters Bdepend lacks = entered_none (has on) [] p.bdepend.groups (fits.lacking Bdepend lacks)
  none_enters Idepend lacks = entered_none (has on) [] p.idepend.groups (fits.lacking Idepend lacks)

  needs_fit : (class : Class) → (tree_of class (entering on binds p)).empty_holds ≡ empty_holds p.eapi
  needs_fit Rdepend = fits.needs Rdepend
  needs_fit Pdepend = fits.needs Pdepend
  needs_fit Depend = fits.needs Depend
  needs_fit Bdepend = fits.needs Bdepend
  needs_fit Idepend = fits.needs Idepend

  entering_fits : FitsEdition (entering on binds p)
  entering_fits = record { lacking = none_enters; needs = needs_fit; required = fits.required }

-- ---- flags

first_or : (b : Bool) (f : List ℕ) (fs : List (List ℕ)) (flag : List ℕ) → bytes_eq flag f ≡ b → (b || has fs flag) ≡ true → (has fs flag ≡ true → Has fs flag) → Has (f ∷ fs) flag
first_or true f fs flag same e later = inl (sym ((bytes_eq-Decides flag f).0 same))
first_or false f fs flag same e later = inr (later e)

member : (fs : List (List ℕ)) (flag : List ℕ) → has fs flag ≡ true → Has fs flag
member [] flag e = absurd (cc e)
member (f ∷ fs) flag e = first_or (bytes_eq flag f) f fs flag refl e (member fs flag)

module _ (a : Order) (on : List (List ℕ)) (p : Package) (flags : AreOn a.enabled p.facts.enabled on) (known : (flag : List ℕ) → Has a.enabled flag → has p.facts.iuse flag ≡ true) where
  known_if : (b : Bool) (flag : List ℕ) → has a.enabled flag ≡ b → (b || has p.facts.enabled flag) ≡ true → (has p.facts.iuse flag || has p.facts.enabled flag) ≡ true
  known_if true flag e h = ap (λ (c : Bool). c || has p.facts.enabled flag) (known flag (member a.enabled flag e))
  known_if false flag e h = ap (λ (c : Bool). has p.facts.iuse flag || c) h ∙ or-true (has p.facts.iuse flag)

  entering_lit : IsLit p.facts.enabled (entering on a.binds p)
  entering_lit = record {
    rising = flags.rising;
    known = λ flag e. known_if (has a.enabled flag) flag refl (sym (flags.members flag) ∙ e);
    implicit_on = λ flag e. flags.members flag ∙ (ap (λ (c : Bool). has a.enabled flag || c) e ∙ or-true (has a.enabled flag));
  }

brought_kept : FormIsAtoms → (implicit : List (List ℕ)) (offered : List Package) (a : Order) (q : Package) → AreOffered implicit offered → IsAddition a → Brings offered a q → CanBeKept implicit q
brought_kept law implicit offered a q are is brings =
    let p = brings.p in
    let on = brings.comes.on in
    let good = are p (first_has a offered p brings.first) in
    let kept : CanBeKept p.facts.enabled (entering on a.binds p) = record {
      recordable = record {
        needs = needs_bound law on a.binds p is.binds good.0;
        required = good.0.required;
        edition = entering_fits on a.binds p good.0.edition;
        owned = tt;
      };
      lit = entering_lit a on p brings.comes.flags brings.known;
    } in
    subst (λ (f : List (List ℕ)). CanBeKept f q) good.1 (subst (λ (r : Package). CanBeKept p.facts.enabled r) (sym brings.comes.is) kept)

pub additions_kept : FormIsAtoms → LinkedAdditionsCanBeKept
additions_kept law = λ implicit offered text plan g p are form linked has_g has_p.
    let group = zip_has (IsLinkedGroup offered) text plan g linked has_g in
    let addition = zip_has (Brings offered) group.0.additions g.additions p group.2.additions has_p in
    brought_kept law implicit offered addition.0 p are
    (all_has IsAddition group.0.additions addition.0 (groups_have 1 text group.0 form.groups group.1) addition.1) addition.2

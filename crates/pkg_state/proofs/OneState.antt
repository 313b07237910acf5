-- A state is what it has on each line.
use Rattle.std.proofs.Common.{◌≡◌, ◌∙◌, ℕ, Bool, true, false, cond, List, [], ◌∷◌, Some, None, refl, ap, sym, subst, inl, inr}
use Rattle.std.specs.Prelude.{bytes_eq}
use Rattle.std.specs.Cmp.Lexicographic.{nat_list_eq_equiv, slice_cmp}
use Rattle.std.specs.List.{AllByRecursion}
use Rattle.std.specs.List.Sorted.{IsStrictlySortedBy}
use Rattle.std.specs.Ordering.{is_eq, nat_cmp}
use Rattle.std.specs.declared.cmp.Ordering.TheVariants.{Less}
use Rattle.std.proofs.lemmas.Bool.{cases_Bool}
use Rattle.std.proofs.lemmas.Map.Text.{is_eq-slice_cmp}
use Rattle.std.proofs.lemmas.Slice.Eq.{bytes_eq-Decides}
use Rattle.std.proofs.lemmas.Option.{same_Some}
use Rattle.basics.specs.Members.{Has}
use Rattle.basics.proofs.Texts.{bytes_eq-same, less_one_way}
use Rattle.pkg_state.specs.Package.{Package, line_of, lines_of}
use Rattle.pkg_state.specs.State.{IsState, on_line}
use Rattle.pkg_state.proofs.Lists.{found_passes, not_found, any_none}

abbrev line : Package → List ℕ
line p = line_of p.facts

abbrev Above : List ℕ → List Package → Type 0
Above x ps = AllByRecursion (λ y. slice_cmp nat_cmp x y ≡ Less) (lines_of ps)

above_has : (x : List ℕ) (ps : List Package) (p : Package) → Above x ps → Has ps p → slice_cmp nat_cmp x (line p) ≡ Less
above_has x [] p above has = absurd has
above_has x (q ∷ ps) p above (inl e) = subst (λ (r : Package). slice_cmp nat_cmp x (line r) ≡ Less) e above.0
above_has x (q ∷ ps) p above (inr has) = above_has x ps p above.1 has

differs : (x y : List ℕ) → slice_cmp nat_cmp x y ≡ Less → bytes_eq x y ≡ false
differs x y less = sym (is_eq-slice_cmp x y) ∙ ap is_eq less

nothing_below : (x : List ℕ) (ps : List Package) → Above x ps → on_line ps x ≡ None
nothing_below x ps above = not_found (λ p. bytes_eq x (line p)) ps (any_none (λ p. bytes_eq x (line p)) ps (λ p has. differs x (line p) (above_has x ps p above has)))

first_is : (p : Package) (ps : List Package) (x : List ℕ) → bytes_eq x (line p) ≡ true → on_line (p ∷ ps) x ≡ Some p
first_is p ps x e = ap (λ (b : Bool). cond b (Some p) (on_line ps x)) e

first_is_not : (p : Package) (ps : List Package) (x : List ℕ) → bytes_eq x (line p) ≡ false → on_line (p ∷ ps) x ≡ on_line ps x
first_is_not p ps x e = ap (λ (b : Bool). cond b (Some p) (on_line ps x)) e

cons : {p q : Package} {ps qs : List Package} → p ≡ q → ps ≡ qs → p ∷ ps ≡ q ∷ qs
cons e h i = e i ∷ h i

-- what is on a line of the one that isn't its first line is above it
later : (p : Package) (ps : List Package) (q : Package) → Above (line p) ps → on_line (p ∷ ps) (line q) ≡ Some q → bytes_eq (line q) (line p) ≡ false → slice_cmp nat_cmp (line p) (line q) ≡ Less
later p ps q above h e = above_has (line p) ps q above (found_passes (λ r. bytes_eq (line q) (line r)) ps q (sym (first_is_not p ps (line q) e) ∙ h)).0

pub one : (ps qs : List Package) → IsState ps → IsState qs → ((x : List ℕ) → on_line ps x ≡ on_line qs x) → ps ≡ qs
unfolding IsStrictlySortedBy
one [] [] a b h = refl
one [] (q ∷ qs) a b h = absurd (let r : None ≡ Some q = h (line q) ∙ first_is q qs (line q) (bytes_eq-same (line q)) in cc r)
one (p ∷ ps) [] a b h = absurd (let r : None ≡ Some p = sym (h (line p)) ∙ first_is p ps (line p) (bytes_eq-same (line p)) in cc r)
one (p ∷ ps) (q ∷ qs) a b h = elim (cases_Bool (bytes_eq (line p) (line q))) [
  | inr n ↦ absurd (less_one_way (line p) (line q)
      (later p ps q a.0 (h (line q) ∙ first_is q qs (line q) (bytes_eq-same (line q))) (nat_list_eq_equiv.symm (line q) (line p) ∙ n))
      (later q qs p b.0 (sym (h (line p)) ∙ first_is p ps (line p) (bytes_eq-same (line p))) n))
  | inl y ↦ (
      let lines : line p ≡ line q = (bytes_eq-Decides (line p) (line q)).0 y in
      let same : p ≡ q = same_Some p q (sym (first_is p ps (line p) (bytes_eq-same (line p))) ∙ (h (line p) ∙ first_is q qs (line p) y)) in
      cons same (one ps qs a.1 b.1 (λ x. elim (cases_Bool (bytes_eq x (line p))) [
        | inl e ↦ (
            let at : line p ≡ x = sym ((bytes_eq-Decides x (line p)).0 e) in
            nothing_below x ps (subst (λ (l : List ℕ). Above l ps) at a.0) ∙ sym (nothing_below x qs (subst (λ (l : List ℕ). Above l qs) (sym lines ∙ at) b.0)))
        | inr e ↦ sym (first_is_not p ps x e) ∙ (h x ∙ first_is_not q qs x (subst (λ (l : List ℕ). bytes_eq x l ≡ false) lines e))
      ])))
]

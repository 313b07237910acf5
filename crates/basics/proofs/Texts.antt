-- Texts that are the same, and texts that differ.
use Rattle.std.specs.Prelude.{◌==◌, bytes_eq}
use Rattle.std.specs.Cmp.Lexicographic.{slice_cmp}
use Rattle.std.specs.Ordering.{is_eq, nat_cmp, ordering_then}
use Rattle.std.specs.declared.cmp.Ordering.{Ordering}
use Rattle.std.specs.declared.cmp.Ordering.TheVariants.{Less, Equal, Greater}
use Rattle.std.proofs.Common.{◌≡◌, ◌∙◌, ◌<◌, ℕ, Bool, true, false, List, [], length, ap, arith, inl, inr, refl, sym}
use Rattle.std.proofs.lemmas.Bool.{cases_Bool, false_from_ne_true, le-ltb, ne_eqb}
use Rattle.std.proofs.lemmas.Cmp.{nat_list_cmp_total, nat_list_eq_equiv}
use Rattle.std.proofs.lemmas.Map.Text.{is_eq-slice_cmp}
use Rattle.std.proofs.lemmas.Slice.Eq.{bytes_eq-Decides}
use Rattle.basics.proofs.Orderings.{not_itself, one_way}

pub bytes_eq-same : (p : List ℕ) → bytes_eq p p ≡ true
bytes_eq-same p = (bytes_eq-Decides p p).1 refl

pub same_text : (p q : List ℕ) → bytes_eq p q ≡ true → p ≡ q
same_text p q e = (bytes_eq-Decides p q).0 e

pub bytes_eq-apart : (p q : List ℕ) → (p ≡ q → ⊥) → bytes_eq p q ≡ false
bytes_eq-apart p q apart = false_from_ne_true (bytes_eq p q) (λ e. apart ((bytes_eq-Decides p q).0 e))

pub bytes_eq-swap : (p q : List ℕ) → bytes_eq p q ≡ bytes_eq q p
bytes_eq-swap p q = elim (cases_Bool (bytes_eq p q)) [
  | inl same ↦ same ∙ sym ((bytes_eq-Decides q p).1 (sym ((bytes_eq-Decides p q).0 same)))
  | inr other ↦ other ∙ sym (bytes_eq-apart q p (λ e. let same = (bytes_eq-Decides p q).1 (sym e) in cc))
]

-- of two texts at most one is the less
pub less_one_way : (p q : List ℕ) → slice_cmp nat_cmp p q ≡ Less → slice_cmp nat_cmp q p ≡ Less → ⊥
less_one_way = one_way nat_list_cmp_total

-- no text is before itself
pub not_less : (p q : List ℕ) → p ≡ q → slice_cmp nat_cmp p q ≡ Less → ⊥
not_less = not_itself nat_list_cmp_total

-- of two texts that differ at most one is the third
pub other_is_not : (p q r : List ℕ) → bytes_eq p q ≡ false → is_eq (slice_cmp nat_cmp p r) ≡ true → is_eq (slice_cmp nat_cmp q r) ≡ false
other_is_not p q r differ is =
    is_eq-slice_cmp q r ∙ (nat_list_eq_equiv.symm q r ∙ sym (nat_list_eq_equiv.congr p r q (sym (is_eq-slice_cmp p r) ∙ is)) ∙ differ)

pub some_bytes : (text : List ℕ) (b : Bool) → b ≡ (length text == 0) → b ≡ false → text ≡ [] → ⊥
some_bytes text b is none e = cc (is, none, ap (λ (l : List ℕ). length l == 0) e)

pub nat_cmp-greater : (a b : ℕ) → b < a → nat_cmp a b ≡ Greater
nat_cmp-greater a b lt = rw (le-ltb a b (omega arith), ne_eqb a b (λ e. omega arith)) refl

pub then-Equal : (o : Ordering) → ordering_then o Equal ≡ o
then-Equal Less = refl
then-Equal Equal = refl
then-Equal Greater = refl

-- The parts of a path above it, by the slashes at which they end.
use Rattle.std.proofs.Common.{◌≡◌, ◌<◌, ◌==◌, ℕ, true, List, length, get_or, take, Option, Some, None, sym, arith, subst, refl, inl, inr}
use Rattle.std.specs.Prelude.{IsSome, bytes_eq}
use Rattle.std.proofs.lemmas.Bool.{and_parts, eqb-true, cases_lt}
use Rattle.std.proofs.lemmas.Slice.Eq.{bytes_eq-Decides}
use Rattle.std.proofs.Math.ListN.{get_or-eq_default}
use Rattle.file_tree.specs.Disk.{Map}
use Rattle.file_tree.specs.Paths.{is_below}
use Rattle.merge_fit.specs.Images.{HoldsPart}

none_or_some : {A : Type 0} (x : Option A) → (IsSome x → ⊥) → x ≡ None
none_or_some None h = refl
none_or_some (Some x) h = absurd (h refl)

-- a path above is the part before a slash
pub above_is_part : (q path : List ℕ) → is_below q path ≡ true → (get_or path (length q) 0 ≡ 47) × (take (length q) path ≡ q)
above_is_part q path h =
    let both = and_parts (bytes_eq q (take (length q) path)) (get_or path (length q) 0 == 47) h in
    (eqb-true (get_or path (length q) 0) 47 both.1, sym ((bytes_eq-Decides q (take (length q) path)).0 both.0))

-- where no part of the path holds anything, nothing above it does
pub none_above_by_parts : (m : Map) (path : List ℕ) → ((k : ℕ) → k < length path → HoldsPart m path k → ⊥) → (q : List ℕ) → is_below q path ≡ true → m q ≡ None
none_above_by_parts m path none q h =
    let part = above_is_part q path h in
    none_or_some (m q)
    (λ some. elim (cases_lt (length q) (length path)) [
      | inl lt ↦ none (length q) lt (part.0, subst (λ (p : List ℕ). IsSome (m p)) (sym part.1) some)
      | inr ge ↦ absurd (omega (arith, part.0, get_or-eq_default path 0 ge))
    ])

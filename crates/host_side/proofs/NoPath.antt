-- No path has the name of a spare object in it.
use Rattle.std.proofs.Common.{◌≡◌, ◌++◌, ◌≤◌, ◌∙◌, ℕ, true, false, List, ◌∷◌, length, ap, append_assoc, sym, arith}
use Rattle.std.specs.Prelude.{codes}
use Rattle.std.proofs.Math.Seq.{drop-append_seam}
use Rattle.std.proofs.lemmas.Bool.{true≢false}
use Rattle.std.proofs.lemmas.List.{length-append}
use Rattle.file_tree.specs.Paths.{is_path, bad_at, bad_char_at, begins_badly}
use Rattle.file_tree.proofs.Grammar.{no_path_if_bad}
use Rattle.host_side.specs.Spare.{spare_name}

-- no path has a space, a hyphen and a greater-than sign
no_arrow : (a b : List ℕ) → is_path (a ++ (32 ∷ 45 ∷ 62 ∷ b)) ≡ false
no_arrow a b =
    let bytes = a ++ (32 ∷ 45 ∷ 62 ∷ b) in
    let char : bad_char_at bytes (length a) ≡ true = ap begins_badly (drop-append_seam a (32 ∷ 45 ∷ 62 ∷ b)) in
    let bad : bad_at bytes (length a) ≡ true = grind (arith, char) in
    let lengths = length-append a (32 ∷ 45 ∷ 62 ∷ b) in
    let within : length a ≤ length bytes = omega arith in
    no_path_if_bad bytes (length a) within bad

pub no_path_has : (a b : List ℕ) → is_path (a ++ (spare_name ++ b)) ≡ true → ⊥
unfolding spare_name
no_path_has a b is =
    let split : (a ++ codes ".emerge") ++ (32 ∷ 45 ∷ 62 ∷ (codes "new" ++ b)) ≡ a ++ (codes ".emerge ->new" ++ b)
    = append_assoc a (codes ".emerge") (32 ∷ 45 ∷ 62 ∷ (codes "new" ++ b)) in
    true≢false (sym is ∙ (ap is_path (sym split) ∙ no_arrow (a ++ codes ".emerge") (codes "new" ++ b)))

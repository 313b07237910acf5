-- A text of lines with one line more.
use Rattle.std.proofs.Common.{ℕ, List, [], ◌∷◌, ◌++◌, ap, ◌∙◌}
use Rattle.std.proofs.lemmas.List.{flat_map_more}
use Rattle.std.specs.List.{AllByRecursion}
use Rattle.merge_report.proofs.Plain.{shown_plain}
use Rattle.merge_report.specs.Shown.{IsPlain, shown}
use Rattle.emerge_why.specs.Told.{IsTold, told_line}

all_with : (lines : List (List ℕ)) (line : List ℕ) → AllByRecursion IsPlain lines → IsPlain line → AllByRecursion IsPlain (lines ++ line ∷ [])
all_with [] line each is = (is, tt)
all_with (x ∷ xs) line each is = (each.0, all_with xs line each.1 is)

told_more : (text line : List ℕ) → IsTold text → IsPlain line → IsTold (text ++ told_line line)
told_more text line (lines, each, is) plain =
    (lines ++ line ∷ [], all_with lines line each plain, ap (λ t. t ++ told_line line) is ∙ flat_map_more told_line [] lines line)

-- a line that is shown has no control character
pub told_shown : (text words : List ℕ) → IsTold text → IsTold (text ++ told_line (shown words))
told_shown text words is = told_more text (shown words) is (shown_plain words)

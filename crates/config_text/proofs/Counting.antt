-- The lines that count, piece by piece.
use Rattle.std.proofs.Common.{◌≡◌, ◌∙◌, ℕ, suc, ◌+◌, ◌<◌, ◌≤◌, true, false, List, [], ◌∷◌, ◌++◌, Bor, length, get_or, drop, map, refl, sym, ap, arith, append_assoc}
use Rattle.std.specs.List.{slice_split}
use Rattle.std.proofs.Math.Seq.{drop-cons}
use Rattle.std.proofs.Math.ListN.{drop_of_length-le}
use Rattle.config_text.specs.Lines.{counted, counts, is_newline, line_number, lines, numbered}
use Rattle.config_text.specs.declared.line.Line.{Line}

-- the lines that count from the piece at `at` on
abbrev pub left : ℕ → List (Bor (List ℕ)) → List Line
left at pieces = counted (numbered at (map {A = Bor (List ℕ)} {B = List ℕ} (λ x. x.now) (drop at pieces)))

pub all_left : (bytes : List ℕ) (pieces : List (Bor (List ℕ))) → map {A = Bor (List ℕ)} {B = List ℕ} (λ x. x.now) pieces ≡ slice_split is_newline bytes → left 0 pieces ≡ lines bytes
all_left bytes pieces e = ap (λ ps. counted (numbered 0 ps)) e

pub none_left : (at : ℕ) (pieces : List (Bor (List ℕ))) → length pieces ≤ at → left at pieces ≡ []
none_left at pieces past = ap (λ ps. counted (numbered at (map {A = Bor (List ℕ)} {B = List ℕ} (λ x. x.now) ps))) (drop_of_length-le pieces past)

next : (at : ℕ) → suc at ≡ at + 1
next at = omega arith

one_more : (at : ℕ) (pieces : List (Bor (List ℕ))) (d : Bor (List ℕ)) → at < length pieces → left at pieces ≡ counted (record { number = line_number at; text = (get_or pieces at d).now } ∷ numbered (at + 1) (map {A = Bor (List ℕ)} {B = List ℕ} (λ x. x.now) (drop (at + 1) pieces)))
one_more at pieces d within = ap (λ ps. counted (numbered at (map {A = Bor (List ℕ)} {B = List ℕ} (λ x. x.now) ps))) (drop-cons pieces at d within ∙ ap (λ n. get_or pieces at d ∷ drop n pieces) (next at))

pub line_counts : (at : ℕ) (pieces : List (Bor (List ℕ))) (d : Bor (List ℕ)) → at < length pieces → counts (get_or pieces at d).now ≡ true → left at pieces ≡ record { number = line_number at; text = (get_or pieces at d).now } ∷ left (at + 1) pieces
line_counts at pieces d within e = one_more at pieces d within ∙ rw e refl

pub line_is_dropped : (at : ℕ) (pieces : List (Bor (List ℕ))) (d : Bor (List ℕ)) → at < length pieces → counts (get_or pieces at d).now ≡ false → left at pieces ≡ left (at + 1) pieces
line_is_dropped at pieces d within e = one_more at pieces d within ∙ rw e refl

pub with_line : (items now all : List Line) (at number : ℕ) (bytes text : List ℕ) (pieces : List (Bor (List ℕ))) (d : Bor (List ℕ)) → at < length pieces → bytes ≡ (get_or pieces at d).now → true ≡ counts bytes → text ≡ (get_or pieces at d).now → number ≡ line_number at → now ≡ items ++ (record { number = number; text = text } ∷ []) → items ++ left at pieces ≡ all → now ++ left (at + 1) pieces ≡ all
with_line items now all at number bytes text pieces d within same good is counted_so pushed before =
    rw (pushed, is, counted_so) (append_assoc items (record { number = line_number at; text = (get_or pieces at d).now } ∷ []) (left (at + 1) pieces) ∙ ap (λ ls. items ++ ls) (sym (line_counts at pieces d within (ap counts (sym same) ∙ sym good))) ∙ before)

pub without_line : (items now all : List Line) (at : ℕ) (bytes : List ℕ) (pieces : List (Bor (List ℕ))) (d : Bor (List ℕ)) → at < length pieces → bytes ≡ (get_or pieces at d).now → false ≡ counts bytes → now ≡ items → items ++ left at pieces ≡ all → now ++ left (at + 1) pieces ≡ all
without_line items now all at bytes pieces d within same bad is before =
    rw is (ap (λ ls. items ++ ls) (sym (line_is_dropped at pieces d within (ap counts (sym same) ∙ sym bad))) ∙ before)

-- The journal's names are paths.
use Rattle.std.proofs.Common.{◌≡◌, ◌<◌, ◌≤◌, ◌+◌, ◌/◌, ◌%◌, ◌&&◌, ℕ, zero, suc, Bool, true, false, not, eqb, ltb, List, [], ◌∷◌, ◌++◌, length, get_or, refl, sym, ap, ◌∙◌, arith, lit<, lit≤}
use Rattle.std.specs.Prelude.{codes}
use Rattle.std.specs.List.{AllByRecursion}
use Rattle.std.proofs.Math.Nat.{mod-lt}
use Rattle.std.proofs.lemmas.Bool.{lt-ltb, ne_eqb}
use Rattle.std.proofs.lemmas.List.{append-nil, length-append}
use Rattle.hex.specs.Hex.{encode_with, lower_digits}
use Rattle.file_tree.specs.Paths.{is_path}
use Rattle.file_tree.proofs.PlainParts.{has_plain_parts, plain_parts_path}
use Rattle.merge_journal.specs.Names.{Part, Gate, Changes, Token, Stage, digits, folder, named, part_path}
use Rattle.file_tree.specs.Fixed.{jobs}
use Rattle.merge_record.specs.Spelling.{number_text}
use Rattle.merge_journal.proofs.Naming.{length-digits, length-folder}
use Rattle.merge_record.proofs.Numbers.{IsBytes-number_text}
use Rattle.merge_record.proofs.Steps.{IsBytes, IsBytes-rest}

abbrev IsHigh : ℕ → Type 0
IsHigh b = 47 < b

high_digit : (k : ℕ) → k < 16 → IsHigh (get_or lower_digits k 0)
high_digit k lt = go k lower_digits digits_high lt
  where
    digits_high : AllByRecursion IsHigh lower_digits
    digits_high = (lit< tt, (lit< tt, (lit< tt, (lit< tt, (lit< tt, (lit< tt, (lit< tt, (lit< tt, (lit< tt, (lit< tt, (lit< tt, (lit< tt, (lit< tt, (lit< tt, (lit< tt, (lit< tt, tt))))))))))))))))

    go : (n : ℕ) (xs : List ℕ) → AllByRecursion IsHigh xs → n < length xs → IsHigh (get_or xs n 0)
    go n [] all below = absurd (omega arith)
    go zero (x ∷ xs) all below = all.0
    go (suc n) (x ∷ xs) all below = go n xs all.1 (omega arith)

high_hex : (bytes : List ℕ) → IsBytes bytes → AllByRecursion IsHigh (encode_with lower_digits bytes)
unfolding encode_with
high_hex [] fits = tt
high_hex (b ∷ bs) fits =
    let byte : b < 256 = fits 0 in
    (high_digit (b / 16) (omega arith), (high_digit (b % 16) (mod-lt b (omega arith)), high_hex bs (IsBytes-rest b bs fits)))

high_digits : (n : ℕ) → AllByRecursion IsHigh (digits n)
unfolding digits
high_digits n = high_hex (number_text 4 n) (IsBytes-number_text 4 n)

high_good : (fresh : Bool) (b : ℕ) (bs : List ℕ) → IsHigh b → has_plain_parts fresh (b ∷ bs) ≡ has_plain_parts false bs
high_good fresh b bs h =
    let high : ltb 32 b ≡ true = lt-ltb 32 b (omega arith) in
    let dot : eqb b 46 ≡ false = ne_eqb b 46 (λ e. omega arith) in
    let part : eqb b 47 ≡ false = ne_eqb b 47 (λ e. omega arith) in
    rw (high, dot, part) (go fresh)
  where
    go : (f : Bool) → not (f && false) && has_plain_parts false bs ≡ has_plain_parts false bs
    go true = refl
    go false = refl

high_run : (fresh : Bool) (xs ys : List ℕ) → AllByRecursion IsHigh xs → 0 < length xs → has_plain_parts fresh (xs ++ ys) ≡ has_plain_parts false ys
high_run fresh [] ys all some = absurd (omega arith)
high_run fresh (x ∷ []) ys all some = high_good fresh x ys all.0
high_run fresh (x ∷ y ∷ xs) ys all some = high_good fresh x ((y ∷ xs) ++ ys) all.0 ∙ high_run false (y ∷ xs) ys all.1 (omega arith)

pub good_named : (group : ℕ) (name : List ℕ) → has_plain_parts true (named group name) ≡ has_plain_parts true name
unfolding named folder
good_named group name = high_run true (digits group) (47 ∷ name) (high_digits group) (omega (arith, length-digits group))

pub good_stage : (index : ℕ) → has_plain_parts true (codes "stage/" ++ digits index) ≡ true
good_stage index = ap (has_plain_parts true) (sym (append-nil (digits index))) ∙ high_run true (digits index) [] (high_digits index) (omega (arith, length-digits index))

pub named_is_path : (group : ℕ) (name : List ℕ) → has_plain_parts true name ≡ true → length name ≤ 100 → is_path (named group name) ≡ true
unfolding named
named_is_path group name good short =
    let size : length (named group name) ≡ 30 + length name = omega (arith, length-append (folder group) (47 ∷ name), length-folder group) in
    plain_parts_path (named group name) (good_named group name ∙ good) (omega arith) (omega arith)

pub jobs_is_path : is_path jobs ≡ true
jobs_is_path = plain_parts_path jobs refl (lit< tt) (lit≤ tt)

pub part_is_path : (group : ℕ) (part : Part) → is_path (part_path group part) ≡ true
part_is_path group Gate = named_is_path group (codes "gate") refl (lit≤ tt)
part_is_path group Changes = named_is_path group (codes "record") refl (lit≤ tt)
part_is_path group Token = named_is_path group (codes "token") refl (lit≤ tt)
part_is_path group (Stage index) = named_is_path group (codes "stage/" ++ digits index) (good_stage index) (omega (arith, length-append (codes "stage/") (digits index), length-digits index))

-- A version begins itself.
use Rattle.std.specs.Prelude.{Bool, true, false, ◌==◌, ◌&&◌, ◌||◌, if◌then◌else◌}
use Rattle.std.specs.List.{AllByRecursion}
use Rattle.std.specs.Ordering.{nat_cmp, is_eq}
use Rattle.std.specs.Cmp.Lexicographic.{slice_cmp}
use Rattle.std.proofs.Common.{◌≡◌, ◌∙◌, ℕ, List, [], ◌∷◌, length, refl, ap}
use Rattle.std.proofs.lemmas.Bool.{and_from, or_right, eq-eqb}
use Rattle.std.proofs.lemmas.Cmp.{tied_itself, nat_cmp_total, nat_list_cmp_total}
use Rattle.pms_grammar.specs.Grammar.{IsInteger, SuffixValue, VersionValue, IsVersion}
use Rattle.pms_version.specs.Order.{is_empty, decimal, integer_cmp, later_number_cmp, rank, version_cmp}
use Rattle.pms_version.specs.Keys.{later_key}
use Rattle.pms_version.specs.Begins.{numbers_begin, suffix_begins, suffixes_begin, ends_in_number, letter_and_suffixes_begin, version_begins}
use Rattle.pms_version.proofs.Order.{later_keyed, same_itself}

same_integer : (ds : List ℕ) → is_eq (integer_cmp ds ds) ≡ true
same_integer ds = ap is_eq (tied_itself nat_cmp_total (decimal ds))

same_numbers : (ns : List (List ℕ)) → AllByRecursion IsInteger ns → numbers_begin ns ns ≡ true
same_numbers [] h = refl
same_numbers (n ∷ ns) h = and_from (is_eq (later_number_cmp n n)) (numbers_begin ns ns) (ap is_eq (later_keyed n n h.0 h.0 ∙ tied_itself nat_list_cmp_total (later_key n))) (same_numbers ns h.1)

same_suffix : (last : Bool) (s : SuffixValue) → suffix_begins last s s ≡ true
same_suffix last s =
    and_from (rank s.kind == rank s.kind) ((last && is_empty s.digits) || is_eq (integer_cmp s.digits s.digits)) (eq-eqb (rank s.kind) (rank s.kind) refl)
    (or_right (last && is_empty s.digits) (is_eq (integer_cmp s.digits s.digits)) (same_integer s.digits))

same_suffixes : (ss : List SuffixValue) → suffixes_begin ss ss ≡ true
same_suffixes [] = refl
same_suffixes (s ∷ ss) = and_from (suffix_begins (is_empty ss) s s) (suffixes_begin ss ss) (same_suffix (is_empty ss) s) (same_suffixes ss)

either : (t x y : Bool) → x ≡ true → y ≡ true → (if t then x else y) ≡ true
either true x y h k = h
either false x y h k = k

pub begins_itself : (a : VersionValue) → IsVersion a → version_begins a a ≡ true
begins_itself a h =
    let letter : is_eq (slice_cmp nat_cmp a.letter a.letter) ≡ true = ap is_eq (tied_itself nat_list_cmp_total a.letter) in
    let behind : letter_and_suffixes_begin a a ≡ true =
    and_from (length a.more == length a.more) (is_eq (slice_cmp nat_cmp a.letter a.letter) && suffixes_begin a.suffixes a.suffixes) (eq-eqb (length a.more) (length a.more) refl)
    (and_from (is_eq (slice_cmp nat_cmp a.letter a.letter)) (suffixes_begin a.suffixes a.suffixes) letter (same_suffixes a.suffixes)) in
    let all : (is_eq (integer_cmp a.first a.first) && (numbers_begin a.more a.more && (ends_in_number a || letter_and_suffixes_begin a a))) ≡ true =
    and_from (is_eq (integer_cmp a.first a.first)) (numbers_begin a.more a.more && (ends_in_number a || letter_and_suffixes_begin a a)) (same_integer a.first)
    (and_from (numbers_begin a.more a.more) (ends_in_number a || letter_and_suffixes_begin a a) (same_numbers a.more h.more)
    (or_right (ends_in_number a) (letter_and_suffixes_begin a a) behind)) in
    either (is_empty a.revision) (is_eq (integer_cmp a.first a.first) && (numbers_begin a.more a.more && (ends_in_number a || letter_and_suffixes_begin a a))) (is_eq (version_cmp a a)) all (ap is_eq (same_itself a h))

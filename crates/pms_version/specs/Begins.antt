-- Which versions "=…*" accepts (PMS 8.3.1 for the numbers; letters, suffixes and revisions are this
-- project's own reading).
use Rattle.std.specs.Prelude.{ℕ, Bool, true, false, ◌&&◌, ◌||◌, ◌==◌, if◌then◌else◌, List, [], ◌∷◌, length}
use Rattle.std.specs.Ordering.{nat_cmp, is_eq}
use Rattle.std.specs.Cmp.Lexicographic.{slice_cmp}
use Rattle.pms_grammar.specs.Grammar.{SuffixValue, VersionValue}
use Rattle.pms_version.specs.Order.{is_empty, integer_cmp, later_number_cmp, version_cmp, rank}

-- the numbers written are the candidate's first ones
abbrev pub numbers_begin : List (List ℕ) → List (List ℕ) → Bool
numbers_begin [] bs = true
numbers_begin (a ∷ as') [] = false
numbers_begin (a ∷ as') (b ∷ bs) = is_eq (later_number_cmp a b) && numbers_begin as' bs

-- the same kind and number; a last suffix without a number asks for its kind alone
abbrev pub suffix_begins : Bool → SuffixValue → SuffixValue → Bool
suffix_begins last a b = (rank a.kind == rank b.kind) &&
    ((last && is_empty a.digits) || is_eq (integer_cmp a.digits b.digits))

-- the suffixes written are the candidate's first ones
abbrev pub suffixes_begin : List SuffixValue → List SuffixValue → Bool
suffixes_begin [] bs = true
suffixes_begin (a ∷ as') [] = false
suffixes_begin (a ∷ as') (b ∷ bs) = suffix_begins (is_empty as') a b && suffixes_begin as' bs

-- neither a letter nor a suffix is written
abbrev pub ends_in_number : VersionValue → Bool
ends_in_number p = is_empty p.letter && is_empty p.suffixes

-- as many numbers, the same letter or none, and the suffixes written
abbrev pub letter_and_suffixes_begin : VersionValue → VersionValue → Bool
letter_and_suffixes_begin a b = (length a.more == length b.more) &&
    (is_eq (slice_cmp nat_cmp a.letter b.letter) && suffixes_begin a.suffixes b.suffixes)

-- the version written begins the candidate; with a written revision it equals the candidate
abbrev pub version_begins : VersionValue → VersionValue → Bool
version_begins a b =
    if is_empty a.revision
    then is_eq (integer_cmp a.first b.first) &&
    (numbers_begin a.more b.more && (ends_in_number a || letter_and_suffixes_begin a b))
    else is_eq (version_cmp a b)

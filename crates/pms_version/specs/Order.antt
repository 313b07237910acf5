-- The order of versions, PMS 3.3, part by part.
use Rattle.std.specs.Prelude.{ℕ, ◌+◌, ◌-◌, ◌*◌, Bool, true, false, ◌==◌, ◌&&◌, ◌||◌, if◌then◌else◌, List, [], ◌∷◌}
use Rattle.std.specs.List.{fold}
use Rattle.std.specs.Ordering.{nat_cmp, ordering_then}
use Rattle.std.specs.declared.cmp.Ordering.{Ordering}
use Rattle.std.specs.declared.cmp.Ordering.TheVariants.{Equal}
use Rattle.std.specs.Cmp.Lexicographic.{slice_cmp}
use Rattle.pms_grammar.specs.Grammar.{SuffixKind, SuffixValue, VersionValue}
use Rattle.pms_grammar.specs.Grammar.SuffixKind.{Alpha, Beta, Pre, Rc, P}

-- the number that digits write; 0 where none are written
abbrev pub decimal : List ℕ → ℕ
decimal ds = fold (λ n d. 10 * n + (d - 48)) 0 ds

abbrev pub is_empty : {A : Type 0} → List A → Bool
is_empty [] = true
is_empty (x ∷ xs) = false

-- by the numbers that they write
abbrev pub integer_cmp : List ℕ → List ℕ → Ordering
integer_cmp a b = nat_cmp (decimal a) (decimal b)

abbrev pub begins_zero : List ℕ → Bool
begins_zero [] = false
begins_zero (d ∷ ds) = d == 48

-- the digits without the zeros at their end
abbrev pub trim_zeros : List ℕ → List ℕ
trim_zeros [] = []
trim_zeros (d ∷ ds) = if d == 48 && is_empty (trim_zeros ds) then [] else d ∷ trim_zeros ds

-- numbers behind a dot: where either begins with a zero, as texts without the zeros at their end,
-- and else by what they write
abbrev pub later_number_cmp : List ℕ → List ℕ → Ordering
later_number_cmp a b = if begins_zero a ||
    begins_zero b then slice_cmp nat_cmp (trim_zeros a) (trim_zeros b) else integer_cmp a b

-- the order of the kinds; 4 is free for no suffix at all
abbrev pub rank : SuffixKind → ℕ
rank Alpha = 0
rank Beta = 1
rank Pre = 2
rank Rc = 3
rank P = 5

abbrev pub suffix_cmp : SuffixValue → SuffixValue → Ordering
suffix_cmp a b = ordering_then (nat_cmp (rank a.kind) (rank b.kind)) (integer_cmp a.digits b.digits)

-- one by one; where one list ends, no suffix stands below "_p" and above the other kinds
abbrev pub suffixes_cmp : List SuffixValue → List SuffixValue → Ordering
suffixes_cmp [] [] = Equal
suffixes_cmp [] (b ∷ bs) = nat_cmp 4 (rank b.kind)
suffixes_cmp (a ∷ as') [] = nat_cmp (rank a.kind) 4
suffixes_cmp (a ∷ as') (b ∷ bs) = ordering_then (suffix_cmp a b) (suffixes_cmp as' bs)

-- all but the revisions: the first numbers, the later ones, more of which are greater, the letters,
-- the suffixes
abbrev pub base_cmp : VersionValue → VersionValue → Ordering
base_cmp a b =
    ordering_then
    (ordering_then (ordering_then (integer_cmp a.first b.first)
    (slice_cmp later_number_cmp a.more b.more)) (slice_cmp nat_cmp a.letter b.letter))
    (suffixes_cmp a.suffixes b.suffixes)

-- the order of versions; a revision that is not written is 0
abbrev pub version_cmp : VersionValue → VersionValue → Ordering
version_cmp a b = ordering_then (base_cmp a b) (integer_cmp a.revision b.revision)

abbrev pub without_revision : VersionValue → VersionValue
without_revision p = record
    { first = p.first; more = p.more; letter = p.letter; suffixes = p.suffixes; revision = [] }

-- Lists of numbers that order versions: on versions the order is the one of these keys.
use Rattle.std.specs.Prelude.{ℕ, if◌then◌else◌, List, [], ◌∷◌, map}
use Rattle.std.specs.Ordering.{nat_cmp, ordering_then}
use Rattle.std.specs.declared.cmp.Ordering.{Ordering}
use Rattle.std.specs.Cmp.Lexicographic.{slice_cmp}
use Rattle.pms_grammar.specs.Grammar.{SuffixValue, VersionValue}
use Rattle.pms_version.specs.Order.{decimal, begins_zero, trim_zeros, rank}

-- 0 and the trimmed digits where the number begins with a zero, else 1 and the number
abbrev pub later_key : List ℕ → List ℕ
later_key ds = if begins_zero ds then 0 ∷ trim_zeros ds else 1 ∷ decimal ds ∷ []

-- rank and number of each suffix, and 4 at the end
abbrev pub suffix_key : List SuffixValue → List ℕ
suffix_key [] = 4 ∷ []
suffix_key (s ∷ ss) = rank s.kind ∷ decimal s.digits ∷ suffix_key ss

-- the keys of the five parts, one after another
abbrev pub key_cmp : VersionValue → VersionValue → Ordering
key_cmp a b =
    ordering_then
    (ordering_then
    (ordering_then
    (ordering_then (nat_cmp (decimal a.first) (decimal b.first))
    (slice_cmp (slice_cmp nat_cmp) (map later_key a.more) (map later_key b.more)))
    (slice_cmp nat_cmp a.letter b.letter))
    (slice_cmp nat_cmp (suffix_key a.suffixes) (suffix_key b.suffixes)))
    (nat_cmp (decimal a.revision) (decimal b.revision))

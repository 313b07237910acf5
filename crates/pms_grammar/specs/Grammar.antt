-- Versions as PMS 3.2 spells them: the parts, how they are written, and which parts a version may
-- have.
use Rattle.std.specs.Prelude.{◌≡◌, ℕ, ◌+◌, ◌<◌, ◌≤◌, true, ◌==◌, if◌then◌else◌, slice_index, List, [], ◌∷◌, ◌++◌, length, take, ⊤}
use Rattle.std.specs.List.{AllByRecursion, flat_map}
use Rattle.basics.specs.Bytes.{is_digit, is_lower}

-- an integer's digits, or none where no integer is written
abbrev pub AreDigits : List ℕ → Type 0
AreDigits ds = AllByRecursion (λ d. is_digit d ≡ true) ds

-- the digits of an integer that is written; leading zeros are part of it
abbrev pub IsInteger : List ℕ → Type 0
IsInteger [] = ⊥
IsInteger (d ∷ ds) = (is_digit d ≡ true) × AreDigits ds

-- one letter, or none
abbrev pub IsLetter : List ℕ → Type 0
IsLetter [] = ⊤
IsLetter (b ∷ []) = is_lower b ≡ true
IsLetter (b ∷ c ∷ bs) = ⊥

pub data SuffixKind : Type 0 where
  Alpha : SuffixKind
  Beta : SuffixKind
  Pre : SuffixKind
  Rc : SuffixKind
  P : SuffixKind

-- a suffix: its kind, and the digits of its integer, [] where none is written
pub record SuffixValue : Type 0 where
  pub kind : SuffixKind
  pub digits : List ℕ

-- the parts of a version, integers as their digits
pub record VersionValue : Type 0 where
  pub first : List ℕ
  -- the numbers after the first, each behind a dot
  pub more : List (List ℕ)
  -- one letter, or none
  pub letter : List ℕ
  pub suffixes : List SuffixValue
  -- the digits behind "-r", or [] where no revision is written
  pub revision : List ℕ

-- "alpha", "beta", "pre", "rc" and "p"
abbrev pub word : SuffixKind → List ℕ
word Alpha = 97 ∷ 108 ∷ 112 ∷ 104 ∷ 97 ∷ []
word Beta = 98 ∷ 101 ∷ 116 ∷ 97 ∷ []
word Pre = 112 ∷ 114 ∷ 101 ∷ []
word Rc = 114 ∷ 99 ∷ []
word P = 112 ∷ []

-- the kind of suffix whose word begins the bytes, where one does: the first byte tells, and of
-- "pre" and "p" the second
abbrev pub kind_at : List ℕ → SuffixKind
kind_at bs =
    if slice_index bs 0 == 97 then Alpha else
    (if slice_index bs 0 == 98 then Beta else
    (if slice_index bs 0 == 114 then Rc else (if slice_index bs 1 == 114 then Pre else P)))

-- a dot and the digits
abbrev pub spell_number : List ℕ → List ℕ
spell_number ds = 46 ∷ ds

-- an underscore, the word and the digits
abbrev pub spell_suffix : SuffixValue → List ℕ
spell_suffix s = 95 ∷ (word s.kind ++ s.digits)

-- "-r" and the digits; nothing where there are none
abbrev pub spell_revision : List ℕ → List ℕ
spell_revision [] = []
spell_revision (d ∷ ds) = 45 ∷ 114 ∷ d ∷ ds

-- the suffixes and the revision as they are written
abbrev pub spell_ending : List SuffixValue → List ℕ → List ℕ
spell_ending suffixes revision = flat_map spell_suffix suffixes ++ spell_revision revision

-- the text of the parts
abbrev pub spelling : VersionValue → List ℕ
spelling p =
    p.first ++ (flat_map spell_number p.more ++ (p.letter ++ spell_ending p.suffixes p.revision))

-- parts that a version may have
pub record IsVersion (p : VersionValue) : Type 0 where
  pub first : IsInteger p.first
  pub more : AllByRecursion IsInteger p.more
  pub letter : IsLetter p.letter
  pub suffixes : AllByRecursion (λ (s : SuffixValue). AreDigits s.digits) p.suffixes
  pub revision : AreDigits p.revision

-- the text of a version
abbrev pub IsVersionText : List ℕ → Type 0
IsVersionText bytes = (p : VersionValue) × IsVersion p × (bytes ≡ spelling p)

-- a text that some bytes, or none, complete to a version
abbrev pub BeginsVersion : List ℕ → Type 0
BeginsVersion bytes = (rest : List ℕ) × IsVersionText (bytes ++ rest)

-- the place of the first byte with which a text stops beginning any version, or its length where it
-- only ends too early
pub record StopsAt (bytes : List ℕ) (at : ℕ) : Type 0 where
  pub in_range : at ≤ length bytes
  pub begins : BeginsVersion (take at bytes)
  pub stops : at < length bytes → ¬ BeginsVersion (take (at + 1) bytes)
  pub short : at ≡ length bytes → ¬ IsVersionText bytes

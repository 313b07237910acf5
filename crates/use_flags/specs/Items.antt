-- What the items of IUSE mean (PMS 7.3.1, 11.1.1): a flag, with a sign before it for its default.
use Rattle.std.specs.Prelude.{◌≡◌, ℕ, Bool, false, ◌||◌, List, [], ◌∷◌, bytes_eq, ◌==◌, if◌then◌else◌, fold}
use Rattle.std.specs.List.{list_any}
use Rattle.pms_names.specs.Flags.{has}
use Rattle.pms_names.specs.Names.{IsName}
use Rattle.pms_names.specs.declared.kind.Kind.TheVariants.{Flag}

abbrev pub plus : ℕ
plus = 43

abbrev pub hyphen : ℕ
hyphen = 45

-- the item without its sign
abbrev pub flag_of : List ℕ → List ℕ
flag_of [] = []
flag_of (b ∷ bytes) = if b == plus || b == hyphen then bytes else b ∷ bytes

-- the item's flag is on by default
abbrev pub is_on : List ℕ → Bool
is_on [] = false
is_on (b ∷ bytes) = b == plus

-- the word is an item of IUSE
abbrev pub IsItem : List ℕ → Type 0
IsItem word = IsName Flag (flag_of word)

-- the set that was is now with the item's flag
abbrev pub AddsFlag : List (List ℕ) → List (List ℕ) → List ℕ → Type 0
AddsFlag was is item = (q : List ℕ) → has is q ≡ (bytes_eq q (flag_of item) || has was q)

-- the set of flags that are on by default says of the item's flag what the item says, and else what
-- it said
abbrev pub SetsDefault : List (List ℕ) → List (List ℕ) → List ℕ → Type 0
SetsDefault was is item =
    (q : List ℕ) → has is q ≡ (if bytes_eq q (flag_of item) then is_on item else has was q)

-- some item is of the flag
abbrev pub names_flag : List (List ℕ) → List ℕ → Bool
names_flag items flag = list_any (λ item. bytes_eq flag (flag_of item)) items

-- the last item of the flag has it on
abbrev pub last_is_on : List (List ℕ) → List ℕ → Bool
last_is_on items flag =
    fold (λ on item. if bytes_eq flag (flag_of item) then is_on item else on) false items

-- The value of an assignment: quoted and bare runs, one behind the other.
use Rattle.std.specs.Prelude.{◌≡◌, ℕ, Bool, true, false, not, ◌||◌, ◌&&◌, ◌==◌, List, [], ◌∷◌, ◌++◌, nat_le}
use Rattle.std.specs.List.{AllByRecursion, flat_map}
use Rattle.basics.specs.Bytes.{is_digit, is_lower}
use Rattle.config_text.specs.Follow.{Follow, Stops}
use Rattle.basics.specs.Blanks.{is_blank}

abbrev pub double_quote : ℕ
double_quote = 34

abbrev pub dollar : ℕ
dollar = 36

abbrev pub single_quote : ℕ
single_quote = 39

abbrev pub backslash : ℕ
backslash = 92

abbrev pub open_brace : ℕ
open_brace = 123

abbrev pub close_brace : ℕ
close_brace = 125

-- a letter or `_`
abbrev pub begins_key : ℕ → Bool
begins_key b = is_lower b || ((nat_le 65 b && nat_le b 90) || b == 95)

-- a letter, a digit or `_`
abbrev pub is_key_byte : ℕ → Bool
is_key_byte b = begins_key b || is_digit b

-- a KEY, and the name of a variable: letters, digits and `_`, and no digit first
abbrev pub IsKey : List ℕ → Type 0
IsKey [] = ⊥
IsKey (b ∷ bytes) = (begins_key b ≡ true) × AllByRecursion (λ c. is_key_byte c ≡ true) bytes

-- the text begins with a key, which ends in front of the rest
pub record HasKey (text key rest : List ℕ) : Type 0 where
  pub key_form : IsKey key
  pub ends : Stops is_key_byte rest
  pub whole : text ≡ key ++ rest

-- a part of bare text or of a text in double quotes
pub data Part : Type 0 where
  -- a byte that stands for itself
  Plain : ℕ → Part
  -- a byte behind a backslash
  Escaped : ℕ → Part
  -- `$NAME`
  Named : List ℕ → Part
  -- `${NAME}`
  Braced : List ℕ → Part

abbrev pub spell_part : Part → List ℕ
spell_part (Plain b) = b ∷ []
spell_part (Escaped b) = backslash ∷ b ∷ []
spell_part (Named name) = dollar ∷ name
spell_part (Braced name) = dollar ∷ open_brace ∷ (name ++ (close_brace ∷ []))

-- the bytes of which a backslash in double quotes takes the meaning
abbrev pub is_escapable : ℕ → Bool
is_escapable b = b == 10 || (b == double_quote || (b == dollar || b == backslash))

-- the byte may stand in double quotes, or in bare text
abbrev pub may_stand : Bool → ℕ → Bool
may_stand true b = not (b == double_quote)
may_stand false b = not (is_blank b || (b == double_quote || b == single_quote))

-- behind a dollar sign the text begins no variable
pub record BeginsNoName (after : List ℕ) : Type 0 where
  pub bare : Stops begins_key after
  pub braced : (name rest : List ℕ) → IsKey name →
      ¬ (after ≡ open_brace ∷ (name ++ (close_brace ∷ rest)))

-- the byte stands for itself, in double quotes or not, in front of the text
pub record IsPlain (quoted : Bool) (b : ℕ) (after : List ℕ) : Type 0 where
  pub stands : may_stand quoted b ≡ true
  pub names_nothing : b ≡ dollar → BeginsNoName after
  pub escapes_nothing : b ≡ backslash → quoted ≡ true → Stops is_escapable after

-- the part is in form, in double quotes or not, in front of the text
abbrev pub IsPart : Bool → Part → List ℕ → Type 0
IsPart quoted (Plain b) after = IsPlain quoted b after
IsPart quoted (Escaped b) after = (quoted ≡ true) × (is_escapable b ≡ true)
IsPart quoted (Named name) after = IsKey name × Stops is_key_byte after
IsPart quoted (Braced name) after = IsKey name

abbrev pub AreQuoted : List Part → List ℕ → Type 0
AreQuoted parts after = Follow (IsPart true) spell_part parts after

abbrev pub spell_parts : List Part → List ℕ
spell_parts parts = flat_map spell_part parts

-- a part of a value: one of bare text, or a text in quotes
pub data Run : Type 0 where
  Bare : Part → Run
  Single : List ℕ → Run
  Double : List Part → Run

abbrev pub spell_run : Run → List ℕ
spell_run (Bare part) = spell_part part
spell_run (Single bytes) = single_quote ∷ (bytes ++ (single_quote ∷ []))
spell_run (Double parts) = double_quote ∷ (spell_parts parts ++ (double_quote ∷ []))

-- the byte may stand in single quotes
abbrev pub is_in_single : ℕ → Bool
is_in_single b = not (b == single_quote)

-- none of the bytes is a single quote
abbrev pub LacksQuote : List ℕ → Type 0
LacksQuote bytes = AllByRecursion (λ b. is_in_single b ≡ true) bytes

-- the run is in form in front of the text
abbrev pub IsRun : Run → List ℕ → Type 0
IsRun (Bare part) after = IsPart false part after
IsRun (Single bytes) after = LacksQuote bytes
IsRun (Double parts) after = AreQuoted parts (double_quote ∷ after)

abbrev pub AreRuns : List Run → List ℕ → Type 0
AreRuns runs after = Follow IsRun spell_run runs after

abbrev pub spell_runs : List Run → List ℕ
spell_runs runs = flat_map spell_run runs

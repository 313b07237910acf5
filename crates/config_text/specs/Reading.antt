-- What reading a part, a run or an item of a text gives.
use Rattle.std.specs.Prelude.{◌≡◌, ◌≢◌, ℕ, Bool, true, false, List, [], ◌∷◌, ◌++◌, Option, Some, None, ⊤}
use Rattle.std.specs.List.{flat_map}
use Rattle.std.specs.Str.{IsUtf8}
use Rattle.config_text.specs.AssignFaults.{BeginsNoItem, IsOpen}
use Rattle.config_text.specs.Assignments.{AreItems, IsItem, Item, equals, hash, is_solid, part_value, run_value, said, said_by, spell_item, spell_items}
use Rattle.config_text.specs.Follow.{Follow, Stops}
use Rattle.basics.specs.Blanks.{is_blank}
use Rattle.config_text.specs.Lines.{line_behind}
use Rattle.config_text.specs.Values.{AreRuns, IsKey, IsPart, IsRun, Part, Run, backslash, dollar, is_escapable, spell_part, spell_run, spell_runs}
use Rattle.config_text.specs.declared.assignment.Assignment.{Assignment}
use Rattle.config_text.specs.declared.fault.TextFault.{TextFault}
use Rattle.config_text.specs.declared.fault.TextFault.TheVariants.{BadKey, Memory, NotUtf8, OpenQuote}
use Rattle.config_text.specs.declared.part.Piece.{Piece}
use Rattle.config_text.specs.declared.part.Piece.TheVariants.{Break, Byte, Name}
use Rattle.config_text.specs.declared.part.Sign.{Sign}
use Rattle.config_text.specs.declared.part.Sign.TheVariants.{Backslash, Dollar, Nothing}
use Rattle.config_text.specs.declared.value.ValueEnd.{ValueEnd}
use Rattle.config_text.specs.declared.value.ValueEnd.TheVariants.{Closed, Open}

-- the value so far, with what is still to be read, breaks no character
pub record IsWhole (value rest : List ℕ) : Type 0 where
  pub done : List ℕ
  pub begun : List ℕ
  pub both : value ≡ done ++ begun
  pub good : IsUtf8 done
  pub open_end : IsUtf8 (begun ++ rest)

-- the text begins with an item in form, which adds what it means to the value
pub record Gives {A : Type 0} (IsIn : A → List ℕ → Type 0) (spell means : A → List ℕ)
    (text more was now : List ℕ) : Type 0 where
  pub item : A
  pub form : IsIn item more
  pub spelled : text ≡ spell item ++ more
  pub gives : now ≡ was ++ means item
  pub whole : IsWhole was text → IsWhole now more

-- the same of any number of items
pub record GivesAll {A : Type 0} (IsIn : A → List ℕ → Type 0) (spell means : A → List ℕ)
    (text more was now : List ℕ) : Type 0 where
  pub items : List A
  pub form : Follow IsIn spell items more
  pub spelled : text ≡ flat_map spell items ++ more
  pub gives : now ≡ was ++ flat_map means items
  pub whole : IsWhole was text → IsWhole now more

abbrev pub GivesPart : Bool → (List ℕ → List ℕ) → List ℕ → List ℕ → List ℕ → List ℕ → Type 0
GivesPart quoted named text more was now =
    Gives (IsPart quoted) spell_part (part_value named) text more was now

abbrev pub GivesRun : (List ℕ → List ℕ) → List ℕ → List ℕ → List ℕ → List ℕ → Type 0
GivesRun named text more was now = Gives IsRun spell_run (run_value named) text more was now

abbrev pub GivesRuns : (List ℕ → List ℕ) → List ℕ → List ℕ → List ℕ → List ℕ → Type 0
GivesRuns named text more was now = GivesAll IsRun spell_run (run_value named) text more was now

-- the text begins with a byte that may stand there
abbrev pub Begins : (ℕ → Bool) → List ℕ → Type 0
Begins test [] = ⊥
Begins test (b ∷ bytes) = test b ≡ true

-- behind a dollar sign the text begins with a variable of the name
pub record NamesVariable (text name rest : List ℕ) : Type 0 where
  pub part : Part
  pub form : (quoted : Bool) → IsPart quoted part rest
  pub spelled : dollar ∷ text ≡ spell_part part ++ rest
  pub named : (values : List ℕ → List ℕ) → part_value values part ≡ values name
  pub whole : (value given : List ℕ) → IsUtf8 given → IsWhole value (dollar ∷ text) →
      IsWhole (value ++ given) rest

-- the text begins with the byte, of which a backslash takes the meaning
pub record Escapes (text : List ℕ) (byte : ℕ) (rest : List ℕ) : Type 0 where
  pub meant : is_escapable byte ≡ true
  pub whole : text ≡ byte ∷ rest

-- what a piece gives
abbrev pub piece_value : (List ℕ → List ℕ) → Piece → List ℕ
piece_value values (Byte b) = b ∷ []
piece_value values Break = []
piece_value values (Name name) = values name.now

-- what the piece names is a text
abbrev pub NamesText : (List ℕ → List ℕ) → Piece → Type 0
NamesText values (Byte b) = ⊤
NamesText values Break = ⊤
NamesText values (Name name) = IsUtf8 (values name.now)

-- what the piece gives stands behind the value
pub record IsGiven (values : List ℕ → List ℕ) (piece : Piece) (was now : List ℕ) : Type 0 where
  pub gives : now ≡ was ++ piece_value values piece
  pub text : NamesText values piece

-- which meaning a byte has, in double quotes or not
abbrev pub IsSign : Bool → ℕ → Sign → Type 0
IsSign quoted byte Backslash = (quoted ≡ true) × (byte ≡ backslash)
IsSign quoted byte Dollar = byte ≡ dollar
IsSign quoted byte Nothing = (byte ≢ dollar) × (quoted ≡ true → byte ≢ backslash)

-- the text begins with a part that gives what the piece gives
pub record IsPiece (quoted : Bool) (text rest : List ℕ) (piece : Piece) : Type 0 where
  pub part : Part
  pub form : IsPart quoted part rest
  pub spelled : text ≡ spell_part part ++ rest
  pub means : (values : List ℕ → List ℕ) → part_value values part ≡ piece_value values piece
  pub whole : (values : List ℕ → List ℕ) (value : List ℕ) → NamesText values piece →
      IsWhole value text → IsWhole (value ++ piece_value values piece) rest

-- where the runs of a value end: in front of a blank or at the end of the text, or in front of
-- a quote that is open
abbrev pub ReadsValue : (List ℕ → List ℕ) → List ℕ → List ℕ → List ℕ → ValueEnd → Type 0
ReadsValue named text was now (Closed more) =
    GivesRuns named text more.now was now × Stops is_solid more.now
ReadsValue named text was now (Open more) =
    (runs : List Run) × AreRuns runs more.now × (text ≡ spell_runs runs ++ more.now) ×
    IsOpen more.now

-- the text begins with no key in front of the byte
abbrev pub LacksKey : ℕ → List ℕ → Type 0
LacksKey byte text = (key rest : List ℕ) → IsKey key → ¬ (text ≡ key ++ (byte ∷ rest))

-- the text begins with a key, the byte and then this
pub record Assigns (byte : ℕ) (text key rest : List ℕ) : Type 0 where
  pub named : IsKey key
  pub whole : text ≡ key ++ (byte ∷ rest)

-- the text doesn't begin with the byte
abbrev pub BeginsOther : ℕ → List ℕ → Type 0
BeginsOther byte text = (rest : List ℕ) → ¬ (text ≡ byte ∷ rest)

abbrev pub listed : Option Assignment → List Assignment
listed None = []
listed (Some a) = a ∷ []

-- the text has a byte
abbrev pub HasByte : List ℕ → Type 0
HasByte [] = ⊥
HasByte (b ∷ bytes) = ⊤

-- the text begins with a byte that is no blank and no `#`
abbrev pub BeginsWord : List ℕ → Type 0
BeginsWord [] = ⊥
BeginsWord (b ∷ bytes) = (is_blank b ≡ false) × (b ≢ hash)

-- the text begins with a blank or a comment
pub record Skips (text rest : List ℕ) : Type 0 where
  pub item : Item
  pub form : IsItem item rest
  pub spelled : text ≡ spell_item item ++ rest
  pub says : (named : List ℕ → List ℕ) (line : ℕ) → said_by named line item ≡ []
  pub utf8 : IsUtf8 rest

-- the text in this line begins with an item, which says this
pub record ReadsItem (named : List ℕ → List ℕ) (line : ℕ) (text rest : List ℕ)
    (assignment : Option Assignment) : Type 0 where
  pub item : Item
  pub form : IsItem item rest
  pub spelled : text ≡ spell_item item ++ rest
  pub says : listed assignment ≡ said_by named line item
  pub utf8 : IsUtf8 rest

-- the text in this line is an assignment with a quote that is open, in that line
pub record OpensQuote (line : ℕ) (text : List ℕ) (at_line : ℕ) : Type 0 where
  pub key : List ℕ
  pub runs : List Run
  pub rest : List ℕ
  pub named : IsKey key
  pub closed : AreRuns runs rest
  pub opened : IsOpen rest
  pub spelled : text ≡ key ++ (equals ∷ (spell_runs runs ++ rest))
  pub place : (front : List ℕ) → line ≡ line_behind front →
      at_line ≡ line_behind (front ++ (key ++ (equals ∷ spell_runs runs)))

-- why the text in this line begins with no item
abbrev pub ItemFault : ℕ → List ℕ → TextFault → Type 0
ItemFault line text (NotUtf8 at_line) = ⊥
ItemFault line text (BadKey at_line) = BeginsNoItem text × (at_line ≡ line)
ItemFault line text (OpenQuote at_line) = OpensQuote line text at_line
ItemFault line text Memory = ⊤

-- the items up to the rest say the assignments that were found behind those before
pub record SoFar (before : List Assignment) (bytes rest : List ℕ)
    (found : List Assignment) (line : ℕ) : Type 0 where
  pub items : List Item
  pub form : AreItems items rest
  pub spelled : bytes ≡ spell_items items ++ rest
  pub says : found ≡ said before [] items
  pub place : line ≡ line_behind (spell_items items)
  pub utf8 : IsUtf8 rest

-- Which fault a text of assignments has first.
use Rattle.std.specs.Prelude.{◌≡◌, ◌≢◌, ◌⊎◌, ℕ, false, List, [], ◌∷◌, ◌++◌, ⊤}
use Rattle.config_text.specs.Assignments.{AreItems, Item, equals, hash, spell_items}
use Rattle.config_text.specs.Faults.{NotUtf8At}
use Rattle.basics.specs.Blanks.{is_blank}
use Rattle.config_text.specs.Lines.{line_behind}
use Rattle.config_text.specs.Values.{AreQuoted, AreRuns, IsKey, LacksQuote, Part, Run, double_quote, single_quote, spell_parts, spell_runs}
use Rattle.config_text.specs.declared.fault.TextFault.{TextFault}
use Rattle.config_text.specs.declared.fault.TextFault.TheVariants.{BadKey, Memory, NotUtf8, OpenQuote}

-- the text begins no blank, no comment and no KEY with `=` behind it
abbrev pub BeginsNoItem : List ℕ → Type 0
BeginsNoItem [] = ⊥
BeginsNoItem (b ∷ bytes) =
    (is_blank b ≡ false) × ((b ≢ hash) ×
    ((key rest : List ℕ) → IsKey key → ¬ (b ∷ bytes ≡ key ++ (equals ∷ rest))))

-- behind some items the text begins no other, in this line
pub record BadKeyAt (bytes : List ℕ) (line : ℕ) : Type 0 where
  pub items : List Item
  pub rest : List ℕ
  pub form : AreItems items rest
  pub spelled : bytes ≡ spell_items items ++ rest
  pub bad : BeginsNoItem rest
  pub place : line ≡ line_behind (spell_items items)

-- the text is a quote that isn't closed
abbrev pub IsOpen : List ℕ → Type 0
IsOpen open_text =
    ((bytes : List ℕ) × LacksQuote bytes × (open_text ≡ single_quote ∷ bytes)) ⊎
    ((parts : List Part) × AreQuoted parts [] × (open_text ≡ double_quote ∷ spell_parts parts))

-- behind some items, a key and some runs of its value a quote is open, in this line
pub record OpenQuoteAt (bytes : List ℕ) (line : ℕ) : Type 0 where
  pub items : List Item
  pub key : List ℕ
  pub runs : List Run
  pub rest : List ℕ
  pub form : AreItems items (key ++ (equals ∷ (spell_runs runs ++ rest)))
  pub named : IsKey key
  pub closed : AreRuns runs rest
  pub opened : IsOpen rest
  pub spelled : bytes ≡ spell_items items ++ (key ++ (equals ∷ (spell_runs runs ++ rest)))
  pub place : line ≡ line_behind (spell_items items ++ (key ++ (equals ∷ spell_runs runs)))

-- a text that isn't UTF-8 has no other fault; memory may run out on any text
abbrev pub FirstFault : List ℕ → TextFault → Type 0
FirstFault bytes (NotUtf8 line) = NotUtf8At bytes line
FirstFault bytes (BadKey line) = BadKeyAt bytes line
FirstFault bytes (OpenQuote line) = OpenQuoteAt bytes line
FirstFault bytes Memory = ⊤

-- Which fault a text has.
use Rattle.std.specs.Prelude.{◌≡◌, ℕ, List, take, ⊤}
use Rattle.std.specs.Str.{IsValidUpTo}
use Rattle.config_text.specs.declared.fault.TextFault.{TextFault}
use Rattle.config_text.specs.declared.fault.TextFault.TheVariants.{BadKey, Memory, NotUtf8, OpenQuote}
use Rattle.config_text.specs.Lines.{line_behind}

-- the first byte of the text that isn't UTF-8 stands in the line
pub record NotUtf8At (bytes : List ℕ) (line : ℕ) : Type 0 where
  pub good : ℕ
  pub front : IsValidUpTo bytes good
  pub place : line ≡ line_behind (take good bytes)

-- why a text has no lines: it isn't UTF-8; memory may run out on any text
abbrev pub LineFault : List ℕ → TextFault → Type 0
LineFault bytes (NotUtf8 line) = NotUtf8At bytes line
LineFault bytes (BadKey line) = ⊥
LineFault bytes (OpenQuote line) = ⊥
LineFault bytes Memory = ⊤

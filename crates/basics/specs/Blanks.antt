-- The blanks, which part the words of a text.
use Rattle.std.specs.Prelude.{ℕ, Bool, ◌||◌, ◌==◌}
use Rattle.basics.specs.declared.blanks.TheConstants.{SPACE, TAB, NEWLINE, CARRIAGE_RETURN}

-- a space, a tab, a newline or a carriage return
abbrev pub is_blank : ℕ → Bool
is_blank b = b == SPACE || (b == TAB || (b == NEWLINE || b == CARRIAGE_RETURN))

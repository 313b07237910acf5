-- What a choice changes of what is installed, line by line.
use Rattle.std.specs.Prelude.{ℕ, Bool, true, false, List, Option, filter, is_some, map}
use Rattle.pkg_state.specs.Package.{Package}
use Rattle.choice_law.specs.Universe.{Offer, Universe, Value, absent, keep, lines, offer_at, package_of, variant}
use Rattle.choice_law.specs.Tree.{Choice, filling}
use Rattle.choice_tree.specs.Places.{numbers}

-- a variant comes, also one that equals what is installed, or what is installed goes; a line that
-- keeps what it has doesn't change, and nor does one that was empty and stays so
abbrev pub is_change : Offer → Value → Bool
is_change o keep = false
is_change o absent = is_some o.installed
is_change o (variant i) = true

-- the choice changes the line; one that isn't decided is as it is
abbrev pub changes_line : Universe → Choice → ℕ → Bool
changes_line u c l = is_change (offer_at u l) (filling u c l)

-- the lines that change, in line order
abbrev pub changed_lines : Universe → Choice → List ℕ
changed_lines u c = filter (changes_line u c) (numbers (lines u) 0)

-- a line that changes: what is installed there goes, and what the choice has comes
pub record Change : Type 0 where
  pub line : ℕ
  pub old : Option Package
  pub new : Option Package

abbrev pub change_on : Universe → Choice → ℕ → Change
change_on u c l =
    record {
      line = l;
      old = (offer_at u l).installed;
      new = package_of (offer_at u l) (filling u c l);
    }

-- all changes, in line order
abbrev pub changes : Universe → Choice → List Change
changes u c = map (change_on u c) (changed_lines u c)

-- States: packages in line order, at most one a line.
use Rattle.std.specs.Prelude.{◌≡◌, ℕ, List, Option, bytes_eq, if◌then◌else◌}
use Rattle.std.specs.List.{find}
use Rattle.std.specs.Map.{keys_of, values_of}
use Rattle.pms_names.specs.Flags.{IsRising}
use Rattle.pkg_state.specs.Package.{Package, line_of, lines_of}

-- the lines rise, so none stands twice
abbrev pub IsState : List Package → Type 0
IsState ps = IsRising (lines_of ps)

-- the first package on the line; in a state it is the only one
abbrev pub on_line : List Package → List ℕ → Option Package
on_line ps line = find (λ p. bytes_eq line (line_of p.facts)) ps

-- on this line the new state has what is given here, and on each other what the old one has
abbrev pub ChangesLine : List Package → List Package → List ℕ → Option Package → Type 0
ChangesLine old new line now =
    (q : List ℕ) → on_line new q ≡ (if bytes_eq line q then now else on_line old q)

-- each package stands at its own line, and the lines rise
pub record HasLines (entries : List (List ℕ × Package)) : Type 0 where
  pub rising : IsRising (keys_of entries)
  pub own : keys_of entries ≡ lines_of (values_of entries)

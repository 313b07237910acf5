-- What is written for groups.
use Rattle.std.specs.Prelude.{◌≡◌, ◌⊎◌, ◌++◌, ℕ, List, [], ◌∷◌, Option, Some, None, slice_get}
use Rattle.std.specs.List.{flat_map}
use Rattle.file_tree.specs.Output.{IsBeginning}
use Rattle.merge_site.specs.declared.group.SiteGroup.{SiteGroup}

-- of the history all groups are acknowledged, or all but its last
abbrev pub AreTold : List ℕ → List ℕ → Type 0
AreTold history acknowledged = (acknowledged ≡ history)
    ⊎ ((last : ℕ) × (history ≡ acknowledged ++ last ∷ []))

-- the lines of the acknowledged groups, in order, and then some beginning of the lines of the
-- groups of the history that are not acknowledged; nothing of these unless the output failed
pub record AreLines (failed : Type 0) (line : ℕ → List ℕ) (history acknowledged text : List ℕ) :
    Type 0 where
  pub rest : List ℕ
  pub order : history ≡ acknowledged ++ rest
  pub cut : List ℕ
  pub begun : IsBeginning (flat_map line rest) cut
  pub uncut : (cut ≡ []) ⊎ failed
  pub whole : text ≡ flat_map line acknowledged ++ cut

abbrev pub line_or_none : Option SiteGroup → List ℕ
line_or_none None = []
line_or_none (Some x) = x.line.items

-- the line that a site writes for the group
abbrev pub line_in : List SiteGroup → ℕ → List ℕ
line_in groups g = line_or_none (slice_get groups g)

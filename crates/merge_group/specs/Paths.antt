-- How far a group is with the paths that it changes, kind by kind.
use Rattle.std.specs.Prelude.{◌≡◌, ℕ, length}
use Rattle.merge_core.specs.Roll.{Standing}
use Rattle.merge_core.specs.declared.step.Step.{Step}
use Rattle.merge_core.specs.declared.step.Step.TheVariants as steps
use Rattle.merge_site.specs.Site.{SiteValue}
use Rattle.merge_group.specs.Working.{Works, group_in, standing_at}
use Rattle.merge_group.specs.declared.opening.PathChange.{PathChange}
use Rattle.merge_group.specs.declared.opening.PathChange.TheVariants as changes

-- the step that changes one such path
abbrev pub step_for : PathChange → Step
step_for changes.Place = steps.PlacePath
step_for changes.Remove = steps.RemovePath

-- the other kind
abbrev pub other_than : PathChange → PathChange
other_than changes.Place = changes.Remove
other_than changes.Remove = changes.Place

-- how many such paths of a group are changed
abbrev pub made_in : Standing → PathChange → ℕ
made_in s changes.Place = s.placed
made_in s changes.Remove = s.removed

-- .. and how many it has
abbrev pub due_in : Standing → PathChange → ℕ
due_in s changes.Place = length s.placements
due_in s changes.Remove = length s.removals

-- a group changed only such paths: of the others just as many are changed as before, and all that
-- it has, and the groups in the tree, are the same
pub record ChangesPaths {T S : Type 0} (c : PathChange) (g : ℕ) (old new : SiteValue T S) : Type 0
  where
    pub works : Works g old new
    pub order : new.keeping.order ≡ old.keeping.order
    pub group : group_in new g ≡ group_in old g
    pub others : made_in (standing_at new g) (other_than c) ≡
        made_in (standing_at old g) (other_than c)

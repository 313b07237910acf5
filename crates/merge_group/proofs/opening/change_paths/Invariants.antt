use Rattle.std.proofs.Common.{◌≡◌, ◌≤◌}
use Rattle.merge_core.specs.Payloads.{IsAt}
use Rattle.merge_core.specs.declared.phase.Phase.TheVariants.{Open}
use Rattle.merge_group.specs.Paths.{ChangesPaths, due_in, made_in}
use Rattle.merge_group.specs.Working.{standing_at}
use Rattle.merge_group.proofs.opening.change_paths.Given as goal

abbrev pub invariant-loop : goal.invariant-loop
invariant-loop g l =
    ChangesPaths l.change l.group l.fn.site l.site
    × IsAt l.site.keeping l.group Open
    × (made_in (standing_at l.site l.group) l.change ≡ l.counter)
    × (due_in (standing_at l.site l.group) l.change ≡ l.count)
    × (l.site.sink ≡ l.fn.site.sink)
    × (g.T.Tree.faults l.fn.site.tree ≤ g.T.Tree.faults l.site.tree)

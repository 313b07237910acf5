use Rattle.std.proofs.Common.{◌≡◌, ◌≤◌, length, take}
use Rattle.merge_fit.specs.Misfits.{AreGood}
use Rattle.merge_site.specs.Booking.{wishes_at}
use Rattle.merge_core.specs.Payloads.{IsAt}
use Rattle.merge_core.specs.declared.phase.Phase.TheVariants.{Building}
use Rattle.merge_group.specs.Granted.{wishes_of}
use Rattle.merge_group.specs.Working.{HasStaged, Works, all_of, standing_at}
use Rattle.merge_group.proofs.staging.stage_packages.Given as goal

abbrev pub invariant-loop-files : goal.invariant-loop-files
invariant-loop-files g l =
    Works l.group l.fn.site l.site
    × (l.site.keeping.order ≡ l.fn.site.keeping.order)
    × IsAt l.site.keeping l.group Building
    × HasStaged (all_of l.yielded) (standing_at l.site l.group)
    × (l.site.sink ≡ l.fn.site.sink)
    × (g.T.Tree.faults l.fn.site.tree ≤ g.T.Tree.faults l.site.tree)
    × AreGood (all_of l.yielded)
    × (l.yielded ≡ take (length l.yielded) l.fn.packages.items)
    × (wishes_at l.site.wishes l.group ≡ wishes_of l.yielded)
    × (length l.site.wishes ≡ length l.fn.site.wishes)

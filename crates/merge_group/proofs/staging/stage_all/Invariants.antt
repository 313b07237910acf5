use Rattle.std.proofs.Common.{◌≡◌, ◌≤◌, ◌++◌, List, length, take}
use Rattle.file_tree.specs.declared.objects.Entry.{Entry}
use Rattle.merge_fit.specs.Misfits.{AreGood}
use Rattle.merge_site.specs.Booking.{wishes_at}
use Rattle.merge_group.specs.Granted.{wishes_for}
use Rattle.merge_core.specs.Payloads.{IsAt}
use Rattle.merge_core.specs.declared.phase.Phase.TheVariants.{Building}
use Rattle.merge_group.specs.Working.{HasStaged, Works, standing_at}
use Rattle.merge_group.proofs.staging.stage_all.Given as goal

abbrev pub invariant-loop-file : goal.invariant-loop-file
invariant-loop-file g l =
    Works l.group l.fn.site l.site
    × (l.site.keeping.order ≡ l.fn.site.keeping.order)
    × IsAt l.site.keeping l.group Building
    × ((before : List Entry) → HasStaged before (standing_at l.fn.site l.group) → HasStaged (before ++ l.yielded) (standing_at l.site l.group))
    × (l.site.sink ≡ l.fn.site.sink)
    × (g.T.Tree.faults l.fn.site.tree ≤ g.T.Tree.faults l.site.tree)
    × AreGood l.yielded
    × (l.yielded ≡ take (length l.yielded) l.fn.files.items)
    × (wishes_at l.site.wishes l.group ≡ wishes_at l.fn.site.wishes l.group ++ wishes_for l.owner l.folder l.yielded)
    × (length l.site.wishes ≡ length l.fn.site.wishes)

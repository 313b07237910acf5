use Rattle.std.proofs.Common.{◌∙◌, ap, arith}
use Rattle.plan_law.specs.Plans.{removed_line}
use Rattle.plan_lives.proofs.Backwards.{noted_more}
use Rattle.plan_lives.proofs.lives.note_removals.Goals as goal

pub loop-removal-preserved : goal.loop-removal-preserved
loop-removal-preserved c =
    noted_more c.args.removals.now c.loop-removal.removal-index c.removal-item.result c.in_ok-line.line c.args.g c.args.places.now.entries c.loop-removal.places.entries c.insert.new.self.entries (omega arith) c.removal-item.is
    (c.in_ok-line.ensures ∙ ap removed_line c.removal.view_is) c.loop-removal.invariant c.in_ok-insert.ensures.updates.0

use Rattle.std.proofs.Common.{◌∙◌, filter, sym}
use Rattle.basics.proofs.Tests.{or-false}
use Rattle.pms_names.specs.Flags.{has}
use Rattle.pms_names.proofs.Sets.{one_set}
use Rattle.merge_groups.proofs.Kept.{rising_kept}
use Rattle.merge_groups.proofs.flags.known_of.Goals as goal

pub returns : goal.returns
returns c =
    let known = has c.args.known.now in
    let on = c.args.flags.now in
    one_set c.loop-flag.kept (filter known on) c.list-listed.ensures.rising (rising_kept known on c.list-flag-items.ensures.rising)
    (λ q. sym (or-false (has c.loop-flag.kept q)) ∙ (rw c.in-None.ensures.steps.0 at c.loop-flag.invariant) q)

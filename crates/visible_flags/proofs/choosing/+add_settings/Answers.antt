use Rattle.pms_names.specs.Flags.{has}
use Rattle.required_use.specs.View.{trees}
use Rattle.visible_flags.proofs.Choices.{next}
use Rattle.visible_flags.proofs.choosing.+add_settings.Goals as goal

pub loop-flag-preserved : goal.loop-flag-preserved
loop-flag-preserved t c =
    next (trees c.args.required.now) (has c.args.flags.now) (has c.in_ok-other.other) c.in-Some.flag.now c.loop-flag.rest.now c.in-Some.later.now c.args.flips _ _ _ c.if-flips-eq0.false c.in-Some.ensures.cases.0 c.in_ok-other.ensures c.in_ok-add_settings.ensures c.loop-flag.invariant

use Rattle.std.proofs.Common.{◌≤◌, length, subst, arith}
use Rattle.std.proofs.lemmas.List.{drop_all}
use Rattle.plan_text.proofs.Sets.{IsGathered, all_gathered}
use Rattle.plan_text.proofs.flags.set_of.Goals as goal

pub returns : goal.returns
returns c =
    let past : length c.args.flags.now ≤ c.loop-flag.flag-index = omega arith in
    all_gathered c.args.flags.now c.loop-flag.set c.requires (subst (λ left. IsGathered c.args.flags.now left c.loop-flag.set) (drop_all c.loop-flag.flag-index c.args.flags.now past) c.loop-flag.invariant)

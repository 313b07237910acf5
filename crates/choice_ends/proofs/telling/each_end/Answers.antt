use Rattle.std.proofs.Common.{◌<◌, arith, length}
use Rattle.choice_tree.specs.Views.{universe_of}
use Rattle.basics.proofs.Membership.{has-at}
use Rattle.profile_folders.proofs.Followed.{zip_more}
use Rattle.choice_ends.specs.Ends.{IsDeadEnd}
use Rattle.choice_ends.proofs.telling.each_end.Goals as goal

pub dead_end-requires : goal.dead_end-requires
dead_end-requires c =
    let xs = c.args.choices.now in
    let within : c.loop-choice.choice-index < length xs = omega arith in
    c.requires c.choice-item.result (has-at xs c.loop-choice.choice-index c.choice-item.result within c.choice-item.is)

pub loop-choice-preserved : goal.loop-choice-preserved
loop-choice-preserved c =
    let xs = c.args.choices.now in
    let within : c.loop-choice.choice-index < length xs = omega arith in
    zip_more (IsDeadEnd (universe_of c.args.universe.now)) xs c.loop-choice.choice-index c.choice-item.result c.loop-choice.ends.items c.push.new.self.items _ within c.choice-item.is c.loop-choice.invariant c.in_ok-dead_end.ensures c.in_ok-push.ensures.items

use Rattle.std.proofs.Common.{rules}
use Rattle.choice_tree.specs.Views.{universe_of}
use Rattle.choice_universe.specs.Offers.{variants_of}
use Rattle.emerge_choose.specs.Wishes.{IsUniverse, wish_value}
use Rattle.emerge_choose.proofs.Apart.{offers_apart}
use Rattle.emerge_choose.proofs.Told.{told_over}
use Rattle.emerge_choose.proofs.choosing.choose_plan.Goals as goal

pub plan_over-requires : goal.plan_over-requires
plan_over-requires c = offers_apart c.args.installed.now (variants_of c.args.candidates.items) (universe_of c.in_ok-universe.universe) c.in_ok-universe.ensures.offers

pub returns-clause-fault : goal.returns-clause-fault
returns-clause-fault c =
    let u = universe_of c.in_ok-universe.universe in
    let wish = wish_value c.args.wish in
    let made : IsUniverse c.args.installed.now (variants_of c.args.candidates.items) wish u = search rules in
    told_over c.args.installed.now (variants_of c.args.candidates.items) c.args.offered.now c.args.hidden.now wish _ u c.plan_over.result made c.in_ok-universe.ensures.update c.plan_over.ensures.fault

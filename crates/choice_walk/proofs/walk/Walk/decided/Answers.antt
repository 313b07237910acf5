use Rattle.std.proofs.Common.{arith}
use Rattle.choice_tree.specs.Views.{universe_of}
use Rattle.choice_walk.specs.Way.{here}
use Rattle.choice_walk.proofs.Way.{decided_there}
use Rattle.choice_walk.proofs.walk.Walk.decided.Goals as goal

pub returns-then-line-len : goal.returns-then-line-len
returns-then-line-len c =
    let walk = c.args.self.now in
    decided_there (universe_of walk.universe.now) (here walk.trail.items) walk.places.items c.args.line c.index.result.now walk.there (let test = c.if-line-len.true in let n = c.len.ensures in omega (arith, test, n)) c.index.ensures

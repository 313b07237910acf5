use Rattle.merge_graph.proofs.Gapless.{greatest_above, greatest_found, greatest_more}
use Rattle.merge_graph.proofs.leveling.highest.Goals as goal

pub loop-level-preserved : goal.loop-level-preserved
loop-level-preserved c =
    greatest_more c.args.levels.now c.loop-level.level-index c.loop-level.highest c.higher-highest.result c.loop-level-test.true c.loop-level.invariant c.higher-highest.ensures.first c.higher-highest.ensures.second c.higher-highest.ensures.either

pub returns-clause-above : goal.returns-clause-above
returns-clause-above c = greatest_above c.args.levels.now c.loop-level.level-index c.loop-level.highest c.loop-level-test.false c.loop-level.invariant

pub returns-clause-found : goal.returns-clause-found
returns-clause-found c = greatest_found c.args.levels.now c.loop-level.level-index c.loop-level.highest c.loop-level-test.false c.loop-level.invariant

use Rattle.dep_group.proofs.ShapeLemmas.{denies-boundary}
use Rattle.dep_group.proofs.shape.flag_of.Goals as goal

pub range-requires-else-on-clause-start_boundary :
    goal.range-requires-else-on-clause-start_boundary
range-requires-else-on-clause-start_boundary c = λ _. denies-boundary c.args.word.now c.args.on c.utf8.word c.if-on.false c.requires

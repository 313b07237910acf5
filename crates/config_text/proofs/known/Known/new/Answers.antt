use Rattle.std.proofs.Common.{◌++◌, ◌∷◌, [], refl, subst, take}
use Rattle.std.proofs.lemmas.List.{take_all}
use Rattle.config_text.specs.Known.{Knows}
use Rattle.config_text.proofs.KnownValues.{knows_next, knows_none}
use Rattle.config_text.proofs.known.Known.new.Goals as goal

pub loop-assignment-init : goal.loop-assignment-init
loop-assignment-init c = knows_none c.new.result c.new.ensures.empty _ refl

pub loop-assignment-preserved : goal.loop-assignment-preserved
loop-assignment-preserved c =
    knows_next c.add.new.self.values c.args.before.now c.loop-assignment.assignment-index _ c.loop-assignment-test.true
    (subst (λ a. Knows c.add.new.self.values (take c.loop-assignment.assignment-index c.args.before.now ++ (a ∷ []))) c.assignment-item.is
    (c.in_ok-add.ensures (take c.loop-assignment.assignment-index c.args.before.now) c.loop-assignment.invariant))

pub returns : goal.returns
returns c = subst (λ l. Knows c.loop-assignment.known.values l) (take_all c.loop-assignment.assignment-index c.args.before.now c.loop-assignment-test.false) c.loop-assignment.invariant

use Rattle.std.proofs.Common.{◌∙◌, subst}
use Rattle.profile_folders.proofs.Followed.{zip_more}
use Rattle.world_text.specs.World.{IsWorldLine, Names}
use Rattle.world_text.proofs.WorldLines.{first_bad}
use Rattle.world_text.proofs.world.read_world.Goals as goal

pub returns-in-Err-clause-fault : goal.returns-in-Err-clause-fault
returns-in-Err-clause-fault c = c.of_text.ensures c.args.bytes.now c.in-Err.ensures.fault

pub returns-in-None-clause-fault : goal.returns-in-None-clause-fault
returns-in-None-clause-fault c =
    first_bad c.args.bytes.now c.deref-line-items.result.now c.loop-line.line-index c.line-item.result c.loop-line.atoms.items (c.deref-line-items.ensures.value ∙ c.in-Ok.ensures.found) c.in-Ok.ensures.utf8 c.loop-line-test.true c.line-item.is c.loop-line.invariant (subst (Names c.line-item.result) c.in-None.is c.in_ok-atom.ensures)

pub loop-line-preserved : goal.loop-line-preserved
loop-line-preserved c = zip_more IsWorldLine c.deref-line-items.result.now c.loop-line.line-index c.line-item.result c.loop-line.atoms.items c.push.new.self.items c.in-Some.atom c.loop-line-test.true c.line-item.is c.loop-line.invariant (subst (Names c.line-item.result) c.in-Some.is c.in_ok-atom.ensures) c.in_ok-push-in-Some.ensures.items

use Rattle.std.proofs.Common.{◌∙◌, ℕ, List, Option, Some, ap, subst}
use Rattle.emerge_find.specs.Worlds.{IsNoWorld}
use Rattle.emerge_find.proofs.world.world_of.Goals as goal

pub returns-clause-fault : goal.returns-clause-fault
returns-clause-fault c =
    subst (λ (t : Option (List ℕ)). IsNoWorld t c.of_text.result) (ap Some c.deref.ensures.value ∙ c.in-Some.ensures)
    (c.of_text.ensures c.deref.result.now c.in-Err.ensures.fault)

use Rattle.std.proofs.Common.{subst, sym}
use Rattle.visible_set.specs.Faults.{IsOfMachine}
use Rattle.visible_set.proofs.ConfigLemmas.{machine_alike}
use Rattle.visible_set.proofs.config.read_config.Goals as goal

pub returns-in-Err-clause-only : goal.returns-in-Err-clause-only
returns-in-Err-clause-only g c t k is = subst IsOfMachine (sym c.fault_of.ensures) (machine_alike _ (c.in-Err.ensures.only t k is))

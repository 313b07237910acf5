use Rattle.std.proofs.Common.{ap, arith, inl, length}
use Rattle.std.proofs.lemmas.Result.{err_from_is_err_and}
use Rattle.file_tree.specs.Disk.{Map}
use Rattle.file_tree.specs.declared.fault.TreeFault.TheVariants as trees
use Rattle.profile_stack.specs.Files.{configured}
use Rattle.visible_set.specs.Configured.{setup_of}
use Rattle.visible_set.proofs.OfferLemmas.{held_value}
use Rattle.visible_set.proofs.Partings.{enough}
use Rattle.visible_set.proofs.reading.offers_by.Goals as goal

pub said_by-requires : goal.said_by-requires
said_by-requires g c = record { within = omega (arith, c.count_of.ensures, ap length c.deref.ensures.value, enough (configured c.args.config.now) c.args.files.now c.requires.files) }

pub returns-in-Err-clause-fault : goal.returns-in-Err-clause-fault
returns-in-Err-clause-fault g c t =
    let m : Map = (g.T.Tree.story c.args.tree.now).now.holds in
    rw c.fault_of_value.ensures (held_value m (setup_of c.args.config.now c.args.files.now) c.in-Err.fault c.in-Err.ensures.fault)

pub returns-in_err-found-clause-fault : goal.returns-in_err-found-clause-fault
returns-in_err-found-clause-fault g c t =
    let q = err_from_is_err_and c.from_residual.result c.from_residual.ensures.1 in
    rw q.1 (inl (c.in_err-found.field-0.0, q.2))

pub returns-in_err-said-clause-fault : goal.returns-in_err-said-clause-fault
returns-in_err-said-clause-fault g c t =
    let q = err_from_is_err_and c.from_residual-in_err-said.result c.from_residual-in_err-said.ensures.1 in
    rw q.1 (inl (trees.Memory, q.2))

pub returns-in_err-offers-clause-fault : goal.returns-in_err-offers-clause-fault
returns-in_err-offers-clause-fault g c t =
    let q = err_from_is_err_and c.from_residual-in_err-offers.result c.from_residual-in_err-offers.ensures.1 in
    rw q.1 (inl (trees.Memory, q.2))

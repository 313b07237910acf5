use Rattle.std.proofs.Common.{◌≡◌, inl, inr, subst}
use Rattle.std.specs.Prelude.{◌⊎◌, IfErr, Result, ⊤}
use Rattle.file_tree.specs.Disk.{Map}
use Rattle.profile_folders.specs.Folders.{FirstFault}
use Rattle.profile_folders.specs.Machine.{IsOfMachine}
use Rattle.profile_folders.specs.declared.fault.ProfileFault.{ProfileFault}
use Rattle.profile_lines.proofs.whole.walk.Goals as goal

pub returns-in-Err-2-clause-found : goal.returns-in-Err-2-clause-found
returns-in-Err-2-clause-found g c t =
    let m : Map = (g.T.Tree.story c.args.tree.now).now.holds in
    let why = subst (λ (r : Result ⊤ ProfileFault). IfErr r (λ e. IsOfMachine e ⊎ FirstFault m c.args.path.now c.find_folders-folders.result.folders.items e)) c.in-Err.is (c.find_folders-folders.ensures.fault t) in
    elim why [
      | inl machine ↦ absurd (cc (c.is_of_machine.ensures.1 machine, c.if-is_of_machine.false))
      | inr first ↦ first
    ]

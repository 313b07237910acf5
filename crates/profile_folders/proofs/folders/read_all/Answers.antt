use Rattle.std.proofs.Common.{◌≡◌, ◌⊎◌, List, None, Some, ap, inl, inr, ℕ}
use Rattle.std.proofs.lemmas.Result.{IfErr-weaker, on_ok_weaker}
use Rattle.file_tree.specs.Disk.{Map, Story}
use Rattle.profile_folders.specs.Folders.{FirstFault}
use Rattle.profile_folders.specs.Machine.{IsOfMachine}
use Rattle.profile_folders.proofs.Steps.{ReadsDeep, walks}
use Rattle.profile_folders.proofs.folders.read_all.Goals as goal

pub returns-clause-found : goal.returns-clause-found
returns-clause-found g c t =
    let m : Map = (g.T.Tree.story c.args.tree.now).now.holds in
    let n : Map = (g.T.Tree.story c.find_start.new.tree).now.holds in
    let n-is : n ≡ m = ap (λ (s : Story). s.now.holds) (c.in_ok-folder.ensures.same t) in
    on_ok_weaker c.read_profile.result
    (λ read. walks m n c.args.path.now c.in_ok-folder.folder c.args.course.now.above.items c.args.course.now.folders.items c.read_profile.new.course.folders.items None n-is c.requires.above c.requires.folders (c.in_ok-folder.ensures.begins t) read)
    (c.read_profile.ensures.found t)

pub returns-clause-fault : goal.returns-clause-fault
returns-clause-fault g c t =
    let m : Map = (g.T.Tree.story c.args.tree.now).now.holds in
    let n : Map = (g.T.Tree.story c.find_start.new.tree).now.holds in
    let n-is : n ≡ m = ap (λ (s : Story). s.now.holds) (c.in_ok-folder.ensures.same t) in
    let now : List (List ℕ) = c.read_profile.new.course.folders.items in
    IfErr-weaker c.read_profile.result (λ e. IsOfMachine e ⊎ ReadsDeep n c.args.course.now.above.items c.in_ok-folder.folder c.args.course.now.folders.items now (Some e)) (λ e. IsOfMachine e ⊎ FirstFault m c.args.path.now now e)
    (λ e h. elim h [
      | inl machine ↦ inl machine
      | inr read ↦ inr (walks m n c.args.path.now c.in_ok-folder.folder c.args.course.now.above.items c.args.course.now.folders.items now (Some e) n-is c.requires.above c.requires.folders (c.in_ok-folder.ensures.begins t) read)
    ])
    (c.read_profile.ensures.fault t)

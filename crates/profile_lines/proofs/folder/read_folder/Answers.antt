use Rattle.std.proofs.Common.{◌≡◌, ap, inl, inr, length}
use Rattle.std.proofs.lemmas.Result.{IfErr-weaker, on_ok_weaker}
use Rattle.file_tree.specs.Disk.{Map, Story}
use Rattle.profile_lines.specs.Files.{Content, content}
use Rattle.profile_lines.proofs.FolderLemmas.{folder_misses, folder_reads, grown_alike}
use Rattle.profile_lines.proofs.folder.read_folder.Goals as goal

pub returns-clause-found : goal.returns-clause-found
returns-clause-found g c t =
    let m : Map = (g.T.Tree.story c.args.tree.now).now.holds in
    let n : Map = (g.T.Tree.story c.read_defaults.new.tree).now.holds in
    let n-is : n ≡ m = ap (λ (s : Story). s.now.holds) (c.in_ok-set.ensures.same t) in
    let was : Content = content c.args.profile.now in
    let set = grown_alike was c.args.folder.now c.in_ok-set.set.items _ _ _ c.in_ok-append.ensures.items (ap length c.deref-2.ensures.value) c.in_ok-note_file.ensures in
    on_ok_weaker c.read_line_files.result (λ reads. folder_reads m n n-is c.args.folder.now was _ c.deref.result.now c.in_ok-set.set.items c.deref.ensures.value (c.in_ok-set.ensures.found t) set (content c.read_line_files.new.profile) reads) (c.read_line_files.ensures.found t)

pub returns-clause-fault : goal.returns-clause-fault
returns-clause-fault g c t =
    let m : Map = (g.T.Tree.story c.args.tree.now).now.holds in
    let n : Map = (g.T.Tree.story c.read_defaults.new.tree).now.holds in
    let n-is : n ≡ m = ap (λ (s : Story). s.now.holds) (c.in_ok-set.ensures.same t) in
    let was : Content = content c.args.profile.now in
    let set = grown_alike was c.args.folder.now c.in_ok-set.set.items _ _ _ c.in_ok-append.ensures.items (ap length c.deref-2.ensures.value) c.in_ok-note_file.ensures in
    IfErr-weaker c.read_line_files.result _ _ (λ e why. elim why [
      | inl machine ↦ inl machine
      | inr miss ↦ inr (folder_misses m n n-is c.args.folder.now was _ c.deref.result.now c.in_ok-set.set.items c.deref.ensures.value (c.in_ok-set.ensures.found t) set e miss)
    ]) (c.read_line_files.ensures.fault t)

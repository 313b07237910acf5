use Rattle.std.proofs.Common.{List, map, subst}
use Rattle.std.specs.Prelude.{IfOk}
use Rattle.vdb_contents.specs.declared.owned.Owned.{Owned}
use Rattle.law_package.specs.Records.{owned_of}
use Rattle.pkg_state.specs.Package.{Package}
use Rattle.vdb_files.specs.Written.{AreFolderFiles, installed_with}
use Rattle.run_files.proofs.files.recorded_files.Goals as goal

pub returns : goal.returns
returns c good =
    subst (λ (p : Package). IfOk c.folder_files.result (λ v. AreFolderFiles (installed_with p (map owned_of c.args.image.now)) v.items)) c.in_ok-recorded.ensures
    (subst (λ (l : List Owned). IfOk c.folder_files.result (λ v. AreFolderFiles (installed_with c.in_ok-recorded.recorded l) v.items)) (c.in_ok-owned.ensures good) c.folder_files.ensures.files)

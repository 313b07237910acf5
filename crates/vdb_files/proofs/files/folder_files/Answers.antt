use Rattle.std.proofs.Common.{◌≡◌, ap, arith, map}
use Rattle.vdb_record.specs.Views.{field_of}
use Rattle.vdb_law.specs.Packages.{Installed}
use Rattle.vdb_files.specs.Written.{file_if_written, installed_with}
use Rattle.vdb_files.proofs.Gathered.{gathered_more}
use Rattle.vdb_files.proofs.Order.{owned_at}
use Rattle.vdb_files.proofs.files.folder_files.Goals as goal

pub loop-file-preserved : goal.loop-file-preserved
loop-file-preserved c =
    let f = file_if_written (installed_with c.args.installed.now.package_is (map owned_at c.in_ok-owned.owned.items)) in
    let is : c.installed.inside.pkg ≡ c.args.installed.now.package_is = ap (λ (p : Installed). p.package_is) c.installed.view_is in
    gathered_more f field_of _ c.loop-file.file-index _ c.loop-file.files.items c.push_file.new.files.items (omega (arith, c.loop-file-test.true)) c.loop-file.invariant
    (rw (c.deref-in-loop-file.ensures.value, is) at c.in_ok-push_file.ensures)

use Rattle.std.proofs.Common.{◌≡◌, map, take}
use Rattle.std.specs.List.{flat_map}
use Rattle.vdb_record.specs.Views.{field_of}
use Rattle.vdb_files.specs.Written.{file_if_written, installed_with}
use Rattle.vdb_files.proofs.Order.{owned_at}
use Rattle.vdb_files.proofs.files.folder_files.Given as goal

abbrev pub invariant-loop-file : goal.invariant-loop-file
invariant-loop-file l = l.files.items ≡ flat_map (file_if_written (installed_with l.installed.package_is (map owned_at l.owned.items))) (map field_of (take l.file-index l.file-items))

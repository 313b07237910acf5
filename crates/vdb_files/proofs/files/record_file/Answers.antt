use Rattle.std.proofs.Common.{◌∙◌, ap}
use Rattle.vdb_law.proofs.FileNames.{name_is_file_name}
use Rattle.vdb_record.specs.Views.{field_of}
use Rattle.vdb_paths.specs.Files.{is_file_name}
use Rattle.vdb_files.proofs.files.record_file.Goals as goal

pub path_of_record-requires : goal.path_of_record-requires
path_of_record-requires c = ap is_file_name c.name.ensures ∙ name_is_file_name (field_of c.args.file)

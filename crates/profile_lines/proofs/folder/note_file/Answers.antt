use Rattle.std.proofs.Common.{◌++◌, ◌∙◌, ap, append-nil, length, sym}
use Rattle.std.specs.Prelude.{List, Option, ℕ}
use Rattle.profile_folders.proofs.Followed.{none_of}
use Rattle.profile_lines.specs.Files.{defaults_file}
use Rattle.profile_lines.proofs.folder.note_file.Goals as goal

pub returns-in-None : goal.returns-in-None
returns-in-None c = sym (ap (λ (p : Option (List ℕ)). c.args.files.now.items ++ defaults_file p (length c.args.set.now)) (none_of c.in_ok-path.field-0 _ _ c.in-None.is c.in_ok-path.ensures) ∙ append-nil c.args.files.now.items)

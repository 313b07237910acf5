use Rattle.std.proofs.Common.{◌∙◌, ap}
use Rattle.std.specs.Prelude.{filter}
use Rattle.profile_folders.specs.LineFiles.{is_file_in}
use Rattle.profile_folders.proofs.Listed.{are_files_in}
use Rattle.profile_folders.proofs.line_file.files_in.Goals as goal

pub returns-clause-found : goal.returns-clause-found
returns-clause-found g c t = are_files_in (g.T.Tree.story c.args.tree.now).now.holds c.args.folder.now c.in_ok-below.below.items c.in_ok-files_among.field-0.items (c.in_ok-below.ensures.answer t) c.in_ok-below.ensures.rising (c.in_ok-files_among.ensures ∙ ap (filter (is_file_in c.args.folder.now)) c.deref.ensures.value)

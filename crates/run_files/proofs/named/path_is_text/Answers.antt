use Rattle.merge_record.proofs.Written.{path_form}
use Rattle.run_files.proofs.named.path_is_text.Goals as goal

pub returns : goal.returns
returns c = path_form c.text-text.result.now c.args.path.now c.text-text.ensures.text c.text-text.utf8 c.text-text.ensures.form

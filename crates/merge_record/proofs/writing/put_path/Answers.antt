use Rattle.std.proofs.Common.{arith}
use Rattle.merge_record.proofs.Written.{path_form, text_fits}
use Rattle.merge_record.proofs.Whole.{is_path-short}
use Rattle.merge_record.proofs.writing.put_path.Goals as goal

pub overflow_cast-text : goal.overflow_cast-text
overflow_cast-text c =
    let form = path_form c.text-text.result.now c.args.path.now c.text-text.ensures.text c.text-text.utf8 c.text-text.ensures.form in
    let fits = text_fits c.text-text.result.now c.args.path.now c.text-text.ensures.text (is_path-short c.args.path.now form) in
    omega (arith, fits)

pub returns-in_err-put_u16-clause-form : goal.returns-in_err-put_u16-clause-form
returns-in_err-put_u16-clause-form c = path_form c.text-text.result.now c.args.path.now c.text-text.ensures.text c.text-text.utf8 c.text-text.ensures.form

pub returns-clause-form : goal.returns-clause-form
returns-clause-form c = path_form c.text-text.result.now c.args.path.now c.text-text.ensures.text c.text-text.utf8 c.text-text.ensures.form

use Rattle.std.proofs.Common.{◌≡◌, ap₂, ap, true}
use Rattle.std.specs.Prelude.{◌&&◌, is_some}
use Rattle.std.proofs.lemmas.Result.{err_from_is_err_and}
use Rattle.emerge_words.specs.Commands.{is_command}
use Rattle.emerge_words.specs.Lines.{line_value}
use Rattle.emerge_words.proofs.Refusals.{refused_for_atom}
use Rattle.emerge_words.proofs.reading.read_good.Goals as goal

pub returns-in_err-command-clause-refused : goal.returns-in_err-command-clause-refused
returns-in_err-command-clause-refused c =
    let line = line_value c.args.line.now in
    let good : is_command line ≡ true = ap₂ (λ a b. a && b) (ap is_some c.requires.kind) c.requires.path in
    let p = err_from_is_err_and c.from_residual.result c.from_residual.ensures.1 in
    rw (p.1, p.2) (refused_for_atom line c.in_err-command.field-0.0 good c.requires.good c.in_err-command.ensures.fault)

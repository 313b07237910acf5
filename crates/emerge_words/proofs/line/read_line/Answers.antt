use Rattle.std.proofs.Common.{◌∙◌, ap}
use Rattle.clap.specs.Words.{app_of, found_of, rows_of}
use Rattle.emerge_words.specs.Lines.{line_of_rows}
use Rattle.emerge_words.proofs.Cuts.{cut_fails, cut_of, rows_of_words}
use Rattle.emerge_words.proofs.line.read_line.Goals as goal

pub returns-in_ok-line_of-in-Ok-clause-cut : goal.returns-in_ok-line_of-in-Ok-clause-cut
returns-in_ok-line_of-in-Ok-clause-cut c =
    cut_of (app_of c.in_ok-command.command) _ c.in_ok-command.ensures c.in-Ok.ensures.kinds

pub returns-in_ok-line_of-in-Ok-clause-line : goal.returns-in_ok-line_of-in-Ok-clause-line
returns-in_ok-line_of-in-Ok-clause-line c =
    c.in_ok-line_of-in-Ok.ensures ∙ ap line_of_rows
    (rows_of_words (app_of c.in_ok-command.command) _ (rows_of (found_of c.in-Ok.matches)) c.in_ok-command.ensures (λ e. (c.in-Ok.ensures.matches e).0))

pub returns-in-Err-clause-fault : goal.returns-in-Err-clause-fault
returns-in-Err-clause-fault c not_cut cut =
    c.fault_of.ensures.cut not_cut (cut_fails (app_of c.in_ok-command.command) _ c.in-Err.error c.in_ok-command.ensures c.in-Err.ensures.kinds cut)

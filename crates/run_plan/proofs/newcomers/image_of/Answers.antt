use Rattle.std.proofs.Common.{Err, ap, sym}
use Rattle.run_plan.proofs.newcomers.image_of.Goals as goal

pub returns-in_ok-try_clone-in-Err-Failed-clause-stops : goal.returns-in_ok-try_clone-in-Err-Failed-clause-stops
returns-in_ok-try_clone-in-Err-Failed-clause-stops g c = (sym c.in_ok-try_clone-in-Err-Failed.ensures, c.in-Err-Failed.ensures.rose (ap Err c.in-Err-Failed.field-0-is))

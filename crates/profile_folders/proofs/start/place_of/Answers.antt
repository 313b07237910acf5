use Rattle.config_text.proofs.BadBytes.{no_bad_byte}
use Rattle.profile_folders.proofs.start.place_of.Goals as goal

pub returns-in-Err : goal.returns-in-Err
returns-in-Err c = λ good. absurd (no_bad_byte c.args.target.now c.in-Err.field-0 good c.in-Err.ensures.line)

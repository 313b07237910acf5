use Rattle.std.proofs.Common.{subst}
use Rattle.config_text.specs.Faults.{LineFault}
use Rattle.config_text.proofs.BadBytes.{no_bad_byte}
use Rattle.world_text.proofs.world.of_text.Goals as goal

pub returns-in-NotUtf8 : goal.returns-in-NotUtf8
returns-in-NotUtf8 c = λ text bad utf8. no_bad_byte text c.in-NotUtf8.line utf8 (subst (LineFault text) c.in-NotUtf8.is bad)

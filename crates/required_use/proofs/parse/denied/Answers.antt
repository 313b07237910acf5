use lib.Utf8.{encode}
use Rattle.std.proofs.Common.{refl}
use Rattle.required_use.proofs.FaultLemmas.{denies-none}
use Rattle.required_use.proofs.parse.denied.Goals as goal

pub returns-in-None : goal.returns-in-None
unfolding encode
returns-in-None c = (refl, denies-none c.args.word.now c.in-None.ensures.cases)

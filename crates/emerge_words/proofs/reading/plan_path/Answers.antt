use lib.Utf8.{encode}
use Rattle.emerge_words.proofs.Plans.{path_stays}
use Rattle.emerge_words.proofs.reading.plan_path.Goals as goal

pub returns-in-None : goal.returns-in-None
unfolding encode
returns-in-None c = path_stays c.args.text.now c.in-None.ensures.cases

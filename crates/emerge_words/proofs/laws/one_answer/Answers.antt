use Rattle.emerge_words.proofs.Exclusive.{never_refused, refused_once}
use Rattle.emerge_words.proofs.laws.one_answer.Goals as goal

pub returns : goal.returns
returns c = record { request = never_refused; refusal = refused_once }

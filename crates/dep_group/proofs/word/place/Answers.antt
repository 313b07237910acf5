use Rattle.dep_group.proofs.WordLemmas.{place-at}
use Rattle.dep_group.proofs.word.place.Goals as goal

pub returns-then-index-words : goal.returns-then-index-words
returns-then-index-words c = place-at c.args.words.now c.args.index _ c.if-index-words.true

use Rattle.std.proofs.Common.{◌≡◌, drop, fold}
use Rattle.std.specs.Option.{option_or}
use Rattle.visible_offers.specs.Words.{said, said_by}
use Rattle.visible_offers.proofs.said.said.Given as goal

abbrev pub invariant-loop-word : goal.invariant-loop-word
invariant-loop-word l = fold (λ before w. option_or (said_by w l.flag) before) l.said (drop l.word-index l.words) ≡ said l.words l.flag

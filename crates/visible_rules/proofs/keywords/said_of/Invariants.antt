use Rattle.std.proofs.Common.{map, take}
use Rattle.visible_rules.specs.Heard.{Remembers}
use Rattle.visible_rules.specs.Keywords.{all_words}
use Rattle.visible_rules.proofs.keywords.said_of.Given as goal

abbrev pub invariant-loop-line : goal.invariant-loop-line
invariant-loop-line l = Remembers l.said (all_words l.bare l.facts (map (λ x. x.now) (take l.line-index l.line-items)))

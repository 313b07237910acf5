use Rattle.std.proofs.Common.{◌≡◌, ◌++◌, length, map}
use Rattle.std.specs.List.{flat_map}
use Rattle.config_vars.specs.Judged.{counted}
use Rattle.visible_offers.specs.Words.{words_by}
use Rattle.visible_offers.proofs.words.add_file.Given as goal

abbrev pub invariant-loop-assignment : goal.invariant-loop-assignment
invariant-loop-assignment l = l.said.items ++ flat_map (words_by (map (λ x. x.now) l.variables)) (counted l.rest) ≡ l.fn.said.items ++ flat_map (words_by (map (λ x. x.now) l.variables)) (counted l.fn.assigned)

abbrev pub decreases-loop-assignment : goal.decreases-loop-assignment
decreases-loop-assignment l = length l.rest

use Rattle.std.proofs.Common.{◌≡◌, ◌++◌, drop}
use Rattle.choice_tree.specs.Candidates.{varied}
use Rattle.choice_tree.specs.Shown.{candidates_of}
use Rattle.choice_tree.proofs.gathering.push_varied.Given as goal

abbrev pub invariant-loop-place : goal.invariant-loop-place
invariant-loop-place l = candidates_of l.out.items ++ varied l.line l.place (drop l.place l.owner-items) ≡ candidates_of l.fn.out.items ++ varied l.line 0 l.fn.offer.variants.items

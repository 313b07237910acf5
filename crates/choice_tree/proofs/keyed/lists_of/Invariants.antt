use Rattle.std.proofs.Common.{◌≡◌, ℕ, List, map}
use Rattle.choice_tree.specs.Keys.{keyed, lines_at}
use Rattle.choice_tree.specs.Views.{offer_of}
use Rattle.choice_tree.proofs.keyed.lists_of.Given as goal

abbrev pub invariant-loop-line : goal.invariant-loop-line
invariant-loop-line l = (text : List ℕ) → lines_at l.lists text ≡ keyed l.key (map offer_of l.offers) text l.line

use Rattle.std.proofs.Common.{◌≡◌, List, take, ℕ}
use Rattle.std.specs.BTreeSet.{contains_text}
use Rattle.std.specs.List.{list_any}
use Rattle.run_turns.specs.Plans.{names_folder}
use Rattle.run_turns.proofs.holding.named_folders.Given as goal

abbrev pub invariant-loop-group : goal.invariant-loop-group
invariant-loop-group l = (q : List ℕ) → contains_text l.named q ≡ list_any (λ g. names_folder g.removals q) (take l.group-index l.plan)

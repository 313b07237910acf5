use Rattle.std.proofs.Common.{◌≡◌, ◌||◌, List, take, ℕ}
use Rattle.std.specs.BTreeSet.{contains_text}
use Rattle.run_turns.specs.Plans.{names_folder}
use Rattle.run_turns.proofs.holding.add_folders.Given as goal

abbrev pub invariant-loop-removal : goal.invariant-loop-removal
invariant-loop-removal l = (q : List ℕ) → contains_text l.named q ≡ (contains_text l.fn.named q || names_folder (take l.removal-index l.removals) q)

use Rattle.std.proofs.Common.{◌≡◌, ◌++◌, ◌-◌, Some, false, filter, length, true}
use Rattle.std.specs.List.{flat_map}
use Rattle.choice_law.specs.Universe.{conflicts}
use Rattle.choice_tree.specs.Candidates.{free_line}
use Rattle.choice_tree.specs.Options.{in_order, ousting}
use Rattle.choice_tree.specs.Places.{numbers}
use Rattle.choice_tree.specs.Seen.{places_of}
use Rattle.choice_tree.specs.Views.{decisions_of}
use Rattle.choice_tree.proofs.choosing.push_ousting_of.Given as goal

abbrev pub invariant-loop-line : goal.invariant-loop-line
invariant-loop-line l = decisions_of l.out.items ++ flat_map (λ m. in_order l.update (filter (λ x. conflicts true x.is l.gone) (free_line false (places_of l.places) m))) (numbers (length l.places - l.line) l.line) ≡ decisions_of l.fn.out.items ++ ousting l.update (places_of l.places) (Some l.gone)

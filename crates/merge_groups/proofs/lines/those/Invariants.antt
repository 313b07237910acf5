use Rattle.std.proofs.Common.{◌≡◌, ◌++◌, ◌-◌, map}
use Rattle.choice_law.specs.Universe.{lines}
use Rattle.choice_tree.specs.Places.{numbers}
use Rattle.choice_tree.specs.Views.{universe_of}
use Rattle.merge_groups.specs.Changes.{those}
use Rattle.merge_groups.proofs.Gathered.{ahead}
use Rattle.merge_groups.proofs.lines.those.Given as goal

abbrev pub invariant-loop-line : goal.invariant-loop-line
invariant-loop-line l =
    let u = universe_of l.universe in
    map (λ p. p.now) l.out.items ++ ahead l.part u l.choice (numbers (lines u - l.line) l.line)
    ≡ those l.part u l.choice

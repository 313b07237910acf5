use Rattle.std.proofs.Common.{◌≡◌, ℕ, take, true}
use Rattle.std.specs.BTreeSet.{contains}
use Rattle.std.specs.Ordering.{nat_cmp}
use Rattle.std.specs.Prelude.{slice_index}
use Rattle.basics.specs.Members.{Has}
use Rattle.merge_graph.proofs.sweep.add_all.Given as goal

abbrev pub invariant-loop-number : goal.invariant-loop-number
invariant-loop-number l =
    ((x : ℕ) → contains nat_cmp l.fn.ready x ≡ true → contains nat_cmp l.ready x ≡ true)
    × ((k : ℕ) → Has (take l.number-index l.numbers) k → contains nat_cmp l.ready (slice_index l.firsts k) ≡ true)

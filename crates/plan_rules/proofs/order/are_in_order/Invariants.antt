use Rattle.std.proofs.Common.{ℕ, List, map, take}
use Rattle.std.specs.BTreeMap.{get_by}
use Rattle.std.specs.Cmp.Lexicographic.{slice_cmp}
use Rattle.std.specs.Ordering.{nat_cmp}
use Rattle.plan_rules.specs.Changes.{change_of}
use Rattle.plan_rules.proofs.Gone.{AreGone}
use Rattle.plan_rules.proofs.order.are_in_order.Given as goal

abbrev pub invariant-loop-change : goal.invariant-loop-change
invariant-loop-change l = AreGone l.reach.groups.now (map change_of (take l.change-index l.changes)) (λ (line : List ℕ). get_by (λ k. slice_cmp nat_cmp line k.now) l.last)

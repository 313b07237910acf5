use Rattle.std.proofs.Common.{map}
use Rattle.merge_edges.specs.Views.{change_of}
use Rattle.merge_groups.specs.Rows.{AreGroups}
use Rattle.merge_groups.proofs.grouping.groups_of.Given as goal

abbrev pub invariant-loop-k : goal.invariant-loop-k
invariant-loop-k l = AreGroups (map change_of l.changes) (map (λ r. r.items) l.rows) (map (λ r. r.items) l.afters) l.k l.groups.items

use Rattle.std.proofs.Common.{map}
use Rattle.plan_lives.specs.Index.{plan_of, start_of}
use Rattle.plan_text.specs.Plans.{group_value}
use Rattle.merge_groups.proofs.Told.{AreFirst}
use Rattle.merge_groups.proofs.writing.groups_in.Given as goal

abbrev pub invariant-loop-g : goal.invariant-loop-g
invariant-loop-g l = AreFirst (plan_of l.index) (start_of l.index) l.g (map group_value l.texts.items)

use Rattle.std.specs.List.{list_any}
use Rattle.std.proofs.Common.{◌≡◌, drop}
use Rattle.dep_group.specs.Trees.{is_any_of, opens_any}
use Rattle.dep_group.specs.Maps.{opener_map}
use Rattle.dep_group.proofs.reader.any_of_is_open.Given as goal

abbrev pub invariant-loop-frame : goal.invariant-loop-frame
invariant-loop-frame g l = list_any (λ f. opens_any is_any_of (opener_map g.N.Node.kind f.opener)) l.stack ≡ list_any (λ f. opens_any is_any_of (opener_map g.N.Node.kind f.opener)) (drop l.frame-index l.stack)

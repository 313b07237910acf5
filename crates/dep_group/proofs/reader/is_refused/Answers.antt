use Rattle.std.proofs.Common.{◌∙◌, ap, sym, ◌&&◌}
use Rattle.dep_group.specs.Trees.{is_any_of}
use Rattle.dep_group.proofs.NodeLemmas.{in_any_of-stacked}
use Rattle.dep_group.proofs.reader.is_refused.Goals as goal

pub returns-then-any_of_is_open : goal.returns-then-any_of_is_open
returns-then-any_of_is_open g c =
    c.is_barred.ensures ∙ ap (λ b. b && g.N.Node.barred (g.N.Node.said c.args.leaf.now)) (c.if-any_of_is_open.ensures ∙ sym (in_any_of-stacked is_any_of g.N.Node.kind g.N.Node.view c.args.stack.now))

pub returns-else-any_of_is_open : goal.returns-else-any_of_is_open
returns-else-any_of_is_open g c =
    c.if-any_of_is_open.false ∙ ap (λ b. b && g.N.Node.barred (g.N.Node.said c.args.leaf.now)) (c.if-any_of_is_open.ensures ∙ sym (in_any_of-stacked is_any_of g.N.Node.kind g.N.Node.view c.args.stack.now))

use Rattle.std.specs.Vec.Iter.{into_iter_items}
use Rattle.std.proofs.Common.{◌≡◌, ◌∙◌, ◌+◌, ap, length, arith, map, rules}
use Rattle.std.proofs.lemmas.Result.{err_from_is_err_and, IfOk-weaker, IfErr-weaker}
use Rattle.dep_group.specs.Maps.{opener_map, token_map}
use Rattle.dep_group.specs.Nodes.{read_on, stacked}
use Rattle.dep_group.specs.Trees.{is_any_of}
use Rattle.dep_group.proofs.NodeLemmas.{read-end, read-token}
use Rattle.dep_group.proofs.reader.read_nodes.Goals as goal

pub loop-at-preserved : goal.loop-at-preserved
loop-at-preserved g c =
    let steps = c.in-Some.ensures.steps in
    let count : c.in-Some.at + 1 ≡ c.next.new.self.count = search rules in
    let here = c.in_ok-step.ensures.ok (map (token_map g.N.Node.kind g.N.Node.said) (into_iter_items c.next.new.self.iter)) in
    record {
      counted = search rules;
      left = search rules;
      same = c.loop-at.invariant.same ∙ read-token g.N.Node.kind g.N.Node.said is_any_of g.N.Node.barred _ _ c.in-Some.token _ c.in-Some.at _ _ _ _ steps.0.0 steps.1 here ∙ ap (read_on g.N.Node.kind g.N.Node.view g.N.Node.barred c.step.new.reader (map (token_map g.N.Node.kind g.N.Node.said) (into_iter_items c.next.new.self.iter))) count;
    }

pub returns-in_err-step-clause-err : goal.returns-in_err-step-clause-err
returns-in_err-step-clause-err g c =
    let p = err_from_is_err_and c.from_residual.result c.from_residual.ensures.1 in
    let steps = c.in-Some.ensures.steps in
    rw (p.1, p.2) (λ real.
    c.loop-at.invariant.same
    ∙ read-token g.N.Node.kind g.N.Node.said is_any_of g.N.Node.barred _ _ c.in-Some.token _ c.in-Some.at _ _ _ _ steps.0.0 steps.1 (c.in_err-step.ensures.err real (map (token_map g.N.Node.kind g.N.Node.said) (into_iter_items c.next.new.self.iter))))

pub returns-clause-ok : goal.returns-clause-ok
returns-clause-ok g c =
    let steps = c.in-None.ensures.steps in
    let none : length (into_iter_items c.loop-at.at-iterator.iter) ≡ 0 = omega (arith, steps.0.0) in
    let end = read-end g.N.Node.kind g.N.Node.said is_any_of g.N.Node.barred (into_iter_items c.loop-at.at-iterator.iter) c.loop-at.at-iterator.count c.len-count.result (opener_map g.N.Node.kind c.loop-at.reader.begun) (stacked g.N.Node.kind g.N.Node.view c.loop-at.reader.stack.items) (map g.N.Node.view c.loop-at.reader.done.items) none (omega arith) in
    IfOk-weaker c.finish.result _ _ (λ nodes h. c.loop-at.invariant.same ∙ end ∙ h) c.finish.ensures.ok

pub returns-clause-err : goal.returns-clause-err
returns-clause-err g c =
    let steps = c.in-None.ensures.steps in
    let none : length (into_iter_items c.loop-at.at-iterator.iter) ≡ 0 = omega (arith, steps.0.0) in
    let end = read-end g.N.Node.kind g.N.Node.said is_any_of g.N.Node.barred (into_iter_items c.loop-at.at-iterator.iter) c.loop-at.at-iterator.count c.len-count.result (opener_map g.N.Node.kind c.loop-at.reader.begun) (stacked g.N.Node.kind g.N.Node.view c.loop-at.reader.stack.items) (map g.N.Node.view c.loop-at.reader.done.items) none (omega arith) in
    IfErr-weaker c.finish.result _ _ (λ e h real. c.loop-at.invariant.same ∙ end ∙ h) c.finish.ensures.err

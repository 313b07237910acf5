use Rattle.std.specs.Prelude.{None, Err}
use Rattle.std.proofs.Common.{◌≡◌, ◌≢◌, ◌-◌, ◌∙◌, ap, arith}
use Rattle.std.proofs.lemmas.Grind.{common_steps}
use Rattle.dep_group.specs.declared.token.GroupFault.TheVariants as fault
use Rattle.dep_group.specs.Trees.{is_any_of}
use Rattle.dep_group.proofs.NodeLemmas.{read-begun}
use Rattle.dep_group.proofs.reader.step.Goals as goal
use Rattle.dep_group.proofs.reader.step.Goals.{in-Opens, in_default}

pub returns-then-is_some-clause-ok : goal.returns-then-is_some-clause-ok
returns-then-is_some-clause-ok g c = elim c.match-token.branch [
  | in-Opens w ↦ rw (w.in-Opens.is, w.result-is, w.reader-is) w.open.ensures.ok
  | in_default w ↦ rw w.result-is tt
]

pub returns-then-is_some-clause-err : goal.returns-then-is_some-clause-err
returns-then-is_some-clause-err g c = elim c.match-token.branch [
  | in-Opens w ↦ rw (w.in-Opens.is, w.result-is) w.open.ensures.err
  | in_default w ↦
      let some : c.args.reader.now.begun ≢ None = λ e. grind (arith, common_steps) in
      let before : c.args.at - 1 ≡ w.saturating_sub.result = grind (arith, common_steps) in
      rw w.result-is (λ real rest.
      read-begun g.N.Node.kind g.N.Node.said is_any_of g.N.Node.barred c.args.token rest c.args.at c.args.reader.now.begun _ _ some w.in_default.not-Opens
      ∙ ap (λ n. Err (fault.Leaf n)) before)
]

pub returns-in-Leaf-clause-ok : goal.returns-in-Leaf-clause-ok
returns-in-Leaf-clause-ok g c = rw c.in-Leaf.is c.push_leaf.ensures.ok

pub returns-in-Leaf-clause-err : goal.returns-in-Leaf-clause-err
returns-in-Leaf-clause-err g c = rw c.in-Leaf.is c.push_leaf.ensures.err

pub returns-in-Opens-token-clause-ok : goal.returns-in-Opens-token-clause-ok
returns-in-Opens-token-clause-ok g c = rw c.in-Opens-token.is c.open-in-Opens-token.ensures.ok

pub returns-in-Opens-token-clause-err : goal.returns-in-Opens-token-clause-err
returns-in-Opens-token-clause-err g c = rw c.in-Opens-token.is c.open-in-Opens-token.ensures.err

pub returns-in-Closes-clause-ok : goal.returns-in-Closes-clause-ok
returns-in-Closes-clause-ok g c = rw c.in-Closes.is c.close.ensures.ok

pub returns-in-Closes-clause-err : goal.returns-in-Closes-clause-err
returns-in-Closes-clause-err g c = rw c.in-Closes.is c.close.ensures.err

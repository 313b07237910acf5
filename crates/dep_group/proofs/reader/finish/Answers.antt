use Rattle.std.specs.Prelude.{map}
use Rattle.std.proofs.Common.{◌∙◌, ap, sym, ◌≡◌, ◌<◌, length, arith, None, Err}
use Rattle.std.proofs.lemmas.Grind.{common_steps}
use Rattle.dep_group.specs.declared.token.GroupFault.TheVariants as fault
use Rattle.dep_group.specs.Reading.{finished}
use Rattle.dep_group.specs.Maps.{opener_map}
use Rattle.dep_group.specs.Nodes.{stacked}
use Rattle.dep_group.proofs.NodeLemmas.{finished-open}
use Rattle.dep_group.proofs.reader.finish.Goals as goal

pub returns-clause-err : goal.returns-clause-err
returns-clause-err g c =
    let some : 0 < length c.args.reader.stack.items = grind (arith, common_steps) in
    let none : c.args.reader.begun ≡ None = grind (arith, common_steps) in
    let done = map g.N.Node.view c.args.reader.done.items in
    ap (λ b. finished c.args.at (opener_map g.N.Node.kind b) (stacked g.N.Node.kind g.N.Node.view c.args.reader.stack.items) done) none
    ∙ finished-open g.N.Node.kind g.N.Node.view c.args.at c.args.reader.stack.items c.index.result.now done some
    ∙ ap (λ f. Err (fault.Open f.at)) (sym c.index.ensures)

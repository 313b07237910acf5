use Rattle.std.proofs.Common.{◌≡◌, ◌∙◌, length, sym}
use Rattle.std.proofs.lemmas.Iterator.Adapters.{YieldsList-from_vec}
use Rattle.std.proofs.lemmas.Iterator.Consumers.{YieldsList-turn}
use Rattle.std.proofs.lemmas.Result.{err_from_is_err_and}
use Rattle.tree_mem.specs.Items.{Item}
use Rattle.tree_mem.proofs.Repeats.{distinct-item, fault-next, front-item, held-item}
use Rattle.tree_mem.proofs.sorting.sorted.Goals as goal

pub loop-path-preserved : goal.loop-path-preserved
loop-path-preserved c =
    let e : Item = (c.in-Some.path, c.in-Some.object) in
    let long : c.into_iter-path-iterator.result.rest.len ≡ length c.args.objects.items = cc in
    let known = YieldsList-from_vec c.args.objects.items c.into_iter-path-iterator.ensures.into_iter_gives.0 long in
    let t = YieldsList-turn known c.loop-path.yielded _ c.loop-path.yielded_by c.next.result c.next.new.self e c.in-Some.is c.next.ensures.steps in
    let i = c.loop-path.invariant in
    let none = rw i.same at c.in_ok-add.ensures.fresh in
    record {
      rising = c.in_ok-add.ensures.rising;
      same = rw i.same at c.in_ok-add.ensures.held ∙ sym (held-item c.loop-path.yielded e none);
      distinct = distinct-item c.loop-path.yielded e i.distinct none;
      front = front-item c.args.objects.items c.loop-path.yielded e i.front t.0 t.1;
    }

pub returns-in_err-add-clause-fault : goal.returns-in_err-add-clause-fault
returns-in_err-add-clause-fault c =
    let p = err_from_is_err_and c.from_residual-in_err-add.result c.from_residual-in_err-add.ensures.1 in
    let e : Item = (c.in-Some.path, c.in-Some.object) in
    let long : c.into_iter-path-iterator.result.rest.len ≡ length c.args.objects.items = cc in
    let known = YieldsList-from_vec c.args.objects.items c.into_iter-path-iterator.ensures.into_iter_gives.0 long in
    let t = YieldsList-turn known c.loop-path.yielded _ c.loop-path.yielded_by c.next.result c.next.new.self e c.in-Some.is c.next.ensures.steps in
    let i = c.loop-path.invariant in
    rw (p.1, p.2) (fault-next c.args.objects.items c.loop-path.yielded c.loop-path.sorted.items e c.in_err-add.field-0.0 i.same i.distinct i.front t.0 t.1 c.in_err-add.ensures.fault)

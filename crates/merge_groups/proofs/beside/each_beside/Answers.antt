use denote.Ref.{Bor}
use Rattle.std.proofs.Common.{◌+◌, List, arith, map, subst, sym, take}
use Rattle.std.specs.List.{AllZip}
use Rattle.dep_atom.specs.Values.{AtomValue, atom_value}
use Rattle.dep_atom.specs.declared.atom.Atom.{Atom}
use Rattle.dep_atom.specs.declared.slot.Bind.{Bind}
use Rattle.plan_lives.specs.Index.{plan_of, start_of}
use Rattle.plan_model.proofs.Pairs.{seen_at, seen_within, zip_next}
use Rattle.merge_groups.specs.Written.{IsBindOf}
use Rattle.merge_groups.proofs.beside.each_beside.Goals as goal

pub loop-leaf-preserved : goal.loop-leaf-preserved
loop-leaf-preserved c =
    let index = c.args.index.now in
    let R = IsBindOf (plan_of index) (start_of index) c.args.g c.args.asker.now in
    let f : Bor Atom → AtomValue = λ leaf. atom_value leaf.now in
    let xs = map f c.args.leaves.now in
    let i = c.loop-leaf.leaf-index in
    subst (λ (ys : List Bind). AllZip R (take (i + 1) xs) ys) (sym {A = List Bind} c.in_ok-push.ensures.items)
    (zip_next R xs c.loop-leaf.binds.items i (f c.leaf-item.result) c.in_ok-bind_of.field-0 (seen_within f c.args.leaves.now i (omega arith)) (seen_at f c.args.leaves.now i c.leaf-item.result (omega arith) c.leaf-item.is) c.loop-leaf.invariant c.in_ok-bind_of.ensures)

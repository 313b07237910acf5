use Rattle.std.proofs.Common.{arith, filter, refl}
use Rattle.dep_atom.specs.Values.{atom_value}
use Rattle.choice_tree.specs.Seen.{places_of}
use Rattle.merge_edges.specs.Found.{is_hit}
use Rattle.merge_edges.proofs.Keyed.{gathered, hit_under}
use Rattle.merge_edges.proofs.apart.hit_lines.Goals as goal

pub returns : goal.returns
returns c =
    let around = c.args.around.now in
    let ss = places_of around.places.now in
    let a = atom_value c.args.atom.now in
    let asker = c.args.asker.now in
    let items = c.lines_named-line-items.result.now in
    gathered (filter (is_hit ss asker a)) refl items c.loop-line.line-index c.loop-line.hit.items _ (omega arith) c.loop-line.invariant
    (hit_under ss a asker around.named.now.lists c.text.result.now items around.are_named c.text.ensures.text c.lines_named-line-items.ensures)

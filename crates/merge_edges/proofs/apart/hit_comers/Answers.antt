use Rattle.std.proofs.Common.{◌&&◌, ℕ, Bool, arith, filter, refl}
use Rattle.dep_atom.specs.Values.{atom_value}
use Rattle.choice_law.specs.Universe.{is_new}
use Rattle.choice_tree.specs.Places.{value_in}
use Rattle.choice_tree.specs.Seen.{places_of}
use Rattle.merge_edges.specs.Found.{is_hit, place_at}
use Rattle.merge_edges.proofs.Keyed.{both_under, gathered}
use Rattle.merge_edges.proofs.apart.hit_comers.Goals as goal

pub returns : goal.returns
returns c =
    let around = c.args.around.now in
    let ss = places_of around.places.now in
    let a = atom_value c.args.atom.now in
    let asker = c.args.asker.now in
    let items = c.lines_named-line-items.result.now in
    let new : ℕ → Bool = λ (l : ℕ). is_new (value_in (place_at ss l)) in
    gathered (filter (λ (l : ℕ). new l && is_hit ss asker a l)) refl items c.loop-line.line-index c.loop-line.hit.items _ (omega arith) c.loop-line.invariant
    (both_under ss a asker around.named.now.lists c.text.result.now items around.are_named c.text.ensures.text c.lines_named-line-items.ensures new)

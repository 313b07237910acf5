use Rattle.std.proofs.Common.{ℕ, Bool, arith, filter, refl}
use Rattle.std.specs.Prelude.{bytes_eq}
use Rattle.dep_atom.specs.Ids.{id_text}
use Rattle.choice_tree.specs.Places.{is_one, package_in}
use Rattle.choice_tree.specs.Seen.{places_of}
use Rattle.merge_edges.specs.Found.{place_at}
use Rattle.merge_edges.proofs.Keyed.{gathered, told_under}
use Rattle.merge_edges.proofs.apart.told_lines.Goals as goal

pub returns : goal.returns
returns c =
    let ss = places_of c.args.places.now in
    let text = c.args.text.now in
    let items = c.get-line-items.result.now in
    let test : ℕ → Bool = λ (l : ℕ). is_one (λ q. bytes_eq text (id_text q.facts.id)) (package_in (place_at ss l)) in
    gathered (filter test) refl items c.loop-line.line-index c.loop-line.lines.items _ (omega arith) c.loop-line.invariant
    (told_under ss c.args.told.now.lists text items c.requires c.get-line-items.ensures)

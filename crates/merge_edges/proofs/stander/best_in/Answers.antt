use Rattle.std.proofs.Common.{◌∙◌}
use Rattle.dep_atom.specs.Values.{atom_value}
use Rattle.choice_tree.specs.Seen.{places_of}
use Rattle.merge_edges.proofs.Keyed.{best_under}
use Rattle.merge_edges.proofs.stander.best_in.Goals as goal

pub returns : goal.returns
returns c =
    let around = c.args.around.now in
    c.best_among.ensures
    ∙ best_under (places_of around.places.now) (atom_value c.args.atom.now) c.args.asker.now around.named.now.lists c.text.result.now c.lines_named-lines.result.now around.are_named c.text.ensures.text c.lines_named-lines.ensures

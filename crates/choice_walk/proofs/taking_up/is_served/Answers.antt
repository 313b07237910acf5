use Rattle.std.proofs.Common.{◌∙◌}
use Rattle.dep_atom.specs.Values.{atom_value}
use Rattle.choice_tree.specs.Seen.{places_of}
use Rattle.choice_tree.proofs.Under.{decided_keyed}
use Rattle.choice_walk.proofs.taking_up.is_served.Goals as goal

pub returns : goal.returns
returns c =
    let around = c.args.around.now in
    c.any_decides.ensures
    ∙ decided_keyed (places_of around.places.now) around.named.now.lists (atom_value c.args.atom.now) c.text.result.now c.lines_named-lines.result.now around.are_named c.text.ensures.text c.lines_named-lines.ensures

use Rattle.std.proofs.Common.{◌∙◌}
use Rattle.dep_atom.specs.Values.{atom_value}
use Rattle.choice_tree.specs.Seen.{places_of}
use Rattle.choice_walk.proofs.MayStand.{possible_keyed}
use Rattle.choice_walk.proofs.possible.PossiblePresent.some_match.Goals as goal

pub returns : goal.returns
returns c =
    let around = c.args.self.now.around.now in
    c.any_may_match.ensures
    ∙ possible_keyed (places_of around.places.now) around.named.now.lists (atom_value c.args.atom.now) c.args.asker.now c.text.result.now c.lines_named-lines.result.now around.are_named c.text.ensures.text c.lines_named-lines.ensures

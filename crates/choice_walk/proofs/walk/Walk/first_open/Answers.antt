use Rattle.std.proofs.Common.{◌∙◌, List, ap, length, map}
use Rattle.std.specs.List.{find}
use Rattle.dep_atom.specs.Values.{atom_value}
use Rattle.dep_atom.specs.declared.atom.Atom.{Atom}
use Rattle.choice_tree.specs.Open.{is_open_of, obligations}
use Rattle.choice_tree.specs.Seen.{places_of}
use Rattle.choice_tree.specs.Views.{universe_of}
use Rattle.choice_walk.specs.Way.{here}
use Rattle.choice_walk.proofs.Found.{same_first}
use Rattle.choice_walk.proofs.walk.Walk.first_open.Goals as goal

pub returns-clause-found : goal.returns-clause-found
returns-clause-found c =
    let ps = c.new-around.result.places.now in
    let walk = c.args.self.now in
    c.in_ok-found.ensures.found
    ∙ (ap (λ (atoms : List Atom). find (is_open_of (places_of ps)) (obligations (map atom_value atoms) (length ps)))
    c.deref-2.ensures.value
    ∙ same_first (universe_of walk.universe.now) (here walk.trail.items) ps (ap places_of (c.new-around.ensures ∙ c.deref.ensures.value) ∙ walk.there))

use Rattle.std.proofs.Common.{◌∙◌, None, Some, length, map, refl, sym}
use Rattle.std.specs.List.{find, flat_map}
use Rattle.dep_atom.specs.Values.{atom_value}
use Rattle.choice_law.specs.Tree.{absence}
use Rattle.choice_tree.specs.Open.{is_open_of, obligation_of, obligations_of}
use Rattle.choice_tree.specs.Places.{numbers}
use Rattle.choice_tree.specs.Seen.{places_of}
use Rattle.choice_walk.proofs.Found.{all_found}
use Rattle.choice_walk.proofs.taking_up.first_of_all.Goals as goal

pub returns-in-Some-clause-found : goal.returns-in-Some-clause-found
returns-in-Some-clause-found c =
    let ps = c.args.around.now.places.now in
    let test = is_open_of (places_of ps) in
    sym (all_found test (map atom_value c.args.atoms.now) (length ps) (Some (atom_value c.in-Some.atom.now))
    (find test (flat_map (obligations_of (length ps)) (numbers (length ps) 0))) (find (λ l. test (absence l)) (numbers (length ps) 0))
    c.in-Some.ensures refl refl)

pub returns-in-Some-first_of_packages-clause-found : goal.returns-in-Some-first_of_packages-clause-found
returns-in-Some-first_of_packages-clause-found c =
    let ps = c.args.around.now.places.now in
    let test = is_open_of (places_of ps) in
    sym (all_found test (map atom_value c.args.atoms.now) (length ps) None
    (Some (obligation_of c.in-Some-first_of_packages.found)) (find (λ l. test (absence l)) (numbers (length ps) 0))
    c.in_default.ensures c.in-Some-first_of_packages.ensures.found refl)

pub returns-in-Some-2-clause-found : goal.returns-in-Some-2-clause-found
returns-in-Some-2-clause-found c =
    let ps = c.args.around.now.places.now in
    let test = is_open_of (places_of ps) in
    sym (all_found test (map atom_value c.args.atoms.now) (length ps) None None (Some c.in-Some-2.line)
    c.in_default.ensures c.in_default-first_of_packages.ensures.found (sym c.in-Some-2.is ∙ c.in_ok-line.ensures))

pub returns-in-None-clause-found : goal.returns-in-None-clause-found
returns-in-None-clause-found c =
    let ps = c.args.around.now.places.now in
    let test = is_open_of (places_of ps) in
    sym (all_found test (map atom_value c.args.atoms.now) (length ps) None None None
    c.in_default.ensures c.in_default-first_of_packages.ensures.found (sym c.in-None.is ∙ c.in_ok-line.ensures))

use Rattle.std.proofs.Common.{◌≡◌, ◌&&◌, ℕ, Bool, drop, get_or, nat_eq, not}
use Rattle.std.specs.Prelude.{bytes_eq}
use Rattle.std.specs.List.{list_any}
use Rattle.dep_atom.specs.Ids.{id_text}
use Rattle.choice_tree.specs.Places.{is_one, no_place, package_in}
use Rattle.choice_tree.specs.Seen.{places_of}
use Rattle.choice_tree.proofs.calm.any_other.Given as goal

abbrev pub invariant-loop-other : goal.invariant-loop-other
invariant-loop-other l =
    let test : ℕ → Bool = λ (m : ℕ). not (nat_eq l.line m) && is_one (λ q. bytes_eq l.text (id_text q.facts.id)) (package_in (get_or (places_of l.places) m no_place)) in
    list_any test (drop l.other-index l.lines) ≡ list_any test l.lines

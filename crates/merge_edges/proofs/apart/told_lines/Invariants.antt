use Rattle.std.proofs.Common.{◌≡◌, ◌++◌, ℕ, Bool, drop, filter}
use Rattle.std.specs.Prelude.{bytes_eq}
use Rattle.dep_atom.specs.Ids.{id_text}
use Rattle.choice_tree.specs.Places.{is_one, package_in}
use Rattle.choice_tree.specs.Seen.{places_of}
use Rattle.merge_edges.specs.Found.{place_at}
use Rattle.merge_edges.proofs.apart.told_lines.Given as goal

abbrev pub invariant-loop-line : goal.invariant-loop-line
invariant-loop-line l =
    let test : ℕ → Bool = λ (k : ℕ). is_one (λ q. bytes_eq l.text (id_text q.facts.id)) (package_in (place_at (places_of l.places) k)) in
    l.lines.items ++ filter test (drop l.line-index l.line-items) ≡ filter test l.line-items

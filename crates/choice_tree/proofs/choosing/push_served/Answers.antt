use Rattle.std.proofs.Common.{◌≡◌, ◌∙◌, ◌++◌, List, ap, filter}
use Rattle.dep_atom.specs.Match.{value_matches}
use Rattle.dep_atom.specs.Values.{atom_value}
use Rattle.choice_tree.specs.Candidates.{Candidate, all_free}
use Rattle.choice_tree.specs.Options.{in_order}
use Rattle.choice_tree.specs.Seen.{places_of}
use Rattle.choice_tree.specs.Shown.{candidates_of}
use Rattle.choice_tree.specs.Views.{decisions_of}
use Rattle.choice_tree.proofs.Under.{served_keyed}
use Rattle.choice_tree.proofs.choosing.push_served.Goals as goal

pub returns : goal.returns
returns c =
    let around = c.args.around.now in
    let a = atom_value c.args.atom.now in
    let asker = c.args.asker.now in
    let ss = places_of around.places.now in
    let test = λ (x : Candidate). value_matches a x.is.facts asker in
    let found : candidates_of c.deref-2.result.now ≡ filter test (all_free ss) =
    ap candidates_of c.deref-2.ensures.value
    ∙ (c.in_ok-found.ensures
    ∙ (ap (λ xs. filter test (candidates_of xs)) c.deref.ensures.value
    ∙ (ap (filter test) c.in_ok-free.ensures
    ∙ served_keyed a asker ss around.named.now.lists c.text.result.now c.lines_named-lines.result.now around.are_named c.text.ensures.text c.lines_named-lines.ensures))) in
    c.in_ok-push_in_order.ensures ∙ ap (λ (xs : List Candidate). decisions_of c.args.out.now.items ++ in_order c.args.update xs) found

use Rattle.std.proofs.Common.{◌≡◌, ◌∙◌, Bool, List, false, sym, true, subst, ap}
use Rattle.std.specs.Prelude.{slice_index, slice_index_or}
use Rattle.basics.proofs.Membership.{has-at}
use Rattle.basics.specs.Members.{Has}
use Rattle.merge_graph.specs.Certified.{AreMarkedReached}
use Rattle.merge_graph.proofs.Checking.{inside_reached, marked_more}
use Rattle.merge_graph.proofs.checks.follow.Goals as goal

pub returns-then-is_marked-clause-reached : goal.returns-then-is_marked-clause-reached
returns-then-is_marked-clause-reached c =
    let numbers = c.args.numbers.now in
    let firsts = c.args.firsts.now in
    let es = c.args.edges.now in
    let e = c.in-Some.edge.now in
    let marks = c.args.marks.now.items in
    let has : Has es e = has-at es c.args.place e c.in-Some.ensures.lookup.3.0 c.in-Some.ensures.lookup.1 in
    let same : slice_index numbers e.from ≡ slice_index numbers e.to = sym c.number_at.ensures ∙ (c.if-inside.true ∙ c.number_at-in-Some.ensures) in
    let on : slice_index_or marks e.from false ≡ true =
    sym (c.is_marked.ensures ∙ ap (λ (ms : List Bool). slice_index_or ms e.from false) c.deref.ensures.value) ∙ c.if-is_marked.true in
    subst (λ (ms : List Bool). AreMarkedReached numbers firsts es ms) (sym c.mark.ensures)
    (marked_more numbers firsts es marks e.to c.requires (inside_reached numbers firsts es e has same (c.requires e.from on)))

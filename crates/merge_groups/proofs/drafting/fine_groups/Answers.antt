use Rattle.std.proofs.Common.{◌≡◌, ◌∙◌, List, ap, arith, length, map, subst, sym, ℕ}
use Rattle.std.proofs.lemmas.List.{length-map}
use Rattle.plan_law.specs.Plans.{Group}
use Rattle.merge_edges.specs.Views.{change_of}
use Rattle.merge_graph.specs.After.{AreAfter}
use Rattle.merge_graph.specs.Rows.{AreRows}
use Rattle.merge_groups.specs.Grouped.{AreFine}
use Rattle.merge_groups.proofs.Drafted.{fine_drafted, fine_form, rows_rise}
use Rattle.merge_groups.proofs.drafting.fine_groups.Goals as goal

pub groups_of-requires-clause-rising : goal.groups_of-requires-clause-rising
groups_of-requires-clause-rising c =
    let xs = c.deref.result.now in
    let rows = map (λ r. r.items) xs in
    let are = subst (λ (l : List (List ℕ)). AreRows c.args.numbers.now c.args.count l) (sym (ap (map (λ r. r.items)) c.deref.ensures.value)) c.in_ok-rows.ensures in
    let long = length-map xs (λ r. r.items) in
    λ k less. rows_rise c.args.numbers.now c.args.count rows are k (omega (arith, less, long))

pub unreachable-requires : goal.unreachable-requires
unreachable-requires c =
    let cs = map change_of c.args.changes.now in
    let es = c.args.edges.now in
    let numbers = c.args.numbers.now in
    let count = c.args.count in
    let xs = c.deref.result.now in
    let ys = c.deref-2.result.now in
    let rows_are = subst (λ (l : List (List ℕ)). AreRows numbers count l) (sym (ap (map (λ r. r.items)) c.deref.ensures.value)) c.in_ok-rows.ensures in
    let afters_are = subst (λ (l : List (List ℕ)). AreAfter es numbers count l) (sym (ap (map (λ r. r.items)) c.deref-2.ensures.value)) c.in_ok-afters.ensures in
    let long : length xs ≡ count = sym (length-map xs (λ r. r.items)) ∙ rows_are.each in
    c.in-None.ensures (fine_form cs es numbers count (length cs) c.in_ok-groups.groups.items c.waits_fall.ensures c.requires.numbered c.requires.few
    (fine_drafted cs es numbers count (map (λ r. r.items) xs) (map (λ r. r.items) ys) (length xs) c.in_ok-groups.groups.items long rows_are afters_are c.in_ok-groups.ensures))

pub returns : goal.returns
returns c =
    let cs = map change_of c.args.changes.now in
    let es = c.args.edges.now in
    let numbers = c.args.numbers.now in
    let count = c.args.count in
    let xs = c.deref.result.now in
    let ys = c.deref-2.result.now in
    let rows_are = subst (λ (l : List (List ℕ)). AreRows numbers count l) (sym (ap (map (λ r. r.items)) c.deref.ensures.value)) c.in_ok-rows.ensures in
    let afters_are = subst (λ (l : List (List ℕ)). AreAfter es numbers count l) (sym (ap (map (λ r. r.items)) c.deref-2.ensures.value)) c.in_ok-afters.ensures in
    let long : length xs ≡ count = sym (length-map xs (λ r. r.items)) ∙ rows_are.each in
    subst (λ (plan : List Group). AreFine cs es numbers count plan) (sym c.in-Some.ensures)
    (fine_drafted cs es numbers count (map (λ r. r.items) xs) (map (λ r. r.items) ys) (length xs) c.in_ok-groups.groups.items long rows_are afters_are c.in_ok-groups.ensures)

use Rattle.std.proofs.Common.{◌≡◌, ◌∙◌, List, ap, arith, length, map, subst, sym, ℕ}
use Rattle.std.proofs.lemmas.List.{length-map}
use Rattle.plan_law.specs.Plans.{Group}
use Rattle.merge_edges.specs.Views.{change_of}
use Rattle.merge_graph.specs.Levels.{AreLevelRows}
use Rattle.merge_groups.specs.Grouped.{AreLevel}
use Rattle.merge_groups.specs.Rows.{AreGroups, AreWaiting}
use Rattle.merge_groups.proofs.Drafted.{level_drafted, level_form}
use Rattle.merge_groups.proofs.drafting.level_groups.Goals as goal

pub level_rows-requires : goal.level_rows-requires
level_rows-requires c = (length (map change_of c.args.changes.now), c.requires.between, c.requires.builds, c.requires.numbered)

pub groups_of-requires-clause-rising : goal.groups_of-requires-clause-rising
groups_of-requires-clause-rising c =
    let xs = c.deref.result.now in
    let are = subst (λ (l : List (List ℕ)). AreLevelRows c.args.edges.now c.args.numbers.now c.args.count l) (sym (ap (map (λ r. r.items)) c.deref.ensures.value)) c.in_ok-rows.ensures in
    let long = length-map xs (λ r. r.items) in
    λ k less. are.rising k (omega (arith, less, long))

pub unreachable-requires : goal.unreachable-requires
unreachable-requires c =
    let cs = map change_of c.args.changes.now in
    let es = c.args.edges.now in
    let numbers = c.args.numbers.now in
    let count = c.args.count in
    let xs = c.deref.result.now in
    let rows = map (λ r. r.items) xs in
    let ys = map (λ r. r.items) c.deref-2.result.now in
    let rows_are = subst (λ (l : List (List ℕ)). AreLevelRows es numbers count l) (sym (ap (map (λ r. r.items)) c.deref.ensures.value)) c.in_ok-rows.ensures in
    let many : c.len.result ≡ length rows = c.len.ensures ∙ (c.in_ok-rows.rows.ok.0 ∙ (ap length (sym c.deref.ensures.value) ∙ sym (length-map xs (λ r. r.items)))) in
    let waiting : AreWaiting (length rows) ys = subst (λ (l : List (List ℕ)). AreWaiting (length rows) l) (sym (ap (map (λ r. r.items)) c.deref-2.ensures.value)) (subst (λ (n : ℕ). AreWaiting n (map (λ r. r.items) c.in_ok-afters.afters.items)) many c.in_ok-afters.ensures) in
    let are : AreGroups cs rows ys (length rows) c.in_ok-groups.groups.items = subst (λ (n : ℕ). AreGroups cs rows ys n c.in_ok-groups.groups.items) (sym (length-map xs (λ r. r.items))) c.in_ok-groups.ensures in
    c.in-None.ensures (level_form cs es numbers count (length cs) c.requires.between c.requires.builds c.requires.numbered c.in_ok-groups.groups.items c.requires.few
    (level_drafted cs es numbers count rows ys c.in_ok-groups.groups.items rows_are waiting are))

pub returns : goal.returns
returns c =
    let cs = map change_of c.args.changes.now in
    let es = c.args.edges.now in
    let numbers = c.args.numbers.now in
    let count = c.args.count in
    let xs = c.deref.result.now in
    let rows = map (λ r. r.items) xs in
    let ys = map (λ r. r.items) c.deref-2.result.now in
    let rows_are = subst (λ (l : List (List ℕ)). AreLevelRows es numbers count l) (sym (ap (map (λ r. r.items)) c.deref.ensures.value)) c.in_ok-rows.ensures in
    let many : c.len.result ≡ length rows = c.len.ensures ∙ (c.in_ok-rows.rows.ok.0 ∙ (ap length (sym c.deref.ensures.value) ∙ sym (length-map xs (λ r. r.items)))) in
    let waiting : AreWaiting (length rows) ys = subst (λ (l : List (List ℕ)). AreWaiting (length rows) l) (sym (ap (map (λ r. r.items)) c.deref-2.ensures.value)) (subst (λ (n : ℕ). AreWaiting n (map (λ r. r.items) c.in_ok-afters.afters.items)) many c.in_ok-afters.ensures) in
    let are : AreGroups cs rows ys (length rows) c.in_ok-groups.groups.items = subst (λ (n : ℕ). AreGroups cs rows ys n c.in_ok-groups.groups.items) (sym (length-map xs (λ r. r.items))) c.in_ok-groups.ensures in
    subst (λ (plan : List Group). AreLevel cs es numbers count plan) (sym c.in-Some.ensures)
    (level_drafted cs es numbers count rows ys c.in_ok-groups.groups.items rows_are waiting are)

use Rattle.std.proofs.Common.{◌≡◌, ◌↔◌, List, ap, subst, sym, true, ℕ}
use Rattle.std.specs.Prelude.{Contains, IsSome}
use Rattle.std.specs.List.{AllByRecursion}
use Rattle.std.proofs.lemmas.Result.{IfOk-weaker}
use Rattle.file_tree.specs.Disk.{Map, Story}
use Rattle.file_tree.specs.Paths.{is_below}
use Rattle.visible_verdicts.specs.Candidates.{AreCandidates}
use Rattle.visible_verdicts.specs.Places.{AreJudged, IsPlace, ids_of}
use Rattle.visible_verdicts.specs.declared.place.Place.{Place}
use Rattle.visible_verdicts.proofs.Judged.{all_places, are_candidates}
use Rattle.visible_verdicts.proofs.reading.candidates.Goals as goal

pub judge_places-requires : goal.judge_places-requires
judge_places-requires g c =
    subst (AllByRecursion IsPlace) (sym c.deref-2.ensures.value) (all_places c.deref.result.now c.in_ok-found.found.items c.in_ok-places.places.items c.in_ok-found.ensures c.in_ok-places.ensures.moved)

pub returns-clause-found : goal.returns-clause-found
returns-clause-found g c t =
    let m : Map = (g.T.Tree.story c.args.tree.now).now.holds in
    let same : (g.T.Tree.story c.list.new.self).now.holds ≡ m = ap (λ (s : Story). s.now.holds) (c.in_ok-listed.ensures.same t) in
    let listed = subst (λ (l : List (List ℕ)). (q : List ℕ) → Contains l q ↔ ((is_below c.in_ok-folder.folder q ≡ true) × IsSome (m q))) (sym c.deref.ensures.value) (c.in_ok-listed.ensures.answer t) in
    let all = subst (λ (p : List ℕ). (q : List ℕ) → Contains c.deref.result.now q ↔ ((is_below p q ≡ true) × IsSome (m q))) c.in_ok-folder.ensures listed in
    IfOk-weaker c.judge_places.result
    (λ r. AreJudged (g.T.Tree.story c.list.new.self).now.holds c.args.rules.now (ids_of c.deref-2.result.now) r.visible.items r.hidden.items)
    (λ r. AreCandidates m c.args.rules.now r.visible.items r.hidden.items)
    (λ r judged. are_candidates m c.args.rules.now c.deref.result.now c.in_ok-found.found.items c.in_ok-places.places.items r.visible.items r.hidden.items c.order_is_that_of_keys.ensures.total c.order_is_that_of_keys.ensures.keys all
    c.in_ok-found.ensures c.in_ok-places.ensures.moved c.in_ok-places.ensures.sorted
    (subst (λ (x : Map). AreJudged x c.args.rules.now (ids_of c.in_ok-places.places.items) r.visible.items r.hidden.items) same
    (subst (λ (l : List Place). AreJudged (g.T.Tree.story c.list.new.self).now.holds c.args.rules.now (ids_of l) r.visible.items r.hidden.items) c.deref-2.ensures.value judged)))
    (c.judge_places.ensures.found t)

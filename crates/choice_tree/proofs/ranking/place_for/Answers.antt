use Rattle.std.proofs.Common.{◌≡◌, ◌∙◌, ◌++◌, ℕ, add-one, ap, arith, drop, false, get_or, sym, take, true}
use Rattle.std.specs.Ordering.{is_gt}
use Rattle.std.proofs.lemmas.List.{length-map}
use Rattle.choice_tree.specs.Candidates.{Candidate, put, rank}
use Rattle.choice_tree.specs.Shown.{candidate_of, candidates_of}
use Rattle.choice_tree.proofs.Gathered.{put_here, put_past}
use Rattle.choice_tree.proofs.Numbers.{get_mapped}
use Rattle.choice_tree.proofs.ranking.place_for.Goals as goal

pub returns-then-is_gt-clause-put : goal.returns-then-is_gt-clause-put
returns-then-is_gt-clause-put c =
    let ys = c.args.ranked.now in
    let x = candidate_of c.args.one.now in
    let d = candidate_of c.index-ranked-place.result in
    let at_place : get_or (candidates_of ys) c.loop-place.place d ≡ d = get_mapped candidate_of ys c.loop-place.place c.index-ranked-place.result d (omega arith) ∙ ap candidate_of (sym c.index-ranked-place.is) in
    let later : is_gt (rank c.args.update (get_or (candidates_of ys) c.loop-place.place d) x) ≡ true =
    ap (λ (y : Candidate). is_gt (rank c.args.update y x)) at_place ∙ (ap is_gt (sym c.rank.ensures) ∙ (sym c.is_gt.ensures ∙ c.if-is_gt.true)) in
    let long = length-map ys candidate_of in
    sym c.loop-place.invariant ∙ put_here c.args.update x (candidates_of ys) c.loop-place.place d (omega (arith, long)) later

pub loop-place-preserved : goal.loop-place-preserved
loop-place-preserved c =
    let ys = c.args.ranked.now in
    let x = candidate_of c.args.one.now in
    let d = candidate_of c.index-ranked-place.result in
    let at_place : get_or (candidates_of ys) c.loop-place.place d ≡ d = get_mapped candidate_of ys c.loop-place.place c.index-ranked-place.result d (omega arith) ∙ ap candidate_of (sym c.index-ranked-place.is) in
    let sooner : is_gt (rank c.args.update (get_or (candidates_of ys) c.loop-place.place d) x) ≡ false =
    ap (λ (y : Candidate). is_gt (rank c.args.update y x)) at_place ∙ (ap is_gt (sym c.rank.ensures) ∙ (sym c.is_gt.ensures ∙ c.if-is_gt.false)) in
    let long = length-map ys candidate_of in
    ap (λ (n : ℕ). take n (candidates_of ys) ++ put c.args.update x (drop n (candidates_of ys))) (add-one c.loop-place.place)
    ∙ (put_past c.args.update x (candidates_of ys) c.loop-place.place d (omega (arith, long)) sooner ∙ c.loop-place.invariant)

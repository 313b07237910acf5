use Rattle.std.proofs.Common.{◌≡◌, ◌∙◌, ◌++◌, ◌∷◌, List, ap, drop, subst, sym, take}
use Rattle.choice_tree.specs.Candidates.{put}
use Rattle.choice_tree.specs.Shown.{candidate_of, candidates_of}
use Rattle.choice_tree.specs.declared.candidate.Candidate.{Candidate as TheCandidate}
use Rattle.choice_tree.proofs.Gathered.{mapped_insert}
use Rattle.choice_tree.proofs.ranking.put.Goals as goal

pub returns : goal.returns
returns c =
    let ys = c.args.ranked.now.items in
    let i = c.place_for-place.result in
    let x = candidate_of c.args.one in
    ap candidates_of c.in_ok-insert.ensures.items
    ∙ (mapped_insert candidate_of ys i c.args.one
    ∙ sym (subst (λ (zs : List TheCandidate). put c.args.update x (candidates_of zs) ≡ take i (candidates_of zs) ++ x ∷ drop i (candidates_of zs)) c.deref.ensures.value c.place_for-place.ensures.put))

use Rattle.std.proofs.Common.{◌≡◌, ◌∙◌, IfOk, List, MatchOption, None, Some, [], ◌∷◌, subst, ℕ}
use Rattle.std.specs.List.{join_by}
use Rattle.profile_folders.specs.Places.{path_of}
use Rattle.profile_folders.proofs.Places.{join-told, told}
use Rattle.profile_folders.proofs.place.path_with.Goals as goal

pub returns : goal.returns
returns c =
    let text : c.as_str.result.now ≡ join_by (λ part. part) (47 ∷ []) (told c.args.these.now) = c.as_str.ensures.value ∙ c.in_ok-text.ensures.ok ∙ join-told (47 ∷ []) c.args.these.now in
    subst (λ (t : List ℕ). IfOk c.path_of.result (λ r. MatchOption r (path_of t ≡ None) (λ p. path_of t ≡ Some p))) text c.path_of.ensures

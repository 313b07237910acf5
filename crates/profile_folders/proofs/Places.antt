-- What following parts one after the other comes to.
use Rattle.std.proofs.Common.{◌≡◌, ◌∙◌, ◌++◌, ◌+◌, ◌<◌, ◌≤◌, List, [], ◌∷◌, Bor, Option, Some, ap, drop, get_or, length, map, refl, sym, ℕ}
use Rattle.std.specs.List.{join_by}
use Rattle.std.specs.Option.{option_and_then}
use Rattle.std.proofs.lemmas.List.{drop_more, drop_all}
use Rattle.std.proofs.lemmas.List.Folds.{flat_map-map}
use Rattle.profile_folders.specs.Places.{followed, led}

-- what the texts hold
abbrev pub told : List (Bor (List ℕ)) → List (List ℕ)
told xs = map {A = Bor (List ℕ)} {B = List ℕ} (λ x. x.now) xs

pub join-told : (sep : List ℕ) (xs : List (Bor (List ℕ))) → join_by (λ (x : Bor (List ℕ)). x.now) sep xs ≡ join_by (λ part. part) sep (told xs)
join-told sep [] = refl
join-told sep (x ∷ xs) = ap (λ (t : List ℕ). x.now ++ t) (sym (flat_map-map (λ (y : List ℕ). sep ++ y) (λ (y : Bor (List ℕ)). y.now) xs))

pub led_on : (at : List (List ℕ)) (step : List ℕ) (rest : List (List ℕ)) (next : Option (List (List ℕ))) → followed at step ≡ next → led at (step ∷ rest) ≡ option_and_then (λ n. led n rest) next
led_on at step rest next e = ap (option_and_then (λ n. led n rest)) e

-- the parts from a place on: the one there, and those behind it
pub from_here : (steps : List (Bor (List ℕ))) (i : ℕ) (step : Bor (List ℕ)) → i < length steps → step ≡ get_or steps i step → told (drop i steps) ≡ step.now ∷ told (drop (i + 1) steps)
from_here steps i step lt is = ap told (drop_more steps i step lt) ∙ ap (λ (x : Bor (List ℕ)). x.now ∷ told (drop (i + 1) steps)) (sym is)

pub none_left : (steps : List (Bor (List ℕ))) (i : ℕ) (at : List (List ℕ)) → length steps ≤ i → led at (told (drop i steps)) ≡ Some at
none_left steps i at past = ap (λ (ps : List (Bor (List ℕ))). led at (told ps)) (drop_all i steps past)

pub some_one : {A : Type 0} (x y : A) → Some x ≡ Some y → x ≡ y
some_one x y e = cc e

-- The places of lines, as the code gathers them.
use Rattle.std.proofs.Common.{◌≡◌, ◌∙◌, ◌<◌, ◌+◌, ◌-◌, ◌++◌, ℕ, List, [], ◌∷◌, Option, ap, map, sym}
use Rattle.std.proofs.lemmas.List.{append_assoc, map-append}
use Rattle.choice_law.specs.Tree.{Choice}
use Rattle.choice_law.specs.Universe.{Offer, Value, lines}
use Rattle.choice_tree.specs.Places.{Place, numbers, place_at, places}
use Rattle.choice_tree.specs.Seen.{place_of, places_of}
use Rattle.choice_tree.specs.Views.{universe_of}
use Rattle.choice_tree.specs.declared.place.Place.{Place as ThePlace}
use Rattle.choice_tree.specs.declared.universe.Universe.{Universe as TheUniverse}
use Rattle.choice_tree.proofs.Numbers.{numbers_next}

pub same_place : {x y : Option Value} {o p : Offer} → x ≡ y → o ≡ p → ◌≡◌ {A = Place} (record { decided = x; offer = o }) (record { decided = y; offer = p })
same_place {x} {y} {o} {p} e f =
    let first : ◌≡◌ {A = Place} (record { decided = x; offer = o }) (record { decided = y; offer = o }) = ap (λ (z : Option Value). record { decided = z; offer = o }) e in
    let second : ◌≡◌ {A = Place} (record { decided = y; offer = o }) (record { decided = y; offer = p }) = ap (λ (z : Offer). record { decided = y; offer = z }) f in
    first ∙ second

pub placed_more : (universe : TheUniverse) (c : Choice) (old new : List ThePlace) (s : ThePlace) (l : ℕ) → l < lines (universe_of universe) → place_of s ≡ place_at (universe_of universe) c l → new ≡ old ++ s ∷ [] → places_of old ++ map (place_at (universe_of universe) c) (numbers (lines (universe_of universe) - l) l) ≡ places (universe_of universe) c → places_of new ++ map (place_at (universe_of universe) c) (numbers (lines (universe_of universe) - (l + 1)) (l + 1)) ≡ places (universe_of universe) c
placed_more universe c old new s l less here is before =
    let u = universe_of universe in
    let n = lines u in
    let later = map (place_at u c) (numbers (n - (l + 1)) (l + 1)) in
    ap (λ (ps : List ThePlace). places_of ps ++ later) is
    ∙ (ap (λ (ss : List Place). ss ++ later) (map-append place_of old (s ∷ []))
    ∙ (append_assoc (places_of old) (place_of s ∷ []) later
    ∙ (ap (λ (x : Place). places_of old ++ x ∷ later) here
    ∙ (ap (λ (ls : List ℕ). places_of old ++ map (place_at u c) ls) (sym (numbers_next n l less)) ∙ before))))

-- Places whose decisions change, one line after the other.
use Rattle.std.proofs.Common.{◌≡◌, ◌≢◌, ◌∙◌, ◌<◌, ◌≤◌, ◌+◌, ℕ, zero, suc, List, [], ◌∷◌, Option, ap, arith, get_or, inl, inr, length, map, refl, set, sym}
use Rattle.std.specs.Option.{option_map}
use Rattle.std.proofs.lemmas.Bool.Decides.{eqb_tells}
use Rattle.std.proofs.lemmas.List.{get_or-set_other, get_or-set_same, length-map, set_past}
use Rattle.choice_law.specs.Tree.{Choice, decided}
use Rattle.choice_law.specs.Universe.{Offer, Universe, Value, lines, no_offer, offer_at}
use Rattle.choice_tree.specs.Keys.{offers_in}
use Rattle.choice_tree.specs.Places.{Place, no_place, numbers, place_at, places, with_decided}
use Rattle.choice_tree.specs.Seen.{place_of, places_of}
use Rattle.choice_tree.specs.Views.{offer_of, value_of}
use Rattle.choice_tree.specs.declared.place.Place.{Place as ThePlace}
use Rattle.choice_tree.proofs.Numbers.{get_numbered, length_numbers}
use Rattle.choice_tree.proofs.Placed.{same_place}

-- what is offered stays as it is
pub same_offers : (ss : List Place) (l : ℕ) (d : Option Value) → offers_in (with_decided ss l d) ≡ offers_in ss
same_offers [] l d = refl
same_offers (s ∷ ss) zero d = refl
same_offers (s ∷ ss) (suc l) d = ap (λ (os : List Offer). s.offer ∷ os) (same_offers ss l d)

-- a line that has the decision stays as it is
pub same_line : (ss : List Place) (l : ℕ) (d : Option Value) → (get_or ss l no_place).decided ≡ d → with_decided ss l d ≡ ss
same_line [] l d e = refl
same_line (s ∷ ss) zero d e = ap (λ (x : Place). x ∷ ss) (same_place (sym e) refl)
same_line (s ∷ ss) (suc l) d e = ap (λ (xs : List Place). s ∷ xs) (same_line ss l d e)

list_is : {A : Type 0} (d : A) (xs : List A) (k : ℕ) (f : ℕ → A) → ((l : ℕ) → l < length xs → get_or xs l d ≡ f (k + l)) → xs ≡ map f (numbers (length xs) k)
list_is d [] k f each = refl
list_is {A} d (x ∷ xs) k f each =
    let at_k : k + 0 ≡ k = omega arith in
    let first : x ≡ f (k + 0) = each 0 (omega arith) in
    ap (λ (y : A). y ∷ xs) (first ∙ ap f at_k)
    ∙ ap (λ (ys : List A). f k ∷ ys) (list_is d xs (suc k) f (λ l less. each (suc l) (omega (arith, less)) ∙ (let one_on : k + suc l ≡ suc k + l = omega arith in ap f one_on)))

pub offer_in : (ss : List Place) (l : ℕ) → (get_or ss l no_place).offer ≡ get_or (offers_in ss) l no_offer
offer_in [] l = refl
offer_in (s ∷ ss) zero = refl
offer_in (s ∷ ss) (suc l) = offer_in ss l

-- where each line has its offer and its decision, these are the places
pub all_placed : (u : Universe) (c : Choice) (ss : List Place) → offers_in ss ≡ u.offers → ((l : ℕ) → l < lines u → (get_or ss l no_place).decided ≡ decided c l) → ss ≡ places u c
all_placed u c ss are each =
    let long : length ss ≡ lines u = sym (length-map ss (λ (s : Place). s.offer)) ∙ ap length are in
    list_is no_place ss 0 (place_at u c) (λ l less.
    let at_l : l ≡ 0 + l = omega arith in
    same_place (each l (omega (arith, less, long))) (offer_in ss l ∙ ap (λ (os : List Offer). get_or os l no_offer) are) ∙ ap (place_at u c) at_l)
    ∙ ap (λ (n : ℕ). map (place_at u c) (numbers n 0)) long

offers_at : (u : Universe) (c : Choice) (ls : List ℕ) → offers_in (map (place_at u c) ls) ≡ map (offer_at u) ls
offers_at u c [] = refl
offers_at u c (l ∷ ls) = ap (λ (os : List Offer). offer_at u l ∷ os) (offers_at u c ls)

-- the places of a choice have the offers of the universe
pub offers_placed : (u : Universe) (c : Choice) → offers_in (places u c) ≡ u.offers
offers_placed u c =
    offers_at u c (numbers (lines u) 0)
    ∙ sym (list_is no_offer u.offers 0 (offer_at u) (λ l less. let at_l : l ≡ 0 + l = omega arith in ap (offer_at u) at_l))

-- one line more is put in its place
pub placed_line : (ps : List ThePlace) (l : ℕ) (x s : ThePlace) (d : Option Value) → l < length ps → x ≡ get_or ps l x → s.offer.now ≡ x.offer.now → option_map value_of s.decided ≡ d → places_of (set ps l s) ≡ with_decided (places_of ps) l d
placed_line [] l x s d less is offer e = absurd (omega (arith, less))
placed_line (p ∷ ps) zero x s d less is offer e = ap (λ (t : Place). t ∷ places_of ps) (same_place e (ap offer_of (offer ∙ ap (λ (t : ThePlace). t.offer.now) is)))
placed_line (p ∷ ps) (suc l) x s d less is offer e = ap (λ (ts : List Place). place_of p ∷ ts) (placed_line ps l x s d (omega (arith, less)) is offer e)

-- a line that isn't there changes nothing
pub past_line : (ss : List Place) (l : ℕ) (d : Option Value) → length ss ≤ l → with_decided ss l d ≡ ss
past_line ss l d past = set_past ss l _ past

-- where another choice decides one line so and the others alike, these are its places
pub placed_after : (u : Universe) (c e : Choice) (l : ℕ) (d : Option Value) → (l < lines u → d ≡ decided e l) → ((k : ℕ) → k ≢ l → decided c k ≡ decided e k) → with_decided (places u c) l d ≡ places u e
placed_after u c e l d here others =
    let ss = places u c in
    let now : Place = record { decided = d; offer = (get_or ss l no_place).offer } in
    let long : length ss ≡ lines u = length-map (numbers (lines u) 0) (place_at u c) ∙ length_numbers (lines u) 0 in
    all_placed u e (with_decided ss l d) (same_offers ss l d ∙ offers_placed u c) (λ k less. elim (eqb_tells k l) [
      | inl r ↦
          ap (λ (n : ℕ). (get_or (set ss l now) n no_place).decided) r.1
          ∙ (ap (λ (s : Place). s.decided) (get_or-set_same ss l now no_place (let same = r.1 in omega (arith, less, long, same)))
          ∙ (here (let same = r.1 in omega (arith, less, same)) ∙ ap (decided e) (sym r.1)))
      | inr r ↦
          ap (λ (s : Place). s.decided) (get_or-set_other ss l k now no_place r.1)
          ∙ (ap (λ (s : Place). s.decided) (get_numbered (place_at u c) no_place (lines u) 0 k less) ∙ (let same : 0 + k ≡ k = omega arith in ap (decided c) same ∙ others k r.1))
    ])

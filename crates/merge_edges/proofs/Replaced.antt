-- Places of which one is replaced by that of another list with the same offers.
use Rattle.std.proofs.Common.{◌≡◌, ◌≢◌, ◌∙◌, ◌<◌, ◌≤◌, ℕ, zero, suc, List, [], ◌∷◌, ap, arith, get_or, inl, inr, length, refl, set, sym}
use Rattle.std.specs.Prelude.{slice_set}
use Rattle.std.proofs.lemmas.Bool.{cases_lt}
use Rattle.std.proofs.lemmas.List.{get_or-set_other, get_or-set_same, length-map, set_past}
use Rattle.choice_law.specs.Universe.{Offer, no_offer}
use Rattle.choice_tree.specs.Keys.{offers_in}
use Rattle.choice_tree.specs.Places.{Place, no_place}
use Rattle.choice_tree.proofs.Turned.{offer_in}
use Rattle.merge_edges.specs.Found.{alone_in, place_at}

set_offers : (os : List Place) (l : ℕ) (s : Place) → s.offer ≡ (get_or os l no_place).offer → offers_in (slice_set os l s) ≡ offers_in os
set_offers [] l s e = refl
set_offers (o ∷ os) zero s e = ap (λ (x : Offer). x ∷ offers_in os) e
set_offers (o ∷ os) (suc l) s e = ap (λ (xs : List Offer). o.offer ∷ xs) (set_offers os l s e)

get_past : (os : List Place) (l : ℕ) → length os ≤ l → get_or os l no_place ≡ no_place
get_past [] l past = refl
get_past (o ∷ os) zero past = absurd (omega (arith, past))
get_past (o ∷ os) (suc l) past = get_past os l (omega (arith, past))

module _ (os ss : List Place) (same : offers_in os ≡ offers_in ss) where
  as_long : length os ≡ length ss
  as_long = sym (length-map os (λ (s : Place). s.offer)) ∙ (ap length same ∙ length-map ss (λ (s : Place). s.offer))

  -- what is offered stays as it is
  pub alone_offers : (l : ℕ) → offers_in (alone_in os ss l) ≡ offers_in os
  alone_offers l = set_offers os l (place_at ss l) (offer_in ss l ∙ (ap (λ (xs : List Offer). get_or xs l no_offer) (sym same) ∙ sym (offer_in os l)))

  pub alone_here : (l : ℕ) → place_at (alone_in os ss l) l ≡ place_at ss l
  alone_here l = elim (cases_lt l (length os)) [
    | inl less ↦ get_or-set_same os l (place_at ss l) no_place less
    | inr past ↦ ap (λ (xs : List Place). place_at xs l) (set_past os l (place_at ss l) past)
        ∙ (get_past os l past ∙ sym (get_past ss l (omega (arith, past, as_long))))
  ]

  pub alone_there : (l k : ℕ) → k ≢ l → place_at (alone_in os ss l) k ≡ place_at os k
  alone_there l k apart = get_or-set_other os l k (place_at ss l) no_place apart

-- What may stand on lines, item by item.
use Rattle.std.proofs.Common.{◌≡◌, ◌⊎◌, ◌<◌, ◌+◌, ℕ, zero, suc, List, [], ◌∷◌, Option, None, Some, add-one, ap, arith, get_or, inl, inr, length, map, refl, slice_get, subst, sym, take, ◌∙◌}
use Rattle.std.proofs.lemmas.List.{get_or_past, length-map}
use Rattle.std.proofs.lemmas.Bool.{cases_lt}
use Rattle.basics.specs.Members.{Has}
use Rattle.pkg_state.specs.Package.{Package}
use Rattle.choice_law.specs.Laws.{IsUniverse}
use Rattle.choice_law.specs.Universe.{Offer, Value, absent, keep, no_offer, offer_at, package_of, variant}
use Rattle.choice_tree.specs.Views.{offer_of, universe_of}
use Rattle.choice_tree.specs.declared.universe.Offer.{Offer as TheOffer}
use Rattle.choice_tree.specs.declared.universe.Universe.{Universe as TheUniverse}
use Rattle.resolver.specs.Form.{AreOffers, ArePlain, IsPlain}

taken_more : {A : Type 0} (xs : List A) (i : ℕ) (d y : A) → i < length xs → Has (take (suc i) xs) y → Has (take i xs) y ⊎ (get_or xs i d ≡ y)
taken_more [] i d y less h = absurd (omega (arith, less))
taken_more (x ∷ xs) zero d y less (inl e) = inr e
taken_more (x ∷ xs) zero d y less (inr h) = absurd h
taken_more (x ∷ xs) (suc i) d y less (inl e) = inl (inl e)
taken_more (x ∷ xs) (suc i) d y less (inr h) = elim (taken_more xs i d y (omega (arith, less)) h) [ inl k ↦ inl (inr k) | inr e ↦ inr e ]

-- those so far, and one more
pub one_more : {A : Type 0} (xs : List A) (i : ℕ) (x y : A) → i < length xs → x ≡ get_or xs i x → Has (take (i + 1) xs) y → Has (take i xs) y ⊎ (x ≡ y)
one_more xs i x y less is h = elim (taken_more xs i x y less (subst (λ (n : ℕ). Has (take n xs) y) (add-one i) h)) [ inl k ↦ inl k | inr e ↦ inr (is ∙ e) ]

got_has : (ps : List Package) (i : ℕ) (p : Package) → slice_get ps i ≡ Some p → Has ps p
got_has [] i p e = absurd (let bad : ◌≡◌ {A = Option Package} None (Some p) = e in cc bad)
got_has (q ∷ ps) zero p e = inl (let two : ◌≡◌ {A = Option Package} (Some q) (Some p) = e in cc two)
got_has (q ∷ ps) (suc i) p e = inr (got_has ps i p e)

pub offer_plain : (o : TheOffer) → ((p : Package) → o.installed ≡ Some p → IsPlain p) → ArePlain o.variants.items → (v : Value) (p : Package) → package_of (offer_of o) v ≡ Some p → IsPlain p
offer_plain o kept varied keep p e = kept p e
offer_plain o kept varied absent p e = absurd (let bad : ◌≡◌ {A = Option Package} None (Some p) = e in cc bad)
offer_plain o kept varied (variant i) p e = varied p (got_has o.variants.items i p e)

pub nothing_offered : (v : Value) (p : Package) → package_of no_offer v ≡ Some p → ⊥
nothing_offered keep p e = let bad : ◌≡◌ {A = Option Package} None (Some p) = e in cc bad
nothing_offered absent p e = let bad : ◌≡◌ {A = Option Package} None (Some p) = e in cc bad
nothing_offered (variant i) p e = let bad : ◌≡◌ {A = Option Package} None (Some p) = e in cc bad

item_there : (os : List TheOffer) (l : ℕ) → l < length os → (o : TheOffer) × Has os o × (get_or (map offer_of os) l no_offer ≡ offer_of o)
item_there [] l less = absurd (omega (arith, less))
item_there (o ∷ os) zero less = (o, inl refl, refl)
item_there (o ∷ os) (suc l) less = let r = item_there os l (omega (arith, less)) in (r.0, inr r.1, r.2)

pub universe_plain : (u : TheUniverse) → AreOffers u.offers.items → IsUniverse (universe_of u)
universe_plain u all l v p class e = elim (cases_lt l (length u.offers.items)) [
  | inl less ↦ (
      let r = item_there u.offers.items l less in
      all r.0 r.1 v p (ap (λ (o : Offer). package_of o v) (sym r.2) ∙ e) class)
  | inr past ↦ absurd (
      let long = length-map u.offers.items offer_of in
      let none : offer_at (universe_of u) l ≡ no_offer = get_or_past (map offer_of u.offers.items) l no_offer (omega (arith, long, past)) in
      nothing_offered v p (ap (λ (o : Offer). package_of o v) (sym none) ∙ e))
]

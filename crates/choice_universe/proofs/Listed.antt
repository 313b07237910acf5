-- The offers of all lines, in the order of these.
use Rattle.std.proofs.Common.{◌≡◌, ◌∙◌, ◌||◌, ℕ, Bool, true, false, cond, List, [], ◌∷◌, Some, refl, ap, sym, map}
use Rattle.std.specs.Prelude.{bytes_eq, is_some}
use Rattle.std.specs.BTreeMap.{is_at}
use Rattle.std.specs.List.{AllByRecursion, list_any}
use Rattle.std.specs.Map.{keys_of, values_of}
use Rattle.std.specs.Ordering.{is_eq}
use Rattle.std.specs.declared.cmp.Ordering.TheVariants.{Less}
use Rattle.std.proofs.lemmas.Map.Keys.{sorted_head, sorted_tail}
use Rattle.std.proofs.lemmas.Map.Made.{is_some-lookup}
use Rattle.std.proofs.lemmas.Map.Text.{is_eq-slice_cmp}
use Rattle.basics.proofs.Texts.{bytes_eq-same, bytes_eq-swap}
use Rattle.pms_names.specs.Flags.{IsRising, byte_order, has}
use Rattle.pkg_state.specs.Package.{Package}
use Rattle.choice_law.specs.Universe.{Offer}
use Rattle.choice_tree.specs.Views.{offer_of}
use Rattle.choice_tree.specs.declared.universe.Offer.{Offer as TheOffer}
use Rattle.choice_universe.specs.Filled.{Entries, IsFilled, found, offer_found}
use Rattle.choice_universe.specs.Offers.{AreOffers, offer_on}

same_key : (ks : List (List ℕ)) (q : List ℕ) → list_any (is_at (byte_order q)) ks ≡ has ks q
same_key [] q = refl
same_key (k ∷ ks) q =
    ap (λ (b : Bool). b || list_any (is_at (byte_order q)) ks) (is_eq-slice_cmp q k)
    ∙ ap (λ (b : Bool). bytes_eq q k || b) (same_key ks q)

keys_found : (es : Entries) (q : List ℕ) → has (keys_of es) q ≡ is_some (found es q)
keys_found es q = sym (is_some-lookup (is_at (byte_order q)) es ∙ same_key (keys_of es) q)

-- later lines aren't the first one
skip : (e : List ℕ × TheOffer) (es : Entries) (ks : List (List ℕ)) → AllByRecursion (λ k. byte_order e.0 k ≡ Less) ks → map (λ k. offer_found (found (e ∷ es) k)) ks ≡ map (λ k. offer_found (found es k)) ks
skip e es [] above = refl
skip e es (k ∷ ks) above =
    let other : is_at (byte_order k) e.0 ≡ false = is_eq-slice_cmp k e.0 ∙ (bytes_eq-swap k e.0 ∙ (sym (is_eq-slice_cmp e.0 k) ∙ ap is_eq above.0)) in
    ap (λ (b : Bool). offer_found (cond b (Some e.1) (found es k)) ∷ map (λ k. offer_found (found (e ∷ es) k)) ks) other
    ∙ ap (λ (os : List Offer). offer_found (found es k) ∷ os) (skip e es ks above.1)

listed : (es : Entries) → IsRising (keys_of es) → map offer_of (values_of es) ≡ map (λ k. offer_found (found es k)) (keys_of es)
listed [] rising = refl
listed (e ∷ es) rising =
    let first : is_at (byte_order e.0) e.0 ≡ true = is_eq-slice_cmp e.0 e.0 ∙ bytes_eq-same e.0 in
    ap (λ (os : List Offer). offer_of e.1 ∷ os) (listed es (sorted_tail byte_order e.0 (keys_of es) rising)
    ∙ sym (skip e es (keys_of es) (sorted_head byte_order e.0 (keys_of es) rising)))
    ∙ sym (ap (λ (b : Bool). offer_found (cond b (Some e.1) (found es e.0)) ∷ map (λ k. offer_found (found (e ∷ es) k)) (keys_of es)) first)

map_each : (f g : List ℕ → Offer) → ((k : List ℕ) → f k ≡ g k) → (ks : List (List ℕ)) → map f ks ≡ map g ks
map_each f g h [] = refl
map_each f g h (k ∷ ks) = ap (λ (o : Offer). o ∷ map f ks) (h k) ∙ ap (λ (os : List Offer). g k ∷ os) (map_each f g h ks)

-- once all packages are on their lines, these are the offers
pub are_offers : (installed variants : List Package) (es : Entries) → IsFilled installed variants es → AreOffers installed variants (map offer_of (values_of es))
are_offers installed variants es filled = record {
  lines = keys_of es;
  rising = filled.rising;
  those = λ q. keys_found es q ∙ filled.those q;
  each = listed es filled.rising ∙ map_each (λ k. offer_found (found es k)) (offer_on installed variants) filled.each (keys_of es);
}

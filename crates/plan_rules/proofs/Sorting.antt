-- What a stable sort by keys leaves is in the order of the keys.
use Rattle.std.specs.Cmp.Lexicographic.{slice_cmp}
use Rattle.std.specs.List.{list_any}
use Rattle.std.specs.List.Sorted.{IsPermutation, IsSortedBy, IsStableBy, ties}
use Rattle.std.specs.Ordering.{is_eq, is_lt, nat_cmp, ordering_reverse}
use Rattle.std.specs.declared.cmp.Ordering.{Ordering}
use Rattle.std.specs.declared.cmp.Ordering.TheVariants.{Equal, Greater, Less}
use Rattle.std.proofs.Common.{◌≡◌, ◌∙◌, ◌<◌, ◌+◌, ◌&&◌, ℕ, Bool, true, false, cond, not, List, [], ◌∷◌, bytes_eq, filter, get_or, length, map, inl, inr, refl, sym, ap, subst, arith}
use Rattle.std.proofs.lemmas.Bool.{cases_Bool, or_parts}
use Rattle.std.proofs.lemmas.Cmp.{nat_list_cmp_total}
use Rattle.std.proofs.lemmas.List.{get_or-map, length-map}
use Rattle.std.proofs.lemmas.List.Sorted.{IsPermutation-map, list_any-IsPermutation}
use Rattle.std.proofs.lemmas.Map.Text.{is_eq-slice_cmp}
use Rattle.basics.proofs.Members.{some_passes}
use Rattle.basics.proofs.Texts.{same_text}
use Rattle.plan_rules.specs.Order.{AreInOrder, is_before}

ties_eq : (o p : Ordering) → p ≡ ordering_reverse o → (not (is_lt o) && not (is_lt p)) ≡ is_eq o
ties_eq Less p e = refl
ties_eq Equal p e = ap (λ (q : Ordering). not (is_lt q)) e
ties_eq Greater p e = ap (λ (q : Ordering). not (is_lt q)) e

-- what is on a par has one key
pub ties_same : {A : Type 0} (key : A → List ℕ) (a b : A) → ties (is_before key) a b ≡ bytes_eq (key a) (key b)
ties_same key a b = ties_eq (slice_cmp nat_cmp (key a) (key b)) (slice_cmp nat_cmp (key b) (key a)) (nat_list_cmp_total.antisymm (key b) (key a)) ∙ is_eq-slice_cmp (key a) (key b)

pub same_filter : {A : Type 0} (f g : A → Bool) → ((x : A) → f x ≡ g x) → (xs : List A) → filter f xs ≡ filter g xs
same_filter f g same [] = refl
same_filter {A} f g same (x ∷ xs) = ap (λ (b : Bool). cond b (x ∷ filter f xs) (filter f xs)) (same x) ∙ ap (λ (ys : List A). cond (g x) (x ∷ ys) ys) (same_filter f g same xs)

passed_step : {A : Type 0} (b : Bool) (x : A) (xs : List A) → b ≡ false → cond b (x ∷ xs) xs ≡ xs
passed_step b x xs e = ap (λ (c : Bool). cond c (x ∷ xs) xs) e

pub none_pass : {A : Type 0} (f : A → Bool) (xs : List A) → list_any f xs ≡ false → filter f xs ≡ []
none_pass f [] e = refl
none_pass f (x ∷ xs) e = let k = or_parts (f x) (list_any f xs) e in passed_step (f x) x (filter f xs) k.0 ∙ none_pass f xs k.1

mapped_step : {A B : Type 0} (f : A → B) (b : Bool) (x : A) (xs : List A) → map f (cond b (x ∷ xs) xs) ≡ cond b (f x ∷ map f xs) (map f xs)
mapped_step f true x xs = refl
mapped_step f false x xs = refl

pub filter_viewed : {A B : Type 0} (view : A → B) (f : B → Bool) (xs : List A) → filter f (map view xs) ≡ map view (filter (λ x. f (view x)) xs)
filter_viewed view f [] = refl
filter_viewed {A} {B} view f (x ∷ xs) = ap (λ (ys : List B). cond (f (view x)) (view x ∷ ys) ys) (filter_viewed view f xs) ∙ sym (mapped_step view (f (view x)) x (filter (λ (y : A). f (view y)) xs))

sorted_viewed : {A B : Type 0} (f : A → B) (lt : B → B → Bool) (xs : List A) → IsSortedBy (λ a b. lt (f a) (f b)) xs → IsSortedBy lt (map f xs)
sorted_viewed f lt [] sorted k d low less = absurd (omega (arith, less))
sorted_viewed {A} {B} f lt (x ∷ xs) sorted k d low less =
    let within : k + 1 < length (x ∷ xs) = omega (arith, less, length-map xs f) in
    let here = get_or-map f (x ∷ xs) k x d (omega (arith, within)) in
    let next = get_or-map f (x ∷ xs) (k + 1) x d within in
    subst (λ (e : B). lt e (get_or (map f (x ∷ xs)) k d) ≡ false) (sym next)
    (subst (λ (e : B). lt (f (get_or (x ∷ xs) (k + 1) x)) e ≡ false) (sym here) (sorted k x low within))

module _ {A B : Type 0} (view : A → B) (key : B → List ℕ) (xs ys : List A) (perm : IsPermutation xs ys)
    (stable : IsStableBy (λ a b. is_before key (view a) (view b)) xs ys) where
  abbrev of_key : List ℕ → A → Bool
  of_key k x = bytes_eq k (key (view x))

  -- what has the key of one that is there
  with_one : (k : List ℕ) (a : A) → k ≡ key (view a) → filter (of_key k) ys ≡ filter (of_key k) xs
  with_one k a is =
      let same : (x : A) → of_key k x ≡ ties (λ (b c : A). is_before key (view b) (view c)) a x = (λ x. ap (λ (t : List ℕ). bytes_eq t (key (view x))) is ∙ sym (ties_same (λ (b : A). key (view b)) a x)) in
      same_filter (of_key k) (ties (λ (b c : A). is_before key (view b) (view c)) a) same ys ∙ (stable a ∙ sym (same_filter (of_key k) (ties (λ (b c : A). is_before key (view b) (view c)) a) same xs))

  kept : (k : List ℕ) → filter (of_key k) ys ≡ filter (of_key k) xs
  kept k = elim (cases_Bool (list_any (of_key k) xs)) [
    | inl y ↦ (let one = some_passes (of_key k) xs y in with_one k one.0 (same_text k (key (view one.0)) one.2))
    | inr n ↦ none_pass (of_key k) ys (sym (list_any-IsPermutation (of_key k) xs ys perm) ∙ n) ∙ sym (none_pass (of_key k) xs n)
  ]

  pub in_order : IsSortedBy (λ a b. is_before key (view a) (view b)) ys → AreInOrder key (map view xs) (map view ys)
  in_order sorted = record {
    moved = IsPermutation-map view xs ys perm;
    sorted = sorted_viewed view (is_before key) ys sorted;
    stable = λ k. filter_viewed view (λ (x : B). bytes_eq k (key x)) ys ∙ (ap (map view) (kept k) ∙ sym (filter_viewed view (λ (x : B). bytes_eq k (key x)) xs));
  }

-- what is in the order of a view's keys is so through the view
pub order_viewed : {A B : Type 0} (view : A → B) (key : B → List ℕ) (xs ys : List A) → AreInOrder (λ (x : A). key (view x)) xs ys → AreInOrder key (map view xs) (map view ys)
order_viewed {A} {B} view key xs ys order = record {
  moved = IsPermutation-map view xs ys order.moved;
  sorted = sorted_viewed view (is_before key) ys order.sorted;
  stable = λ k. filter_viewed view (λ (x : B). bytes_eq k (key x)) ys ∙ (ap (map view) (order.stable k) ∙ sym (filter_viewed view (λ (x : B). bytes_eq k (key x)) xs));
}

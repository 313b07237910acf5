-- What one builder of the pool answered, of the pool.
use Rattle.std.proofs.Common.{◌≡◌, ◌<◌, ◌≤◌, ◌+◌, ◌-◌, ℕ, zero, suc, List, [], ◌∷◌, ◌++◌, get_or, length, take, Some, Ok, Err, inl, inr, refl, ap, sym, ◌∙◌, arith, subst, append-nil}
use Rattle.std.specs.Prelude.{Contains, IfOk, Result, remove, slice_get}
use Rattle.std.proofs.lemmas.Bool.{cases_lt}
use Rattle.std.proofs.lemmas.List.{length-append}
use Rattle.std.proofs.lemmas.List.Edits.{remove-append_right}
use Rattle.std.proofs.lemmas.Option.{get_or_from_slice_get, slice_get-get_or, slice_get_within}
use Rattle.std.proofs.Math.Seq.{get_or-append_seam, take-length}
use Rattle.std.proofs.lemmas.List.Elements.{Contains-append_left, Contains-push, Contains-push_cases}
use Rattle.file_tree.specs.Disk.{Rose}
use Rattle.build_pool.specs.Pool.{IfLastOf, IsLastOf, PoolValue, LeavesLastOf, PoolRose, faults_of}
use Rattle.build_pool.specs.declared.pools.Away.{Away}
use Rattle.build_pool.specs.declared.orders.Order.{Order}
use Rattle.file_tree.specs.declared.objects.Entry.{Entry}
use Rattle.merge_image.specs.Images.{TellAlike}

-- one more element of a list
pub take_next : {A : Type 0} (xs : List A) (n : ℕ) (x : A) → slice_get xs n ≡ Some x → take (suc n) xs ≡ take n xs ++ x ∷ []
take_next [] n x e = absurd (cc e)
take_next (y ∷ xs) zero x e = let same : y ≡ x = cc in ap (λ z. z ∷ []) same
take_next (y ∷ xs) (suc n) x e = ap (λ l. y ∷ l) (take_next xs n x e)

pub taken_more : {A : Type 0} (items new image whole : List A) (n : ℕ) (x : A) → items ≡ take n whole → image ≡ whole → slice_get image n ≡ Some x → new ≡ items ++ x ∷ [] → new ≡ take (n + 1) whole
taken_more {A} items new image whole n x taken same there is =
    let next : n + 1 ≡ suc n = omega arith in
    is ∙ (ap (λ l. l ++ x ∷ []) taken ∙ (sym (take_next whole n x (subst (λ (l : List A). slice_get l n ≡ Some x) same there)) ∙ ap (λ (k : ℕ). take k whole) (sym next)))

-- so many elements as there are
pub whole_taken : {A : Type 0} (told image items : List A) (n : ℕ) → image ≡ told → length told ≡ n → items ≡ take n image → told ≡ items
whole_taken told image items n same long is = sym (is ∙ (ap (take n) same ∙ (ap (λ (k : ℕ). take k told) (sym long) ∙ take-length told)))

-- the builder that answered is named beside its answer
pub beside_answer : {B X E : Type 0} (r : Result X E) (b : B) (Q : B → Type 0) (P : B → X → Type 0) → Q b → IfOk r (P b) → IfOk r (λ x. (y : B) × Q y × P y x)
beside_answer (Ok x) b Q P q p = (b, q, p)
beside_answer (Err e) b Q P q p = tt

-- what was remembered last, under this number, is the last of it
pub put_last : (lent : List Away) (w : Away) (n i : ℕ) (a : Away) → n ≡ w.number → IsLastOf n (lent ++ w ∷ []) i a → (i ≡ length lent) × (a ≡ w)
put_last lent w n i a known is =
    let long = length-append lent (w ∷ []) in
    let inside : length lent < length (lent ++ w ∷ []) = omega (arith, long) in
    let reads : get_or (lent ++ w ∷ []) (length lent) w ≡ w = get_or-append_seam lent w [] w in
    let stands : slice_get (lent ++ w ∷ []) (length lent) ≡ Some w = slice_get-get_or (lent ++ w ∷ []) (length lent) w inside ∙ ap Some reads in
    let within : i < length (lent ++ w ∷ []) = slice_get_within (lent ++ w ∷ []) i a is.here in
    elim (cases_lt i (length lent)) [
      | inl lt ↦ absurd (is.last (length lent) w lt stands (sym known))
      | inr ge ↦ (
          let at_end : i ≡ length lent = omega (arith, within, ge, long) in
          let here : slice_get (lent ++ w ∷ []) (length lent) ≡ Some a = subst (λ (k : ℕ). slice_get (lent ++ w ∷ []) k ≡ Some a) at_end is.here in
          let same : Some a ≡ Some w = sym here ∙ stands in
          (at_end, cc))
    ]

-- so what holds of it holds of the last of its number
pub if_put_last : (lent mid : List Away) (w : Away) (n : ℕ) (P : Away → Type 0) → mid ≡ lent ++ w ∷ [] → n ≡ w.number → P w → IfLastOf n mid P
if_put_last lent mid w n P is known p i a last =
    let put = put_last lent w n i a known (subst (λ (l : List Away). IsLastOf n l i a) is last) in
    subst P (sym put.1) p

-- a builder that failed while it was lent makes the pool's count rise
pub pool_rose : {B : Type 0} (number faults : B → ℕ) (old mid new : PoolValue B) (lent : List Away) (b b' : B)
    → mid.lent ≡ lent ++ record { number = number b; faults = faults b } ∷ [] → number b' ≡ number b
    → faults_of faults mid ≡ faults_of faults old → new.resting ≡ mid.resting ++ b' ∷ []
    → (IfLastOf (number b') mid.lent (λ a. a.faults < faults b') → faults_of faults mid < faults_of faults new)
    → Rose (faults b) (faults b') → PoolRose faults old new
pool_rose number faults old mid new lent b b' is same count rest rose (inl lt) =
    let all = if_put_last lent mid.lent (record { number = number b; faults = faults b }) (number b') (λ a. a.faults < faults b') is same lt in
    inl (subst (λ (n : ℕ). n < faults_of faults new) count (rose all))
pool_rose {B} number faults old mid new lent b b' is same count rest rose (inr full) =
    inr (inl (b', subst (λ (l : List B). Contains l b') (sym rest) (Contains-push mid.resting b'), full))

-- a builder that was lent and comes back leaves lent what was lent before
pub lent_back : {B : Type 0} (number : B → ℕ) (lent mid new : List Away) (b b' : B) (faults : ℕ)
    → mid ≡ lent ++ record { number = number b; faults = faults } ∷ [] → number b' ≡ number b
    → LeavesLastOf (number b') mid new → new ≡ lent
lent_back number lent mid new b b' faults is same (i, a, last, left) =
    let w : Away = record { number = number b; faults = faults } in
    let put = put_last lent w (number b') i a same (subst (λ (l : List Away). IsLastOf (number b') l i a) is last) in
    let ge : length lent ≤ i = omega (arith, put.0) in
    let none : i - length lent ≡ 0 = omega (arith, put.0) in
    left ∙ (ap (λ (l : List Away). remove l i) is ∙ (remove-append_right lent (w ∷ []) (length lent) i refl ge
    ∙ (ap (λ (n : ℕ). lent ++ remove (w ∷ []) n) none ∙ append-nil lent)))

-- builders of which one was lent and came back tell what they told
pub tell_alike : {B : Type 0} (told : B → Order → List Entry) (old mid new : List B) (b b' : B) → old ≡ mid ++ b ∷ [] → new ≡ mid ++ b' ∷ [] → told b' ≡ told b → TellAlike told old new
tell_alike {B} told old mid new b b' was is same c has = elim (Contains-push_cases mid b' c (subst (λ (l : List B). Contains l c) is has)) [
  | inl before ↦ (c, subst (λ (l : List B). Contains l c) (sym was) (Contains-append_left mid (b ∷ []) c before), refl)
  | inr here ↦ (b, subst (λ (l : List B). Contains l b) (sym was) (Contains-push mid b), ap told (sym here) ∙ same)
]

pub same_length : {B : Type 0} (old mid new : List B) (b b' : B) → old ≡ mid ++ b ∷ [] → new ≡ mid ++ b' ∷ [] → length new ≡ length old
same_length old mid new b b' was is = ap length is ∙ (length-append mid (b' ∷ []) ∙ (sym (length-append mid (b ∷ [])) ∙ sym (ap length was)))

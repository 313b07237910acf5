-- The steps of a loop that tries rules in order.
use Rattle.std.proofs.Common.{◌≡◌, ◌<◌, ◌+◌, ℕ, zero, suc, arith, sym, List, [], ◌∷◌, Option, None, Some, drop, get_or, length, map, refl, subst, inl, inr}
use Rattle.std.specs.Prelude.{Result, Ok, Err, IfSome}
use Rattle.basics.specs.Members.{Has}
use Rattle.basics.proofs.Lists.{at_drop}
use Rattle.basics.proofs.Permutations.{has-moved}
use Rattle.std.proofs.lemmas.List.Sorted.{IsPermutation-sym}
use Rattle.plan_rules.specs.Order.{AreInOrder, each_by}
use Rattle.plan_rules.specs.Refusals.{Refusal, Says, told}
use Rattle.plan_rules.specs.Verdicts.{both, each, each_from}
use Rattle.plan_rules.specs.declared.refusal.PlanRefused.{PlanRefused}

pub both_passed : {E : Type 0} (J K : Option E → Type 0) → J None → (a : Option E) → K a → both J K a
both_passed J K passed None k = (passed, k)
both_passed J K passed (Some e) k = inr (passed, k)

pub first_refused : {E : Type 0} (J K : Option E → Type 0) (e : E) → J (Some e) → both J K (Some e)
first_refused J K e j = inl j

-- what a loop over a list has tried so far lets the rest be heard
abbrev pub Hears : {E : Type 0} → (Option E → Type 0) → (Option E → Type 0) → Type 0
Hears {E} rest whole = (a : Option E) → rest a → whole a

-- one rule more has let pass
pub each_next : {A E : Type 0} (xs : List A) (i : ℕ) (x : A) (J : A → Option E → Type 0) (K : Option E → Type 0) → i < length xs → x ≡ get_or xs i x → Hears (each (drop i xs) J) K → J x None → Hears (each (drop (i + 1) xs) J) K
each_next xs i x J K within is so_far passed a rest = so_far a (rw (at_drop xs i x within is) (both_passed (J x) (each (drop (i + 1) xs) J) passed a rest))

-- a rule refuses
pub each_refused : {A E : Type 0} (xs : List A) (i : ℕ) (x : A) (J : A → Option E → Type 0) (K : Option E → Type 0) (e : E) → i < length xs → x ≡ get_or xs i x → Hears (each (drop i xs) J) K → J x (Some e) → K (Some e)
each_refused xs i x J K e within is so_far refuses = so_far (Some e) (rw (at_drop xs i x within is) (inl refuses))

-- the same where a rule sees the place
pub from_next : {A E : Type 0} (xs : List A) (i : ℕ) (x : A) (J : ℕ → A → Option E → Type 0) (K : Option E → Type 0) → i < length xs → x ≡ get_or xs i x → Hears (each_from i (drop i xs) J) K → J i x None → Hears (each_from (i + 1) (drop (i + 1) xs) J) K
from_next xs i x J K within is so_far passed a rest = so_far a (rw (at_drop xs i x within is) (both_passed (J i x) (each_from (i + 1) (drop (i + 1) xs) J) passed a rest))

pub from_refused : {A E : Type 0} (xs : List A) (i : ℕ) (x : A) (J : ℕ → A → Option E → Type 0) (K : Option E → Type 0) (e : E) → i < length xs → x ≡ get_or xs i x → Hears (each_from i (drop i xs) J) K → J i x (Some e) → K (Some e)
from_refused xs i x J K e within is so_far refuses = so_far (Some e) (rw (at_drop xs i x within is) (inl refuses))

-- the same where a list is seen through a view
pub mapped_next : {A B E : Type 0} (f : A → B) (xs : List A) (i : ℕ) (x : A) (J : B → Option E → Type 0) (K : Option E → Type 0) → i < length xs → x ≡ get_or xs i x → Hears (each (map f (drop i xs)) J) K → J (f x) None → Hears (each (map f (drop (i + 1) xs)) J) K
mapped_next f xs i x J K within is so_far passed a rest = so_far a (rw (at_drop xs i x within is) (both_passed (J (f x)) (each (map f (drop (i + 1) xs)) J) passed a rest))

pub mapped_refused : {A B E : Type 0} (f : A → B) (xs : List A) (i : ℕ) (x : A) (J : B → Option E → Type 0) (K : Option E → Type 0) (e : E) → i < length xs → x ≡ get_or xs i x → Hears (each (map f (drop i xs)) J) K → J (f x) (Some e) → K (Some e)
mapped_refused f xs i x J K e within is so_far refuses = so_far (Some e) (rw (at_drop xs i x within is) (inl refuses))

-- .. and where a rule sees the place, too
pub placed_next : {A B E : Type 0} (f : A → B) (xs : List A) (i : ℕ) (x : A) (J : ℕ → B → Option E → Type 0) (K : Option E → Type 0) → i < length xs → x ≡ get_or xs i x → Hears (each_from i (map f (drop i xs)) J) K → J i (f x) None → Hears (each_from (i + 1) (map f (drop (i + 1) xs)) J) K
placed_next f xs i x J K within is so_far passed a rest = so_far a (rw (at_drop xs i x within is) (both_passed (J i (f x)) (each_from (i + 1) (map f (drop (i + 1) xs)) J) passed a rest))

pub placed_refused : {A B E : Type 0} (f : A → B) (xs : List A) (i : ℕ) (x : A) (J : ℕ → B → Option E → Type 0) (K : Option E → Type 0) (e : E) → i < length xs → x ≡ get_or xs i x → Hears (each_from i (map f (drop i xs)) J) K → J i (f x) (Some e) → K (Some e)
placed_refused f xs i x J K e within is so_far refuses = so_far (Some e) (rw (at_drop xs i x within is) (inl refuses))

-- where a rule lets pass at every place, it does so at one
module _ {A E : Type 0} (J : ℕ → A → Option E → Type 0) where
  passed_at : (xs : List A) (n : ℕ) → each_from n xs J None → (i m : ℕ) (x : A) → m ≡ n + i → i < length xs → x ≡ get_or xs i x → J m x None
  passed_at [] n h i m x e lt is = absurd (omega (arith, lt))
  passed_at (y ∷ ys) n h zero m x e lt is = subst (λ (k : ℕ). J k x None) (let at_m : n ≡ m = omega (arith, e) in at_m) (subst (λ (z : A). J n z None) (sym is) h.0)
  passed_at (y ∷ ys) n h (suc i) m x e lt is = passed_at ys (n + 1) h.1 i m x (omega (arith, e)) (omega (arith, lt)) is

  pub from_passed : (xs : List A) → each_from 0 xs J None → (i : ℕ) (x : A) → i < length xs → x ≡ get_or xs i x → J i x None
  from_passed xs h i x lt is = passed_at xs 0 h i i x (omega arith) lt is

  pass_all : (xs : List A) (n : ℕ) → ((i m : ℕ) (x : A) → m ≡ n + i → i < length xs → x ≡ get_or xs i x → J m x None) → each_from n xs J None
  pass_all [] n all = tt
  pass_all (y ∷ ys) n all = (all 0 n y (omega arith) (omega arith) refl, pass_all ys (n + 1) (λ i m x e lt is. all (suc i) m x (omega (arith, e)) (omega (arith, lt)) is))

  pub from_all : (xs : List A) → ((i : ℕ) (x : A) → i < length xs → x ≡ get_or xs i x → J i x None) → each_from 0 xs J None
  from_all xs all = pass_all xs 0 (λ i m x e lt is. subst (λ (k : ℕ). J k x None) (let at_m : i ≡ m = omega (arith, e) in at_m) (all i x lt is))

-- all let pass
pub each_none : {A E : Type 0} (xs : List A) (J : A → Option E → Type 0) → ((x : A) → Has xs x → J x None) → each xs J None
each_none [] J all = tt
each_none (x ∷ xs) J all = (all x (inl refl), each_none xs J (λ y h. all y (inr h)))

pub each_passed : {A E : Type 0} (xs : List A) (J : A → Option E → Type 0) → each xs J None → (x : A) → Has xs x → J x None
each_passed [] J h x has = absurd has
each_passed (y ∷ xs) J h x (inl e) = subst (λ (z : _). J z None) e h.0
each_passed (y ∷ xs) J h x (inr has) = each_passed xs J h.1 x has

-- the second of two rules is heard, where the first lets pass
pub says_second : {T : Type 0} (J K : Option Refusal → Type 0) (r : Result T PlanRefused) → J None → Says K r → Says (both J K) r
says_second J K (Ok u) passed k = (passed, k)
says_second J K (Err e) passed k = known (told e) k where
  known : (o : Option Refusal) → IfSome o (λ a. K (Some a)) → IfSome o (λ a. both J K (Some a))
  known None k = tt
  known (Some a) k = inr (passed, k)

-- what is heard of one rule is heard of another
pub says_more : {T : Type 0} (J K : Option Refusal → Type 0) (r : Result T PlanRefused) → Hears J K → Says J r → Says K r
says_more J K (Ok u) hears j = hears None j
says_more J K (Err e) hears j = known (told e) j where
  known : (o : Option Refusal) → IfSome o (λ a. J (Some a)) → IfSome o (λ a. K (Some a))
  known None j = tt
  known (Some a) j = hears (Some a) j

-- what is told of a refusal
pub told_more : (J K : Option Refusal → Type 0) (e : PlanRefused) → ((a : Refusal) → J (Some a) → K (Some a)) → IfSome (told e) (λ a. J (Some a)) → IfSome (told e) (λ a. K (Some a))
told_more J K e more j = known (told e) j where
  known : (o : Option Refusal) → IfSome o (λ a. J (Some a)) → IfSome o (λ a. K (Some a))
  known None j = tt
  known (Some a) j = more a j

-- a rule doesn't both let pass and refuse
abbrev pub IsClear : {E : Type 0} → (Option E → Type 0) → Type 0
IsClear {E} J = (e : E) → J None → J (Some e) → ⊥

pub both_clear : {E : Type 0} (J K : Option E → Type 0) → IsClear J → IsClear K → IsClear (both J K)
both_clear J K j k e passed (inl h) = j e passed.0 h
both_clear J K j k e passed (inr h) = k e passed.1 h.1

pub each_clear : {A E : Type 0} (xs : List A) (J : A → Option E → Type 0) → ((x : A) → IsClear (J x)) → IsClear (each xs J)
each_clear [] J clear e passed h = h
each_clear (x ∷ xs) J clear e passed h = both_clear (J x) (each xs J) (clear x) (each_clear xs J clear) e passed h

pub from_clear : {A E : Type 0} (n : ℕ) (xs : List A) (J : ℕ → A → Option E → Type 0) → ((i : ℕ) (x : A) → IsClear (J i x)) → IsClear (each_from n xs J)
from_clear n [] J clear e passed h = h
from_clear n (x ∷ xs) J clear e passed h = both_clear (J n x) (each_from (n + 1) xs J) (clear n x) (from_clear (n + 1) xs J clear) e passed h

-- a list in order has the same members, so it is tried in place of the list
pub hears_in_order : {A E : Type 0} (key : A → List ℕ) (xs ys : List A) (J : A → Option E → Type 0) → AreInOrder key xs ys → Hears (each ys J) (each_by key xs J)
hears_in_order key xs ys J order None passed = each_none xs J (λ x has. each_passed ys J passed x (has-moved xs ys x order.moved has))
hears_in_order key xs ys J order (Some e) refused = (ys, order, refused)

pub by_clear : {A E : Type 0} (key : A → List ℕ) (xs : List A) (J : A → Option E → Type 0) → ((x : A) → IsClear (J x)) → IsClear (each_by key xs J)
by_clear key xs J clear e passed h = each_clear h.0 J clear e (each_none h.0 J (λ x has. each_passed xs J passed x (has-moved h.0 xs x (IsPermutation-sym xs h.0 h.1.moved) has))) h.2

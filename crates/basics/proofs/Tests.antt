-- Tests that agree, and what they pick.
use Rattle.std.specs.Prelude.{IsSome}
use Rattle.std.specs.Option.{option_map, option_or}
use Rattle.std.proofs.Common.{◌≡◌, ◌&&◌, ◌||◌, Bool, true, false, cond, Option, Some, None, refl, subst, sym}

-- tests that pass of one another are the same
pub same_tests : (a b : Bool) → (a ≡ true → b ≡ true) → (b ≡ true → a ≡ true) → a ≡ b
same_tests true b h k = sym (h refl)
same_tests false true h k = k refl
same_tests false false h k = refl

pub or_rest : (a b : Bool) → a ≡ false → (a || b) ≡ true → b ≡ true
or_rest true b e h = absurd (cc e)
or_rest false b e h = h

pub or_first : (a b : Bool) → b ≡ false → (a || b) ≡ true → a ≡ true
or_first true b e h = refl
or_first false b e h = absurd (cc (e, h))

pub and-true : (b : Bool) → (b && true) ≡ b
and-true true = refl
and-true false = refl

pub or-false : (b : Bool) → (b || false) ≡ b
or-false true = refl
or-false false = refl

pub or-true : (b : Bool) → (b || true) ≡ true
or-true true = refl
or-true false = refl

-- a test that is passed also where another one is
pub cond-or : (a b : Bool) → cond a true b ≡ (b || a)
cond-or true true = refl
cond-or true false = refl
cond-or false true = refl
cond-or false false = refl

pub or-assoc : (a b c : Bool) → ((a || b) || c) ≡ (a || (b || c))
or-assoc true b c = refl
or-assoc false b c = refl

pub none_picked : {A : Type 0} (b : Bool) (x : A) → cond b (Some x) None ≡ None → b ≡ false
none_picked true x e = absurd (cc e)
none_picked false x e = refl

pub some-IsSome : {A : Type 0} (x : Option A) (y : A) → x ≡ Some y → IsSome x
some-IsSome {A = A} x y e = subst (λ (z : Option A). IsSome z) (sym e) refl

pub none_is_not_some : {A : Type 0} (x : Option A) → x ≡ None → IsSome x → ⊥
none_is_not_some None e is = absurd (cc is)
none_is_not_some (Some y) e is = absurd (cc e)

-- ---- one answer or else another

pub or-none : {A : Type 0} (x : Option A) → option_or x None ≡ x
or-none None = refl
or-none (Some y) = refl

pub map-or : {A B : Type 0} (f : A → B) (x y : Option A) → option_map f (option_or x y) ≡ option_or (option_map f x) (option_map f y)
map-or f None y = refl
map-or f (Some z) y = refl

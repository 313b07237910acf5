-- Steps of a reading that may fail, and the tests on the way.
use Rattle.std.proofs.Common.{◌≡◌, ◌++◌, ◌+◌, ◌<◌, ℕ, suc, Bool, true, false, cond, List, ◌∷◌, get_or, take, drop, Result, Ok, Err, refl, sym, ap, ◌∙◌, append_assoc, arith, inl, inr}
use Rattle.std.proofs.lemmas.Bool.{cases_lt}
use Rattle.std.proofs.lemmas.List.{get_or-drop, get_or-take, get_or_past, length-take}
use Rattle.merge_record.specs.Reading.{◌>>=◌}
use Rattle.merge_record.specs.declared.fault.DecodeFault.{DecodeFault}

abbrev pub IsBytes : List ℕ → Type 0
IsBytes bytes = (i : ℕ) → get_or bytes i 0 < 256

pub IsBytes-drop : (n : ℕ) (bytes : List ℕ) → IsBytes bytes → IsBytes (drop n bytes)
IsBytes-drop n bytes h i = rw get_or-drop (h (n + i))

pub IsBytes-take : (n : ℕ) (bytes : List ℕ) → IsBytes bytes → IsBytes (take n bytes)
IsBytes-take n bytes h i =
    elim (cases_lt i n) [
      | inl lt ↦ rw (get_or-take n bytes i 0 lt) (h i)
      | inr le ↦ rw (get_or_past (take n bytes) i 0 (omega (arith, length-take n bytes))) (omega arith)
    ]

pub IsBytes-rest : (b : ℕ) (bytes : List ℕ) → IsBytes (b ∷ bytes) → IsBytes bytes
IsBytes-rest b bytes h i = h (suc i)

-- the value of a step that did not fail
pub bind_ok : {A B : Type 0} (r : Result A DecodeFault) (f : A → Result B DecodeFault) (y : B) → (r >>= f) ≡ Ok y → (x : A) × (r ≡ Ok x) × (f x ≡ Ok y)
bind_ok (Ok x) f y e = (x, refl, e)
bind_ok (Err d) f y e = absurd cc

-- the next step after one that did not fail
pub bind_is : {A B : Type 0} (r : Result A DecodeFault) (x : A) (f : A → Result B DecodeFault) → r ≡ Ok x → (r >>= f) ≡ f x
bind_is (Ok y) x f e = let same : y ≡ x = cc in ap f same
bind_is (Err d) x f e = absurd cc

-- a test that did not fail
pub guard_ok : {A : Type 0} (b : Bool) (x y : A) (e : DecodeFault) → cond b (Err e) (Ok x) ≡ Ok y → (b ≡ false) × (x ≡ y)
guard_ok true x y e h = absurd cc
guard_ok false x y e h = (refl, cc)

pub passed_ok : {A : Type 0} (b : Bool) (x y : A) (e : DecodeFault) → cond b (Ok x) (Err e) ≡ Ok y → (b ≡ true) × (x ≡ y)
passed_ok true x y e h = (refl, cc)
passed_ok false x y e h = absurd cc

abbrev done : {A : Type 0} → A → Result A DecodeFault
done x = Ok x

pub ok_is : {A : Type 0} (x y : A) → done x ≡ done y → x ≡ y
ok_is x y e = cc

-- what a reader took from the front
pub record Takes (bytes text rest : List ℕ) : Type 0 where
  pub parts : bytes ≡ text ++ rest
  pub rest_fits : IsBytes rest

pub Takes-then : (a x b y c : List ℕ) → Takes a x b → Takes b y c → Takes a (x ++ y) c
Takes-then a x b y c p q = record { parts = p.parts ∙ ap (λ (t : List ℕ). x ++ t) q.parts ∙ sym (append_assoc x y c); rest_fits = q.rest_fits }

-- a reader that reads what a function of the value spells, and all that it spells of good values
pub record Reads {A : Type 0} (read : List ℕ → Result (A × List ℕ) DecodeFault) (text : A → List ℕ) (Good : A → Type 0) : Type 0 where
  pub takes : (bytes : List ℕ) (x : A × List ℕ) → IsBytes bytes → read bytes ≡ Ok x → Takes bytes (text x.0) x.1 × Good x.0
  pub again : (x : A) (rest : List ℕ) → Good x → read (text x ++ rest) ≡ Ok (x, rest)

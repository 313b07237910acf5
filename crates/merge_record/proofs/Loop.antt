-- Reading fields one behind the other, as a loop does.
use Rattle.std.proofs.Common.{◌≡◌, ℕ, suc, ◌-◌, ◌+◌, ◌≤◌, ◌<◌, List, [], ◌∷◌, ◌++◌, Result, Ok, Err, refl, sym, ap, ◌∙◌, append_assoc, arith}
use Rattle.std.proofs.lemmas.List.{append-nil}
use Rattle.merge_record.specs.declared.fault.DecodeFault.{DecodeFault}
use Rattle.merge_record.specs.declared.fault.DecodeFault.TheVariants as faults
use Rattle.merge_record.specs.Reading.{◌>>=◌, Fails, many_at}

-- what was read before, and what is still read
abbrev pub with_front : {A : Type 0} → List A → Result (List A × List ℕ) DecodeFault → Result (List A × List ℕ) DecodeFault
with_front front read = read >>= λ x. Ok (front ++ x.0, x.1)

regroup : {A : Type 0} (front : List A) (x : A) (read : Result (List A × List ℕ) DecodeFault) → with_front front (read >>= λ y. Ok (x ∷ y.0, y.1)) ≡ with_front (front ++ x ∷ []) read
regroup {A} front x (Ok y) = ap (λ (xs : List A). Ok (xs, y.1)) (simp append_assoc)
regroup front x (Err f) = refl

fails_on : {A B C : Type 0} (e : DecodeFault) (one : Result A DecodeFault) (f : A → Result B DecodeFault) (g : B → Result C DecodeFault) (total : Result C DecodeFault)
    → Fails e one → ((one >>= f) >>= g) ≡ total → Fails e total
fails_on faults.Memory one f g total h so_far = tt
fails_on faults.Short one f g total h so_far = sym so_far ∙ rw h refl
fails_on (faults.Tag at) one f g total h so_far = sym so_far ∙ rw h refl
fails_on (faults.Path at) one f g total h so_far = sym so_far ∙ rw h refl
fails_on faults.Trailing one f g total h so_far = sym so_far ∙ rw h refl
fails_on faults.Limit one f g total h so_far = sym so_far ∙ rw h refl

module _ {A : Type 0} (one : List ℕ → Result (A × List ℕ) DecodeFault) where
  pub goes_on : (front : List A) (count i : ℕ) (bytes : List ℕ) (x : A) (after : List ℕ) (total : Result (List A × List ℕ) DecodeFault) → i < count → one bytes ≡ Ok (x, after)
      → with_front front (many_at one (count - i) bytes) ≡ total → with_front (front ++ x ∷ []) (many_at one (count - (i + 1)) after) ≡ total
  unfolding many_at
  goes_on front count i bytes x after total lt h so_far =
      let k : count - i ≡ suc (count - (i + 1)) = omega arith in
      let step : with_front front (many_at one (count - i) bytes) ≡ with_front (front ++ x ∷ []) (many_at one (count - (i + 1)) after) = rw (k, h) (regroup front x (many_at one (count - (i + 1)) after)) in
      sym step ∙ so_far

  pub ends : (e : DecodeFault) (front : List A) (count i : ℕ) (bytes : List ℕ) (total : Result (List A × List ℕ) DecodeFault) → i < count → Fails e (one bytes)
      → with_front front (many_at one (count - i) bytes) ≡ total → Fails e total
  unfolding many_at
  ends e front count i bytes total lt h so_far =
      let k : count - i ≡ suc (count - (i + 1)) = omega arith in
      let opened = rw k at so_far in
      fails_on e (one bytes) (λ first. many_at one (count - (i + 1)) first.1 >>= λ others. Ok (first.0 ∷ others.0, others.1)) (λ x. Ok (front ++ x.0, x.1)) total h opened

  pub is_done : (front : List A) (count i : ℕ) (bytes : List ℕ) (total : Result (List A × List ℕ) DecodeFault) → count ≤ i → with_front front (many_at one (count - i) bytes) ≡ total → total ≡ Ok (front, bytes)
  unfolding many_at
  is_done front count i bytes total le so_far =
      let k : count - i ≡ 0 = omega arith in
      let step : with_front front (many_at one (count - i) bytes) ≡ Ok (front, bytes) = rw k (ap (λ (xs : List A). Ok (xs, bytes)) (append-nil front)) in
      sym so_far ∙ step

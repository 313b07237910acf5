-- When a text is a path, and which fault is its first.
use Rattle.std.proofs.Common.{◌≡◌, ◌<◌, ◌≤◌, ◌+◌, ◌&&◌, ℕ, zero, suc, Bool, true, false, not, List, length, ap, sym, ◌∙◌, subst, refl, arith, ltb, leb, inl, inr, Option, Some, None, MatchOption, below_more}
use Rattle.std.proofs.lemmas.Bool.{lt-ltb, le-ltb, le-leb, lt-leb, and_from, and_left, and_right, and_parts, cases_lt, true≢false, not-true}
use Rattle.std.specs.Str.{is_utf8, IsUtf8}
use Rattle.std.proofs.lemmas.Str.{IsUtf8-from_is_utf8}
use Rattle.file_tree.specs.declared.limits.TheConstants.{MOST_PATH_BYTES}
use Rattle.file_tree.specs.Paths.{is_path, none_below, bad_at, bad_char_at, bad_part_at, FaultAt, FirstFault, IsGoodBefore}
use Rattle.file_tree.specs.declared.fault.PathFault.{PathFault}
use Rattle.file_tree.specs.declared.fault.PathFault.TheVariants.{Empty, BadChar, BadPart, TooLong, Memory}

pub none_below-true : (test : ℕ → Bool) (n : ℕ) → ((k : ℕ) → k < n → test k ≡ false) → none_below test n ≡ true
none_below-true test zero h = refl
none_below-true test (suc n) h =
    and_from (not (test n)) (none_below test n) (ap not (h n (omega arith))) (none_below-true test n (λ k lt. h k (omega arith)))

pub none_below-false : (test : ℕ → Bool) (n k : ℕ) → k < n → test k ≡ true → none_below test n ≡ false
none_below-false test zero k lt e = absurd (omega arith)
none_below-false test (suc n) k lt e =
    elim (cases_lt k n) [
      | inl below ↦ and_right (not (test n)) (none_below test n) (none_below-false test n k below e)
      | inr over ↦ (let at : k ≡ n = omega arith in and_left (not (test n)) (none_below test n) (ap not (ap test (sym at) ∙ e)))
    ]

pub none_below-at : (test : ℕ → Bool) (n k : ℕ) → none_below test n ≡ true → k < n → test k ≡ false
none_below-at test zero k h lt = absurd (omega arith)
none_below-at test (suc n) k h lt =
    let both = and_parts (not (test n)) (none_below test n) h in
    elim (cases_lt k n) [
      | inl below ↦ none_below-at test n k both.1 below
      | inr over ↦ (let at : k ≡ n = omega arith in ap test at ∙ not-true (test n) both.0)
    ]

pub is_path_if_good : (bytes : List ℕ) → 0 < length bytes → length bytes ≤ MOST_PATH_BYTES → ((k : ℕ) → k < length bytes + 1 → bad_at bytes k ≡ false) → is_path bytes ≡ true
unfolding is_path
is_path_if_good bytes some short good =
    and_from (ltb 0 (length bytes)) (leb (length bytes) MOST_PATH_BYTES && none_below (bad_at bytes) (length bytes + 1))
    (lt-ltb 0 (length bytes) some)
    (and_from (leb (length bytes) MOST_PATH_BYTES) (none_below (bad_at bytes) (length bytes + 1)) (le-leb (length bytes) MOST_PATH_BYTES short) (none_below-true (bad_at bytes) (length bytes + 1) good))

-- what a path has
pub record HasForm (bytes : List ℕ) : Type 0 where
  pub some : 0 < length bytes
  pub short : length bytes ≤ MOST_PATH_BYTES
  pub good : (k : ℕ) → k < length bytes + 1 → bad_at bytes k ≡ false

pub form_of_path : (bytes : List ℕ) → is_path bytes ≡ true → HasForm bytes
unfolding is_path
form_of_path bytes h =
    let both = and_parts (ltb 0 (length bytes)) (leb (length bytes) MOST_PATH_BYTES && none_below (bad_at bytes) (length bytes + 1)) h in
    let rest = and_parts (leb (length bytes) MOST_PATH_BYTES) (none_below (bad_at bytes) (length bytes + 1)) both.1 in
    record {
      some = elim (cases_lt 0 (length bytes)) [ inl lt ↦ lt | inr ge ↦ absurd (true≢false (sym both.0 ∙ le-ltb 0 (length bytes) ge)) ];
      short = elim (cases_lt MOST_PATH_BYTES (length bytes)) [ inl lt ↦ absurd (true≢false (sym rest.0 ∙ lt-leb (length bytes) MOST_PATH_BYTES lt)) | inr ge ↦ ge ];
      good = λ k lt. none_below-at (bad_at bytes) (length bytes + 1) k rest.1 lt;
    }

pub no_path_if_empty : (bytes : List ℕ) → length bytes ≡ 0 → is_path bytes ≡ false
unfolding is_path
no_path_if_empty bytes e = and_left (ltb 0 (length bytes)) _ (le-ltb 0 (length bytes) (omega arith))

pub no_path_if_long : (bytes : List ℕ) → MOST_PATH_BYTES < length bytes → is_path bytes ≡ false
unfolding is_path
no_path_if_long bytes long =
    and_right (ltb 0 (length bytes)) (leb (length bytes) MOST_PATH_BYTES && none_below (bad_at bytes) (length bytes + 1))
    (and_left (leb (length bytes) MOST_PATH_BYTES) (none_below (bad_at bytes) (length bytes + 1)) (lt-leb (length bytes) MOST_PATH_BYTES long))

pub no_path_if_bad : (bytes : List ℕ) (k : ℕ) → k ≤ length bytes → bad_at bytes k ≡ true → is_path bytes ≡ false
unfolding is_path
no_path_if_bad bytes k le e =
    and_right (ltb 0 (length bytes)) (leb (length bytes) MOST_PATH_BYTES && none_below (bad_at bytes) (length bytes + 1))
    (and_right (leb (length bytes) MOST_PATH_BYTES) (none_below (bad_at bytes) (length bytes + 1)) (none_below-false (bad_at bytes) (length bytes + 1) k (omega arith) e))

-- the first bad place makes the first fault
pub first_bad : (bytes : List ℕ) (at : ℕ) (f : PathFault) → IsGoodBefore bytes at → FaultAt bytes at f → (is_path bytes ≡ false) × FirstFault bytes f
first_bad bytes at (BadChar place) good (e, bad) =
    let bad' : bad_at bytes at ≡ true = grind (arith, bad) in
    (no_path_if_bad bytes at good.in_range bad', subst (λ (k : ℕ). IsGoodBefore bytes k × (bad_char_at bytes k ≡ true)) (sym e) (good, bad))
first_bad bytes at (BadPart place) good (e, bad) =
    let bad' : bad_at bytes at ≡ true = grind (arith, bad) in
    (no_path_if_bad bytes at good.in_range bad', subst (λ (k : ℕ). IsGoodBefore bytes k × (bad_part_at bytes k ≡ true)) (sym e) (good, bad))
first_bad bytes at Empty good h = absurd h
first_bad bytes at TooLong good h = absurd h
first_bad bytes at Memory good h = absurd h

-- nothing is bad before the end, so the end decides
pub end_decides : (bytes : List ℕ) (r : Option PathFault) → 0 < length bytes → length bytes ≤ MOST_PATH_BYTES → ((k : ℕ) → k < length bytes → bad_at bytes k ≡ false)
    → MatchOption r (bad_at bytes (length bytes) ≡ false) (FaultAt bytes (length bytes)) → MatchOption r (is_path bytes ≡ true) (λ f. (is_path bytes ≡ false) × FirstFault bytes f)
end_decides bytes None some short good h = is_path_if_good bytes some short (below_more _ _ good h)
end_decides bytes (Some f) some short good h =
    first_bad bytes (length bytes) f (record { some = some; short = short; in_range = omega arith; before = good }) h

-- ---- texts of which the bytes are UTF-8

not_utf8 : (b : Bool) (bytes : List ℕ) → is_utf8 bytes ≡ b → (IsUtf8 bytes → ⊥) → b ≡ false
not_utf8 true bytes e h = absurd (h (IsUtf8-from_is_utf8 bytes e))
not_utf8 false bytes e h = refl

pub is_utf8-false : (bytes : List ℕ) → (IsUtf8 bytes → ⊥) → is_utf8 bytes ≡ false
is_utf8-false bytes h = not_utf8 (is_utf8 bytes) bytes refl h

-- How many of a list pass a test, and which stand at two places of a list in order.
use Rattle.std.specs.List.{list_any}
use Rattle.std.specs.List.Sorted.{IsSortedBy}
use Rattle.std.proofs.Common.{◌≡◌, ◌∙◌, ◌<◌, ◌≤◌, ◌+◌, ◌-◌, ℕ, zero, suc, Bool, true, false, cond, not, List, [], ◌∷◌, bytes_eq, filter, get_or, length, map, inl, inr, refl, sym, ap, subst, arith}
use Rattle.std.proofs.lemmas.Bool.{and_from, cases_Bool, false_from_ne_true, not_from_false}
use Rattle.std.proofs.lemmas.Cmp.{nat_list_cmp_total}
use Rattle.std.proofs.lemmas.List.Sorted.{ranks_by, sorted_far}
use Rattle.basics.specs.Members.{AreDistinct, Has}
use Rattle.basics.proofs.Members.{some_passes}
use Rattle.basics.proofs.Membership.{has-at, has-filter, has-map, has-map_back}
use Rattle.basics.proofs.Texts.{bytes_eq-same, same_text}
use Rattle.plan_rules.specs.Order.{is_before}
use Rattle.plan_rules.proofs.Sorting.{none_pass, ties_same}

-- what is there stands at a place
pub has_place : {A : Type 0} (xs : List A) (x : A) → Has xs x → (i : ℕ) × (i < length xs) × (x ≡ get_or xs i x)
has_place [] x h = absurd h
has_place (y ∷ ys) x (inl e) = (0, omega arith, sym e)
has_place (y ∷ ys) x (inr h) = let k = has_place ys x h in let lt = k.1 in (suc k.0, omega (arith, lt), k.2)

-- what stands at a place doesn't depend on what would stand there else
pub any_default : {A : Type 0} (xs : List A) (n : ℕ) (d e : A) → n < length xs → get_or xs n d ≡ get_or xs n e
any_default [] n d e lt = absurd (omega (arith, lt))
any_default (x ∷ xs) zero d e lt = refl
any_default (x ∷ xs) (suc n) d e lt = any_default xs n d e (omega (arith, lt))

module _ {A : Type 0} (f : A → Bool) where
  some_long : (xs : List A) (x : A) → Has xs x → 1 ≤ length xs
  some_long [] x h = absurd h
  some_long (y ∷ ys) x h = omega arith

  passed : (z : A) (zs : List A) → f z ≡ true → length (filter f (z ∷ zs)) ≡ length (filter f zs) + 1
  passed z zs e = at_test (f z) e where
    at_test : (b : Bool) → b ≡ true → length (cond b (z ∷ filter f zs) (filter f zs)) ≡ length (filter f zs) + 1
    at_test true e = omega arith
    at_test false e = absurd (cc e)

  failed : (z : A) (zs : List A) → f z ≡ false → length (filter f (z ∷ zs)) ≡ length (filter f zs)
  failed z zs e = at_test (f z) e where
    at_test : (b : Bool) → b ≡ false → length (cond b (z ∷ filter f zs) (filter f zs)) ≡ length (filter f zs)
    at_test true e = absurd (cc e)
    at_test false e = refl

  no_less : (z : A) (zs : List A) → length (filter f zs) ≤ length (filter f (z ∷ zs))
  no_less z zs = elim (cases_Bool (f z)) [
    | inl y ↦ (let e = passed z zs y in omega (arith, e))
    | inr n ↦ (let e = failed z zs n in omega (arith, e))
  ]

  one_passes : (xs : List A) (x : A) → Has xs x → f x ≡ true → 1 ≤ length (filter f xs)
  one_passes xs x h e = some_long (filter f xs) x (has-filter f xs x h e)

  -- two places with what passes
  pub two_pass : (xs : List A) (i j : ℕ) (x y : A) → i < length xs → x ≡ get_or xs i x → j < length xs → y ≡ get_or xs j y → ¬ (j ≡ i) → f x ≡ true → f y ≡ true → 2 ≤ length (filter f xs)
  two_pass [] i j x y li ix lj jy apart fx fy = absurd (omega (arith, li))
  two_pass (z ∷ zs) zero zero x y li ix lj jy apart fx fy = absurd (apart refl)
  two_pass (z ∷ zs) zero (suc j) x y li ix lj jy apart fx fy =
      let e = passed z zs (ap f (sym ix) ∙ fx) in let one = one_passes zs y (has-at zs j y (omega (arith, lj)) jy) fy in omega (arith, e, one)
  two_pass (z ∷ zs) (suc i) zero x y li ix lj jy apart fx fy =
      let e = passed z zs (ap f (sym jy) ∙ fy) in let one = one_passes zs x (has-at zs i x (omega (arith, li)) ix) fx in omega (arith, e, one)
  two_pass (z ∷ zs) (suc i) (suc j) x y li ix lj jy apart fx fy =
      let more = two_pass zs i j x y (omega (arith, li)) ix (omega (arith, lj)) jy (λ e. apart (ap suc e)) fx fy in let le = no_less z zs in omega (arith, more, le)

  abbrev pub NoTwo : List A → Type 0
  NoTwo xs = (i j : ℕ) (x y : A) → i < length xs → x ≡ get_or xs i x → j < length xs → y ≡ get_or xs j y → ¬ (j ≡ i) → f x ≡ true → f y ≡ true → ⊥

  -- where there are no two such places at most one passes
  pub one_at_most : (xs : List A) → NoTwo xs → length (filter f xs) ≤ 1
  one_at_most [] none = omega arith
  one_at_most (z ∷ zs) none = elim (cases_Bool (f z)) [
    | inl y ↦ (let e = passed z zs y in let empty = ap length (none_pass f zs (false_from_ne_true (list_any f zs) (λ some. twice y (some_passes f zs some)))) in omega (arith, e, empty))
    | inr n ↦ (let e = failed z zs n in let rest = one_at_most zs later in omega (arith, e, rest))
  ] where
    twice : f z ≡ true → (x : A) × Has zs x × (f x ≡ true) → ⊥
    twice y k = let p = has_place zs k.0 k.1 in let lt = p.1 in none 0 (suc p.0) z k.0 (omega arith) refl (omega (arith, lt)) p.2 (λ e. omega (arith, e)) y k.2

    later : NoTwo zs
    later i j x y li ix lj jy apart fx fy = none (suc i) (suc j) x y (omega (arith, li)) ix (omega (arith, lj)) jy (λ e. apart (omega (arith, e))) fx fy

abbrev text_before : List ℕ → List ℕ → Bool
text_before a b = is_before (λ (t : List ℕ). t) a b

module _ {A : Type 0} (key : A → List ℕ) where
  abbrev pub of_key : List ℕ → A → Bool
  of_key k x = bytes_eq k (key x)

  -- of what differs in its keys at most one has a key
  pub one_of_key : (xs : List A) → AreDistinct (map key xs) → (k : List ℕ) → length (filter (of_key k) xs) ≤ 1
  one_of_key [] d k = omega arith
  one_of_key (z ∷ zs) d k = elim (cases_Bool (of_key k z)) [
    | inl y ↦ (let e = passed (of_key k) z zs y in let empty = ap length (none_pass (of_key k) zs (false_from_ne_true (list_any (of_key k) zs) (λ some. twice y (some_passes (of_key k) zs some)))) in omega (arith, e, empty))
    | inr n ↦ (let e = failed (of_key k) z zs n in let rest = one_of_key zs d.1 k in omega (arith, e, rest))
  ] where
    twice : of_key k z ≡ true → (x : A) × Has zs x × (of_key k x ≡ true) → ⊥
    twice y s = d.0 (subst (λ (t : List ℕ). Has (map key zs) t) (sym (same_text k (key s.0) s.2) ∙ same_text k (key z) y) (has-map key zs s.0 s.1))

  -- .. and the other way round
  pub apart_by_key : (xs : List A) → ((k : List ℕ) → length (filter (of_key k) xs) ≤ 1) → AreDistinct (map key xs)
  apart_by_key [] few = tt
  apart_by_key (z ∷ zs) few = (
    (λ has. let m = has-map_back key zs (key z) has in
        let e = passed (of_key (key z)) z zs (bytes_eq-same (key z)) in
        let one = one_passes (of_key (key z)) zs m.0 m.1 (ap (bytes_eq (key z)) m.2 ∙ bytes_eq-same (key z)) in
        let most = few (key z) in omega (arith, e, one, most)),
    apart_by_key zs (λ k. let le = no_less (of_key k) z zs in let most = few k in omega (arith, le, most)),
  )

  same_key : (a b : A) → is_before key a b ≡ false → is_before key b a ≡ false → key a ≡ key b
  same_key a b e h = same_text (key a) (key b) (sym (ties_same key a b) ∙ and_from (not (is_before key a b)) (not (is_before key b a)) (not_from_false (is_before key a b) e) (not_from_false (is_before key b a) h))

  module _ (xs : List A) (up : IsSortedBy (is_before key) xs) (i j : ℕ) (x y : A) (li : i < length xs) (ix : x ≡ get_or xs i x) (lj : j < length xs) (jy : y ≡ get_or xs j y) (same : key y ≡ key x) where
    far : (a b : ℕ) → a ≤ b → b < length xs → is_before key (get_or xs b x) (get_or xs a x) ≡ false
    far a b le lt = sorted_far (is_before key) (ranks_by nat_list_cmp_total key) xs up a b x le lt

    y_at : get_or xs j x ≡ y
    y_at = any_default xs j x y lj ∙ sym jy

    -- what stands behind with the same key has it in common with the next
    pub next_too : i < j → key (get_or xs (i + 1) x) ≡ key x
    next_too less = same_key (get_or xs (i + 1) x) x
        (subst (λ (z : A). is_before key (get_or xs (i + 1) x) z ≡ false) (sym ix) (far i (i + 1) (omega arith) (omega (arith, less, lj))))
        (subst (λ (t : List ℕ). text_before t (key (get_or xs (i + 1) x)) ≡ false) same (subst (λ (z : A). is_before key z (get_or xs (i + 1) x) ≡ false) y_at (far (i + 1) j (omega (arith, less)) lj)))

    -- .. and what stands before, with the last
    pub last_too : j < i → key (get_or xs (i - 1) x) ≡ key x
    last_too less = same_key (get_or xs (i - 1) x) x
        (subst (λ (t : List ℕ). text_before (key (get_or xs (i - 1) x)) t ≡ false) same (subst (λ (z : A). is_before key (get_or xs (i - 1) x) z ≡ false) y_at (far j (i - 1) (omega (arith, less)) (omega (arith, li, less)))))
        (subst (λ (z : A). is_before key z (get_or xs (i - 1) x) ≡ false) (sym ix) (far (i - 1) i (omega arith) li))

-- Membership told in two ways, and lists without repetition.
use Rattle.std.proofs.Common.{◌≡◌, ◌⊎◌, ◌<◌, ◌≤◌, ◌+◌, ◌^◌, ℕ, zero, suc, Bool, true, false, List, [], ◌∷◌, ◌++◌, Option, None, Some, inl, inr, refl, sym, ap, subst, ◌∙◌, arith, add-one, append_assoc, append-nil, drop, eqb, get_or, length, map, take}
use Rattle.std.specs.Prelude.{◌↔◌, MatchOption, filter}
use Rattle.std.specs.Cmp.Lexicographic.{slice_cmp}
use Rattle.std.specs.List.{AllByRecursion, AllPairs, IsDistinct}
use Rattle.std.specs.List.Sorted.{IsPermutation, IsSorted, IsStrictlySortedBy}
use Rattle.std.specs.Ordering.{is_eq, nat_cmp}
use Rattle.std.specs.declared.cmp.Ordering.TheVariants.{Less}
use Rattle.std.proofs.lemmas.Bool.{cases_eq, cond-false, cond-true, eq-eqb, ne_eqb}
use Rattle.std.proofs.lemmas.List.{drop_all, drop_more, take_all}
use Rattle.std.proofs.lemmas.List.Kept.{AllPairs-from_increasing}
use Rattle.std.proofs.lemmas.List.Sorted.{IsNonDecreasingBy-from_sort}
use Rattle.std.proofs.lemmas.Map.Keys.{IsDistinct-IsPermutation, IsStrictlyIncreasing-from_distinct}
use Rattle.std.proofs.lemmas.Map.Text.{is_eq-slice_cmp}
use Rattle.std.proofs.lemmas.Slice.Eq.{bytes_eq-Decides}
use Rattle.basics.specs.Members.{AreDistinct, Has}
use Rattle.basics.proofs.Membership.{has-append_cases, has-append_left, has-append_right, contains-from_has, has-filter_back, has-at}
use Rattle.basics.proofs.Each.{all_has}
use Rattle.merge_journal.specs.Names.{gate_path}
use Rattle.merge_journal.specs.Open.{IsRising}
use Rattle.recovery.proofs.Places.{gates_same}

-- ---- a loop over a list that makes another

pub mapped_more : {A : Type 0} (f : ℕ → A) (front : List A) (gs : List ℕ) (i : ℕ) (x : A) (total : List A) → i < length gs → x ≡ f (get_or gs i 0)
    → front ++ map f (drop i gs) ≡ total → (front ++ x ∷ []) ++ map f (drop (i + 1) gs) ≡ total
mapped_more {A = A} f front gs i x total lt is so_far =
    append_assoc front (x ∷ []) (map f (drop (i + 1) gs))
    ∙ (ap (λ (y : A). front ++ y ∷ map f (drop (i + 1) gs)) is
    ∙ (ap (λ (l : List ℕ). front ++ map f l) (sym (drop_more gs i 0 lt)) ∙ so_far))

pub mapped_end : {A : Type 0} (f : ℕ → A) (front : List A) (gs : List ℕ) (i : ℕ) (total : List A) → length gs ≤ i → front ++ map f (drop i gs) ≡ total → front ≡ total
mapped_end f front gs i total le so_far = sym (append-nil front) ∙ (ap (λ (l : List ℕ). front ++ map f l) (sym (drop_all i gs le)) ∙ so_far)

pub kept_more : (p : ℕ → Bool) (front gs : List ℕ) (i x : ℕ) (total : List ℕ) → i < length gs → x ≡ get_or gs i 0 → p x ≡ true
    → front ++ filter p (drop i gs) ≡ total → (front ++ x ∷ []) ++ filter p (drop (i + 1) gs) ≡ total
kept_more p front gs i x total lt is passes so_far =
    append_assoc front (x ∷ []) (filter p (drop (i + 1) gs))
    ∙ (ap (λ (l : List ℕ). front ++ l) (sym (cond-true (p x) (x ∷ filter p (drop (i + 1) gs)) (filter p (drop (i + 1) gs)) passes))
    ∙ (ap (λ (y : ℕ). front ++ filter p (y ∷ drop (i + 1) gs)) is
    ∙ (ap (λ (l : List ℕ). front ++ filter p l) (sym (drop_more gs i 0 lt)) ∙ so_far)))

pub kept_pass : (p : ℕ → Bool) (front gs : List ℕ) (i x : ℕ) (total : List ℕ) → i < length gs → x ≡ get_or gs i 0 → p x ≡ false
    → front ++ filter p (drop i gs) ≡ total → front ++ filter p (drop (i + 1) gs) ≡ total
kept_pass p front gs i x total lt is fails so_far =
    ap (λ (l : List ℕ). front ++ l) (sym (cond-false (p x) (x ∷ filter p (drop (i + 1) gs)) (filter p (drop (i + 1) gs)) fails))
    ∙ (ap (λ (y : ℕ). front ++ filter p (y ∷ drop (i + 1) gs)) is
    ∙ (ap (λ (l : List ℕ). front ++ filter p l) (sym (drop_more gs i 0 lt)) ∙ so_far))

pub kept_end : (p : ℕ → Bool) (front gs : List ℕ) (i : ℕ) (total : List ℕ) → length gs ≤ i → front ++ filter p (drop i gs) ≡ total → front ≡ total
kept_end p front gs i total le so_far = sym (append-nil front) ∙ (ap (λ (l : List ℕ). front ++ filter p l) (sym (drop_all i gs le)) ∙ so_far)

-- ---- an element by its place

-- ---- the front of a list, one element at a time

pub take_cases : {A : Type 0} (xs : List A) (i : ℕ) (p q : A) → i < length xs → p ≡ get_or xs i p → Has (take (suc i) xs) q → Has (take i xs) q ⊎ (p ≡ q)
take_cases [] i p q lt is has = absurd (omega arith)
take_cases (x ∷ xs) zero p q lt is (inl e) = inr (is ∙ e)
take_cases (x ∷ xs) zero p q lt is (inr none) = absurd none
take_cases (x ∷ xs) (suc i) p q lt is (inl e) = inl (inl e)
take_cases (x ∷ xs) (suc i) p q lt is (inr k) = elim (take_cases xs i p q (omega arith) is k) [ inl had ↦ inl (inr had) | inr e ↦ inr e ]

take_keeps : {A : Type 0} (xs : List A) (i : ℕ) (q : A) → Has (take i xs) q → Has (take (suc i) xs) q
take_keeps [] zero q has = absurd has
take_keeps [] (suc i) q has = absurd has
take_keeps (x ∷ xs) zero q has = absurd has
take_keeps (x ∷ xs) (suc i) q (inl e) = inl e
take_keeps (x ∷ xs) (suc i) q (inr k) = inr (take_keeps xs i q k)

take_here : {A : Type 0} (xs : List A) (i : ℕ) (p : A) → i < length xs → p ≡ get_or xs i p → Has (take (suc i) xs) p
take_here [] i p lt is = absurd (omega arith)
take_here (x ∷ xs) zero p lt is = inl (sym is)
take_here (x ∷ xs) (suc i) p lt is = inr (take_here xs i p (omega arith) is)

not_before : {A : Type 0} (xs : List A) (i : ℕ) (p : A) → AreDistinct xs → i < length xs → p ≡ get_or xs i p → Has (take i xs) p → ⊥
not_before [] i p d lt is has = absurd (omega arith)
not_before (x ∷ xs) zero p d lt is has = has
not_before {A = A} (x ∷ xs) (suc i) p d lt is (inl e) = d.0 (subst (λ (y : A). Has xs y) (sym e) (has-at xs i p (omega arith) is))
not_before (x ∷ xs) (suc i) p d lt is (inr k) = not_before xs i p d.1 (omega arith) is k

distinct_push : (gs : List ℕ) (g : ℕ) → AreDistinct gs → (Has gs g → ⊥) → AreDistinct (gs ++ g ∷ [])
distinct_push [] g d none = ((λ has. has), tt)
distinct_push (x ∷ gs) g d none = (
  λ has. elim (has-append_cases gs (g ∷ []) x has) [ inl k ↦ d.0 k | inr k ↦ elim k [ inl e ↦ none (inl (sym e)) | inr nothing ↦ nothing ] ],
  distinct_push gs g d.1 (λ has. none (inr has)),
)

-- the groups whose gate is among the first i paths
pub record AreGathered (paths : List (List ℕ)) (i : ℕ) (gs : List ℕ) : Type 0 where
  pub among : (h : ℕ) → Has gs h → (h < 2 ^ 32) × Has (take i paths) (gate_path h)
  pub all : (h : ℕ) → h < 2 ^ 32 → Has (take i paths) (gate_path h) → Has gs h
  pub once : AreDistinct gs

pub gathered_start : (paths : List (List ℕ)) → AreGathered paths 0 []
gathered_start paths = record { among = λ h has. absurd has; all = λ h small has. absurd (none paths h has); once = tt }
  where
    none : (ps : List (List ℕ)) (h : ℕ) → Has (take 0 ps) (gate_path h) → ⊥
    none [] h has = has
    none (p ∷ ps) h has = has

pub gathered_more : (paths : List (List ℕ)) (i g : ℕ) (p : List ℕ) (gs : List ℕ) → AreDistinct paths → i < length paths → p ≡ get_or paths i p → g < 2 ^ 32 → p ≡ gate_path g
    → AreGathered paths i gs → AreGathered paths (i + 1) (gs ++ g ∷ [])
gathered_more paths i g p gs d lt is small gate k = rw add-one (record {
  among = λ h has. elim (has-append_cases gs (g ∷ []) h has) [
    | inl had ↦ (let b = k.among h had in (b.0, take_keeps paths i (gate_path h) b.1))
    | inr last ↦ elim last [
      | inl e ↦ (subst (λ (n : ℕ). n < 2 ^ 32) e small, subst (λ (q : List ℕ). Has (take (suc i) paths) q) (gate ∙ ap gate_path e) (take_here paths i p lt is))
      | inr none ↦ absurd none
    ]
  ];
  all = λ h hs has. elim (take_cases paths i p (gate_path h) lt is has) [
    | inl had ↦ has-append_left gs (g ∷ []) h (k.all h hs had)
    | inr e ↦ has-append_right gs (g ∷ []) h (inl (gates_same g h small hs (sym gate ∙ e)))
  ];
  once = distinct_push gs g k.once (λ had. not_before paths i p d lt is (subst (λ (q : List ℕ). Has (take i paths) q) (sym gate) (k.among g had).1));
})

pub gathered_pass : (paths : List (List ℕ)) (i : ℕ) (p : List ℕ) (gs : List ℕ) → i < length paths → p ≡ get_or paths i p → ((h : ℕ) → h < 2 ^ 32 → p ≡ gate_path h → ⊥)
    → AreGathered paths i gs → AreGathered paths (i + 1) gs
gathered_pass paths i p gs lt is none k = rw add-one (record {
  among = λ h had. let b = k.among h had in (b.0, take_keeps paths i (gate_path h) b.1);
  all = λ h hs has. elim (take_cases paths i p (gate_path h) lt is has) [ inl had ↦ k.all h hs had | inr e ↦ absurd (none h hs e) ];
  once = k.once;
})

pub gathered_end : (paths : List (List ℕ)) (i : ℕ) (gs : List ℕ) → length paths ≤ i → AreGathered paths i gs → (h : ℕ) → Has gs h ↔ ((h < 2 ^ 32) × Has paths (gate_path h))
gathered_end paths i gs le k h = (
  λ has. let b = k.among h has in (b.0, subst (λ (l : List (List ℕ)). Has l (gate_path h)) (take_all i paths le) b.1),
  λ b. k.all h b.0 (subst (λ (l : List (List ℕ)). Has l (gate_path h)) (sym (take_all i paths le)) b.1),
)

-- ---- a sorted list has no element twice

pub distinct_if_sorted : (ps : List (List ℕ)) → IsStrictlySortedBy (slice_cmp nat_cmp) ps → AreDistinct ps
unfolding IsStrictlySortedBy
distinct_if_sorted [] h = tt
distinct_if_sorted (p ∷ ps) h = (
  λ has.
      let less : slice_cmp nat_cmp p p ≡ Less = all_has (λ (q : List ℕ). slice_cmp nat_cmp p q ≡ Less) ps p h.0 has in
      absurd (cc (ap is_eq less, is_eq-slice_cmp p p, (bytes_eq-Decides p p).1 refl)),
  distinct_if_sorted ps h.1,
)

-- ---- numbers that are sorted, and all differ, rise

differ : (gs : List ℕ) → AreDistinct gs → IsDistinct eqb gs
unfolding IsDistinct
differ [] d = tt
differ (g ∷ gs) d = (others gs d.0, differ gs d.1)
  where
    others : (hs : List ℕ) → (Has hs g → ⊥) → AllByRecursion (λ h. eqb g h ≡ false) hs
    others [] none = tt
    others (h ∷ hs) none = (ne_eqb g h (λ e. none (inl (sym e))), others hs (λ has. none (inr has)))

flips : (g h : ℕ) → eqb g h ≡ eqb h g
flips g h = elim (cases_eq g h) [
  | inl e ↦ eq-eqb g h e ∙ sym (eq-eqb h g (sym e))
  | inr ne ↦ ne_eqb g h ne ∙ sym (ne_eqb h g (λ e. ne (sym e)))
]

rising_if_pairs : (gs : List ℕ) → AllPairs (λ g h. g < h) gs → IsRising gs
rising_if_pairs [] pairs = tt
rising_if_pairs (g ∷ gs) pairs = (
  λ h has. let c = contains-from_has gs h has in subst (λ (n : ℕ). g < n) c.2 (pairs 0 (suc c.0) h (omega arith) (omega (arith, c.1))),
  rising_if_pairs gs (λ i j d lt in_it. pairs (suc i) (suc j) d (omega (arith, lt)) (omega (arith, in_it))),
)

pub rising_if_sorted : (gs hs : List ℕ) → AreDistinct gs → IsPermutation gs hs → IsSorted nat_cmp hs → IsRising hs
rising_if_sorted gs hs d moved sorted =
    rising_if_pairs hs (AllPairs-from_increasing hs (IsStrictlyIncreasing-from_distinct hs (IsNonDecreasingBy-from_sort (λ x. x) hs sorted) (IsDistinct-IsPermutation eqb flips gs hs moved (differ gs d))))

-- some of a rising list
pub rising_filter : (p : ℕ → Bool) (gs : List ℕ) → IsRising gs → IsRising (filter p gs)
rising_filter p [] rise = tt
rising_filter p (g ∷ gs) rise = go (p g) refl (rising_filter p gs rise.1)
  where
    go : (b : Bool) → p g ≡ b → IsRising (filter p gs) → IsRising (filter p (g ∷ gs))
    go true e rest = subst IsRising (sym (cond-true (p g) (g ∷ filter p gs) (filter p gs) e)) ((λ h has. rise.0 h (has-filter_back p gs h has).0), rest)
    go false e rest = subst IsRising (sym (cond-false (p g) (g ∷ filter p gs) (filter p gs) e)) rest

-- what is known where nothing was found
pub not_found : (found : Option ℕ) (P : Type 0) (Q : ℕ → Type 0) → ((g : ℕ) → found ≡ Some g → ⊥) → MatchOption found P Q → P
not_found None P Q none h = h
not_found (Some g) P Q none h = absurd (none g refl)

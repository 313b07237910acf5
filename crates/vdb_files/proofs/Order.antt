-- Owned paths that are put in byte order.
use Rattle.std.proofs.Common.{◌≡◌, ◌∙◌, ◌+◌, ◌<◌, ◌≤◌, ℕ, zero, suc, arith, Bool, true, cond, false, is_lt, List, [], ◌∷◌, inl, inr, refl, ap, get_or, length, map, subst, sym}
use Rattle.std.specs.Borrow.{Bor}
use Rattle.std.specs.List.{AllByRecursion, filter}
use Rattle.std.specs.List.Sorted.{IsPermutation, IsSortedBy, IsSortedByKey, IsStableBy, IsStableByKey, IsStrictlySortedBy, ties}
use Rattle.std.specs.Ordering.{is_eq, ordering_reverse}
use Rattle.std.specs.declared.cmp.Ordering.{Ordering}
use Rattle.std.specs.declared.cmp.Ordering.TheVariants.{Equal, Greater, Less}
use Rattle.std.proofs.lemmas.Cmp.{nat_list_cmp_total, on_total}
use Rattle.std.proofs.lemmas.List.{length-map}
use Rattle.std.proofs.lemmas.List.Sorted.{IsPermutation-map, IsPermutation-sym, ranks_by, sorted_far}
use Rattle.std.proofs.lemmas.Map.Text.{is_eq-slice_cmp}
use Rattle.std.proofs.lemmas.Slice.Eq.{bytes_eq-Decides}
use Rattle.basics.specs.Members.{AreDistinct, Has}
use Rattle.basics.proofs.Texts.{not_less}
use Rattle.basics.proofs.Permutations.{distinct-moved, has-moved}
use Rattle.basics.proofs.Sorted.{same_sorted, sorted-by_keys}
use Rattle.pms_names.specs.Flags.{IsRising, byte_order}
use Rattle.vdb_contents.specs.Contents.{path_of}
use Rattle.vdb_contents.specs.declared.owned.Owned.{Owned}
use Rattle.vdb_files.specs.Written.{AreInOrder}

-- ---- sorted by reference

abbrev pub owned_at : Bor Owned → Owned
owned_at o = o.now

abbrev pub is_below : Bor Owned → Bor Owned → Bool
is_below a b = is_lt (byte_order (path_of (owned_at a)) (path_of (owned_at b)))

read_through : (xs : List (Bor Owned)) (k : ℕ) (d : Owned) (x : Bor Owned) → k < length xs → get_or (map owned_at xs) k d ≡ owned_at (get_or xs k x)
read_through [] k d x lt = absurd (omega (arith, lt))
read_through (y ∷ ys) zero d x lt = refl
read_through (y ∷ ys) (suc k) d x lt = read_through ys k d x (omega (arith, lt))

-- paths whose references ascend
pub rising_through : (xs : List (Bor Owned)) → IsSortedBy is_below xs → IsSortedByKey path_of byte_order (map owned_at xs)
rising_through [] sorted k d low lt = absurd (omega (arith, lt))
rising_through (x ∷ xs) sorted k d low lt =
    let within : k + 1 < length (x ∷ xs) = omega (arith, lt, length-map xs owned_at) in
    let here = read_through (x ∷ xs) k d x (omega (arith, within)) in
    let next = read_through (x ∷ xs) (k + 1) d x within in
    subst (λ (o : Owned). is_lt (byte_order (path_of o) (path_of (get_or (map owned_at (x ∷ xs)) k d))) ≡ false) (sym next)
    (subst (λ (o : Owned). is_lt (byte_order (path_of (owned_at (get_or (x ∷ xs) (k + 1) x))) (path_of o)) ≡ false) (sym here) (sorted k x low within))

kept_if : (t : Bool) (b : Bor Owned) (os : List Owned) (bs : List (Bor Owned)) → os ≡ map owned_at bs → cond t (owned_at b ∷ os) os ≡ map owned_at (cond t (b ∷ bs) bs)
kept_if true b os bs e = ap (λ (l : List Owned). owned_at b ∷ l) e
kept_if false b os bs e = e

filter_through : (p : Owned → Bool) (xs : List (Bor Owned)) → filter p (map owned_at xs) ≡ map owned_at (filter (λ b. p (owned_at b)) xs)
filter_through p [] = refl
filter_through p (b ∷ bs) = kept_if (p (owned_at b)) b (filter p (map owned_at bs)) (filter (λ c. p (owned_at c)) bs) (filter_through p bs)

stable_by : (xs ys : List (Bor Owned)) (d : Bor Owned) → IsStableBy is_below xs ys → IsStableByKey path_of byte_order (map owned_at xs) (map owned_at ys)
stable_by xs ys d stable o =
    let p : Owned → Bool = ties (λ a b. is_lt (byte_order (path_of a) (path_of b))) o in
    filter_through p ys ∙ ap (map owned_at) (stable (record d { now = o })) ∙ sym (filter_through p xs)

-- paths whose references keep their order where they tie
pub stable_through : (xs ys : List (Bor Owned)) → IsStableBy is_below xs ys → IsStableByKey path_of byte_order (map owned_at xs) (map owned_at ys)
stable_through [] [] stable o = refl
stable_through [] (y ∷ ys) stable o = stable_by [] (y ∷ ys) y stable o
stable_through (x ∷ xs) ys stable o = stable_by (x ∷ xs) ys x stable o

-- ---- the same members

pub distinct_moved : (xs ys : List Owned) → IsPermutation xs ys → AreDistinct (map path_of xs) → AreDistinct (map path_of ys)
distinct_moved xs ys perm d =
    distinct-moved (map path_of xs) (map path_of ys) (IsPermutation-map path_of xs ys perm) d

-- ---- distinct paths that ascend rise

-- no path is below an earlier one
abbrev Ascends : List Owned → Type 0
Ascends xs = (i j : ℕ) (d : Owned) → i ≤ j → j < length xs → is_lt (byte_order (path_of (get_or xs j d)) (path_of (get_or xs i d))) ≡ false

strictly : (p q : List ℕ) → is_lt (byte_order q p) ≡ false → (p ≡ q → ⊥) → byte_order p q ≡ Less
strictly p q above apart = go (byte_order p q) refl
  where
    go : (o : Ordering) → byte_order p q ≡ o → byte_order p q ≡ Less
    go Less e = e
    go Equal e = absurd (apart ((bytes_eq-Decides p q).0 (sym (is_eq-slice_cmp p q) ∙ ap is_eq e)))
    go Greater e =
        let back : byte_order q p ≡ Less = nat_list_cmp_total.antisymm q p ∙ ap ordering_reverse e in
        absurd (cc (ap is_lt back, above))

first_least : (x : Owned) (xs : List Owned) → ((k : ℕ) (d : Owned) → k < length xs → is_lt (byte_order (path_of (get_or xs k d)) (path_of x)) ≡ false) → (Has (map path_of xs) (path_of x) → ⊥)
    → AllByRecursion (λ z. byte_order (path_of x) z ≡ Less) (map path_of xs)
first_least x [] above none = tt
first_least x (o ∷ os) above none = (
  strictly (path_of x) (path_of o) (above 0 o (omega arith)) (λ e. none (inl (sym e))),
  first_least x os (λ k d lt. above (suc k) d (omega (arith, lt))) (λ has. none (inr has)),
)

rising_if : (xs : List Owned) → Ascends xs → AreDistinct (map path_of xs) → IsRising (map path_of xs)
unfolding IsStrictlySortedBy
rising_if [] up d = tt
rising_if (x ∷ xs) up d = (
  first_least x xs (λ k e lt. up 0 (suc k) e (omega arith) (omega (arith, lt))) d.0,
  rising_if xs (λ i j e le lt. up (suc i) (suc j) e (omega (arith, le)) (omega (arith, lt))) d.1,
)

-- ---- one order

-- two rising lists with the same members are one
one_order : (xs ys : List Owned) → IsRising (map path_of xs) → IsRising (map path_of ys) → ((o : Owned) → Has xs o → Has ys o) → ((o : Owned) → Has ys o → Has xs o) → xs ≡ ys
one_order xs ys a b h k = same_sorted (on_total path_of nat_list_cmp_total) xs ys (sorted-by_keys path_of byte_order xs a) (sorted-by_keys path_of byte_order ys b) h k

distinct_rising : (xs : List (List ℕ)) → IsRising xs → AreDistinct xs
unfolding IsStrictlySortedBy
distinct_rising [] up = tt
distinct_rising (x ∷ xs) up = (least x xs up.0, distinct_rising xs up.1)
  where
    least : (x : List ℕ) (xs : List (List ℕ)) → AllByRecursion (λ z. byte_order x z ≡ Less) xs → Has xs x → ⊥
    least x [] all has = absurd has
    least x (y ∷ ys) all (inl e) = not_less x y (sym e) all.0
    least x (y ∷ ys) all (inr has) = least x ys all.1 has

pub rising_distinct : (owned : List Owned) → IsRising (map path_of owned) → AreDistinct (map path_of owned)
rising_distinct owned up = distinct_rising (map path_of owned) up

-- paths that rise are in order as they stand
pub already_sorted : (owned sorted : List Owned) → IsRising (map path_of owned) → AreInOrder owned sorted → sorted ≡ owned
already_sorted owned sorted up order =
    let far : Ascends sorted = sorted_far (λ a b. is_lt (byte_order (path_of a) (path_of b))) (ranks_by nat_list_cmp_total path_of) sorted order.rising in
    one_order sorted owned (rising_if sorted far (distinct_moved owned sorted order.all (rising_distinct owned up))) up
    (λ o has. has-moved sorted owned o (IsPermutation-sym owned sorted order.all) has)
    (λ o has. has-moved owned sorted o order.all has)

-- Paths under numbers: what stands under one, and which of it the index gives to a package.
use Rattle.std.proofs.Common.{◌≡◌, ◌<◌, ◌+◌, ◌==◌, ◌&&◌, ◌||◌, ◌∙◌, ℕ, Bool, true, false, not, cond, List, [], ◌∷◌, map, ◌++◌, append_assoc, append-nil, Option, Some, None, arith, refl, sym, ap, subst}
use Rattle.std.specs.Prelude.{bytes_eq, is_some}
use Rattle.std.specs.BTreeMap.{is_at}
use Rattle.std.specs.BTreeMap.Range.{range_contains}
use Rattle.std.specs.BTreeSet.{keys_between}
use Rattle.std.specs.Cmp.{both_tied, ranks}
use Rattle.std.specs.Cmp.Lexicographic.{nat_list_eq_equiv, slice_cmp}
use Rattle.std.specs.List.{AllByRecursion, filter, list_any}
use Rattle.std.specs.List.Sorted.{IsStrictlySortedBy}
use Rattle.std.specs.Map.{keys_of}
use Rattle.std.specs.Ordering.{MatchOrdering, is_eq, is_gt, is_le, nat_cmp, ordering_then}
use Rattle.std.specs.declared.cmp.Ordering.{Ordering}
use Rattle.std.specs.declared.cmp.Ordering.TheVariants.{Less, Equal, Greater}
use Rattle.std.specs.declared.ops.Bound.TheVariants.{Excluded, Included}
use Rattle.std.proofs.lemmas.Bool.{eq-eqb, false≢true, ne_eqb}
use Rattle.std.proofs.lemmas.Cmp.{nat_list_cmp_total}
use Rattle.std.proofs.lemmas.List.Kept.{IsStrictlySortedBy-filter}
use Rattle.std.proofs.lemmas.Map.Entries.{lookup-filter-values, option_filter}
use Rattle.std.proofs.lemmas.Map.Lookups.{btree_set_from_contains, exact_bytes}
use Rattle.std.proofs.lemmas.Map.Made.{is_some-lookup}
use Rattle.std.proofs.lemmas.Map.Text.{is_eq-slice_cmp}
use Rattle.std.proofs.lemmas.Map.Views.{any-filter_same, exact_unsigned_eq}
use Rattle.std.proofs.lemmas.Slice.Eq.{bytes_eq-Decides}
use Rattle.merge_record.specs.declared.record.OwnerKey.{OwnerKey}
use Rattle.file_tree.specs.PathSets.{is_in}
use Rattle.owner_book.specs.declared.index.Slot.{Slot}
use Rattle.owner_book.specs.declared.named.Named.{Named}
use Rattle.owner_book.specs.Book.{is_owner, paths_of}
use Rattle.owner_book.specs.Marks.{owner_of}
use Rattle.owner_book.specs.Named.{is_named, key_cmp, named_under, owned_among}
use Rattle.owner_book.specs.Slots.{IndexValue, IsIndex, slot_at}
use Rattle.owner_book.specs.Whole.{owned_in, with_owner}
use Rattle.owner_book.proofs.Books.{eq_groups}
use Rattle.owner_book.proofs.Counts.{distinct_paths}

-- ---- the order of the keys

key_same : (n m : ℕ) (q p : List ℕ) → is_eq (key_cmp (n, q) (m, p)) ≡ ((n == m) && bytes_eq q p)
key_same n m q p = sym (both_tied (n == m) (bytes_eq q p) (nat_cmp n m) (slice_cmp nat_cmp q p) (sym (eq_groups n m)) (sym (is_eq-slice_cmp q p)))

-- a range from a number on begins with what stands under it
starts : (a m : ℕ) (q : List ℕ) → is_le (key_cmp (a, []) (m, q)) ≡ is_le (nat_cmp a m)
starts a m q = by (nat_cmp a m) (slice_cmp nat_cmp [] q) (least q)
  where
    least : (p : List ℕ) → is_le (slice_cmp nat_cmp [] p) ≡ true
    least [] = refl
    least (x ∷ xs) = refl

    by : (o p : Ordering) → is_le p ≡ true → is_le (ordering_then o p) ≡ is_le o
    by Less p h = refl
    by Equal p h = h
    by Greater p h = refl

-- and one to the next number ends with it
band : (n m : ℕ) → (is_le (nat_cmp n m) && not (is_le (nat_cmp (n + 1) m))) ≡ (n == m)
band n m = by (nat_cmp n m) (ranks n m) (nat_cmp (n + 1) m) (ranks (n + 1) m)
  where
    by : (o : Ordering) → MatchOrdering o (n < m) (n ≡ m) (m < n) → (p : Ordering) → MatchOrdering p (n + 1 < m) (n + 1 ≡ m) (m < n + 1) → (is_le o && not (is_le p)) ≡ (n == m)
    by Less a Less b = sym (ne_eqb n m (λ e. omega (arith, e, a)))
    by Less a Equal b = sym (ne_eqb n m (λ e. omega (arith, e, a)))
    by Less a Greater b = absurd (omega (arith, a, b))
    by Equal a Less b = absurd (omega (arith, a, b))
    by Equal a Equal b = absurd (omega (arith, a, b))
    by Equal a Greater b = sym (eq-eqb n m a)
    by Greater a p b = sym (ne_eqb n m (λ e. omega (arith, e, a)))

forward : (n : ℕ) → is_gt (key_cmp (n, []) (n + 1, [])) ≡ false
forward n = by (nat_cmp n (n + 1)) (ranks n (n + 1))
  where
    by : (o : Ordering) → MatchOrdering o (n < n + 1) (n ≡ n + 1) (n + 1 < n) → is_gt (ordering_then o Equal) ≡ false
    by Less a = refl
    by Equal a = refl
    by Greater a = absurd (omega (arith, a))

-- ---- what stands under a number

abbrev Keys : Type 0
Keys = List (ℕ × List ℕ)

abbrev is_under : ℕ → ℕ × List ℕ → Bool
is_under n e = n == e.0

abbrev pub text_of : ℕ × List ℕ → List ℕ
text_of e = e.1

abbrev under : ℕ → Keys → List (List ℕ)
under n ks = map text_of (filter (is_under n) ks)

abbrev is_between : ℕ → ℕ × List ℕ → Bool
is_between n e = range_contains key_cmp (Included (n, [])) (Excluded (n + 1, [])) e

between : (n : ℕ) (e : ℕ × List ℕ) → is_between n e ≡ is_under n e
between n e =
    ap (λ (b : Bool). b && not (is_le (key_cmp (n + 1, []) e))) (starts n e.0 e.1)
    ∙ (ap (λ (b : Bool). is_le (nat_cmp n e.0) && not b) (starts (n + 1) e.0 e.1) ∙ band n e.0)

under_is : (d : Named) (n : ℕ) → named_under d n ≡ under n d.keys.keys
under_is d n = ap (λ (f : ℕ × List ℕ → Bool). map text_of (filter f d.keys.keys)) (λ i e. between n e i)

-- its paths rise
behind : (n : ℕ) (e : ℕ × List ℕ) (ks : Keys) → n ≡ e.0 → AllByRecursion (λ k. key_cmp e k ≡ Less) ks → AllByRecursion (λ p. slice_cmp nat_cmp e.1 p ≡ Less) (under n ks)
behind n e [] is h = tt
behind n e (k ∷ ks) is h = by (behind n e ks is h.1) (n == k.0) refl
  where
    less : (o p : Ordering) → is_eq o ≡ true → ordering_then o p ≡ Less → p ≡ Less
    less Less p t l = absurd (false≢true t)
    less Equal p t l = l
    less Greater p t l = absurd (false≢true t)

    by : AllByRecursion (λ p. slice_cmp nat_cmp e.1 p ≡ Less) (under n ks) → (b : Bool) → (n == k.0) ≡ b → AllByRecursion (λ p. slice_cmp nat_cmp e.1 p ≡ Less) (map text_of (cond b (k ∷ filter (is_under n) ks) (filter (is_under n) ks)))
    by rest true y = (less (nat_cmp e.0 k.0) (slice_cmp nat_cmp e.1 k.1) (eq_groups e.0 k.0 ∙ (ap (λ (m : ℕ). m == k.0) (sym is) ∙ y)) h.0, rest)
    by rest false z = rest

rises : (n : ℕ) (ks : Keys) → IsStrictlySortedBy key_cmp ks → IsStrictlySortedBy (slice_cmp nat_cmp) (under n ks)
unfolding IsStrictlySortedBy
rises n [] h = tt
rises n (e ∷ ks) h = by (rises n ks h.1) (n == e.0) refl
  where
    by : IsStrictlySortedBy (slice_cmp nat_cmp) (under n ks) → (b : Bool) → (n == e.0) ≡ b → IsStrictlySortedBy (slice_cmp nat_cmp) (map text_of (cond b (e ∷ filter (is_under n) ks) (filter (is_under n) ks)))
    by rest true y = (behind n e ks (exact_unsigned_eq n e.0 y) h.0, rest)
    by rest false z = rest

-- a path is among them where its key is in the set
stands : (n : ℕ) (q : List ℕ) (ks : Keys) → is_in (under n ks) q ≡ list_any (is_at (key_cmp (n, q))) ks
stands n q [] = refl
stands n q (e ∷ ks) = by (stands n q ks) (n == e.0) refl
  where
    by : is_in (under n ks) q ≡ list_any (is_at (key_cmp (n, q))) ks → (b : Bool) → (n == e.0) ≡ b
        → is_in (map text_of (cond b (e ∷ filter (is_under n) ks) (filter (is_under n) ks))) q ≡ (is_eq (key_cmp (n, q) e) || list_any (is_at (key_cmp (n, q))) ks)
    by rest true y =
        ap (λ (b : Bool). bytes_eq q e.1 || b) rest
        ∙ ap (λ (b : Bool). b || list_any (is_at (key_cmp (n, q))) ks) (sym (key_same n e.0 q e.1 ∙ ap (λ (b : Bool). b && bytes_eq q e.1) y))
    by rest false z = rest ∙ ap (λ (b : Bool). b || list_any (is_at (key_cmp (n, q))) ks) (sym (key_same n e.0 q e.1 ∙ ap (λ (b : Bool). b && bytes_eq q e.1) z))

-- ---- the paths of a package by the index

module _ {X : Type 0} (p : (List ℕ × X) → Bool) where
  all_keys : (P : List ℕ → Type 0) (es : List (List ℕ × X)) → AllByRecursion P (keys_of es) → AllByRecursion P (keys_of (filter p es))
  all_keys P [] h = tt
  all_keys P (e ∷ es) h = by (all_keys P es h.1) (p e)
    where
      by : AllByRecursion P (keys_of (filter p es)) → (b : Bool) → AllByRecursion P (keys_of (cond b (e ∷ filter p es) (filter p es)))
      by rest true = (h.0, rest)
      by rest false = rest

  keys_rise : (es : List (List ℕ × X)) → IsStrictlySortedBy (slice_cmp nat_cmp) (keys_of es) → IsStrictlySortedBy (slice_cmp nat_cmp) (keys_of (filter p es))
  unfolding IsStrictlySortedBy
  keys_rise [] h = tt
  keys_rise (e ∷ es) h = by (keys_rise es h.1) (p e)
    where
      by : IsStrictlySortedBy (slice_cmp nat_cmp) (keys_of (filter p es)) → (b : Bool) → IsStrictlySortedBy (slice_cmp nat_cmp) (keys_of (cond b (e ∷ filter p es) (filter p es)))
      by rest true = (all_keys (λ q. slice_cmp nat_cmp e.0 q ≡ Less) es h.0, rest)
      by rest false = rest

module _ (k : OwnerKey) where
  abbrev has_owner : Slot → Bool
  has_owner s = is_owner k s.owner

  abbrev slots_of : IndexValue → IndexValue
  slots_of es = filter (λ e. has_owner e.1) es

  by_index : (es : IndexValue) → paths_of (owned_in es) k ≡ keys_of (slots_of es)
  by_index [] = refl
  by_index (e ∷ es) = by (by_index es) e.1.owner
    where
      found : paths_of (owned_in es) k ≡ keys_of (slots_of es) → (b : Bool) (o : OwnerKey) → keys_of (cond b ((e.0, o) ∷ filter (λ x. is_owner k (Some x.1)) (owned_in es)) (filter (λ x. is_owner k (Some x.1)) (owned_in es))) ≡ keys_of (cond b (e ∷ slots_of es) (slots_of es))
      found rest true o = ap (λ (l : List (List ℕ)). e.0 ∷ l) rest
      found rest false o = rest

      by : paths_of (owned_in es) k ≡ keys_of (slots_of es) → (o : Option OwnerKey) → paths_of (with_owner e.0 o (owned_in es)) k ≡ keys_of (cond (is_owner k o) (e ∷ slots_of es) (slots_of es))
      by rest None = rest
      by rest (Some o) = found rest (is_owner k (Some o)) o

  slots_have : (es : IndexValue) → IsIndex es → (q : List ℕ) → is_in (keys_of (slots_of es)) q ≡ is_owner k (owner_of (slot_at es q))
  slots_have es index q =
      sym (is_some-lookup (bytes_eq q) (slots_of es))
      ∙ (ap is_some (lookup-filter-values nat_list_eq_equiv has_owner q es (distinct_paths es index)) ∙ by (slot_at es q))
    where
      found : (b : Bool) (s : Slot) → is_some (cond b (Some s) None) ≡ b
      found true s = refl
      found false s = refl

      by : (s : Option Slot) → is_some (option_filter has_owner s) ≡ is_owner k (owner_of s)
      by None = refl
      by (Some s) = found (has_owner s) s

-- no key yet
pub owned_init : (es : IndexValue) (k : OwnerKey) (d : Named) (n : ℕ) (paths : List (List ℕ)) (start end : ℕ × List ℕ) (range left : Keys) → n ≡ k.number → paths ≡ []
    → start ≡ (n, []) → end ≡ (n + 1, []) → range ≡ keys_between key_cmp (Included start) (Excluded end) d.keys → left ≡ range
    → paths ++ owned_among es k (map text_of left) ≡ owned_among es k (named_under d k.number)
owned_init es k d n paths start end range left number none s e is same =
    ap (λ (l : List (List ℕ)). l ++ owned_among es k (map text_of left)) none
    ∙ (ap (λ (l : Keys). owned_among es k (map text_of l)) (same ∙ (is
    ∙ (ap (λ (x : ℕ × List ℕ). keys_between key_cmp (Included x) (Excluded end) d.keys) s
    ∙ ap (λ (x : ℕ × List ℕ). keys_between key_cmp (Included (n, [])) (Excluded x) d.keys) e)))
    ∙ ap (λ (m : ℕ). owned_among es k (named_under d m)) number)

-- one key more
pub owned_step : (es : IndexValue) (k : OwnerKey) (paths new : List (List ℕ)) (e : ℕ × List ℕ) (before after : Keys) (all : List (List ℕ)) → before ≡ e ∷ after
    → new ≡ paths ++ owned_among es k (e.1 ∷ []) → paths ++ owned_among es k (map text_of before) ≡ all → new ++ owned_among es k (map text_of after) ≡ all
owned_step es k paths new e before after all steps is was =
    ap (λ (l : List (List ℕ)). l ++ owned_among es k (map text_of after)) is
    ∙ (append_assoc paths (owned_among es k (e.1 ∷ [])) (owned_among es k (map text_of after))
    ∙ (ap (λ (l : List (List ℕ)). paths ++ l) (joined (is_owner k (owner_of (slot_at es e.1))))
    ∙ (ap (λ (l : Keys). paths ++ owned_among es k (map text_of l)) (sym steps) ∙ was)))
  where
    joined : (b : Bool) → cond b (e.1 ∷ []) [] ++ owned_among es k (map text_of after) ≡ cond b (e.1 ∷ owned_among es k (map text_of after)) (owned_among es k (map text_of after))
    joined true = refl
    joined false = refl

pub owned_end : (es : IndexValue) (k : OwnerKey) (paths : List (List ℕ)) (left : Keys) (all : List (List ℕ)) → left ≡ [] → paths ++ owned_among es k (map text_of left) ≡ all → paths ≡ all
owned_end es k paths left all none was = sym (append-nil paths) ∙ (ap (λ (l : Keys). paths ++ owned_among es k (map text_of l)) (sym none) ∙ was)

pub owned_one : (es : IndexValue) (k : OwnerKey) (paths : List (List ℕ)) (q : List ℕ) → is_owner k (owner_of (slot_at es q)) ≡ true → paths ++ q ∷ [] ≡ paths ++ owned_among es k (q ∷ [])
owned_one es k paths q h = ap (λ (b : Bool). paths ++ cond b (q ∷ []) []) (sym h)

pub owned_none : (es : IndexValue) (k : OwnerKey) (paths : List (List ℕ)) (q : List ℕ) → is_owner k (owner_of (slot_at es q)) ≡ false → paths ≡ paths ++ owned_among es k (q ∷ [])
owned_none es k paths q h = sym (append-nil paths) ∙ ap (λ (b : Bool). paths ++ cond b (q ∷ []) []) (sym h)

-- a range under a number goes forward
pub under_forward : (n : ℕ) (start end : ℕ × List ℕ) → start ≡ (n, []) → end ≡ (n + 1, []) → is_gt (key_cmp start end) ≡ false
under_forward n start end s e = ap (λ (x : ℕ × List ℕ). is_gt (key_cmp x end)) s ∙ (ap (λ (x : ℕ × List ℕ). is_gt (key_cmp (n, []) x)) e ∙ forward n)

same_test : (q : List ℕ) → ◌≡◌ {A = List ℕ → Bool} (is_at (slice_cmp nat_cmp q)) (bytes_eq q)
same_test q i k = is_eq-slice_cmp q k i

-- rising lists with the same paths are one
one_list : (xs ys : List (List ℕ)) → IsStrictlySortedBy (slice_cmp nat_cmp) xs → IsStrictlySortedBy (slice_cmp nat_cmp) ys → ((q : List ℕ) → is_in xs q ≡ is_in ys q) → xs ≡ ys
one_list xs ys rx ry same =
    btree_set_from_contains nat_list_cmp_total (record { keys = xs }) (record { keys = ys }) rx ry
    (λ q. ap (λ (f : List ℕ → Bool). list_any f xs) (same_test q) ∙ (same q ∙ sym (ap (λ (f : List ℕ → Bool). list_any f ys) (same_test q)))) exact_bytes

module _ (es : IndexValue) (index : IsIndex es) (d : Named) (rising : IsStrictlySortedBy key_cmp d.keys.keys) (k : OwnerKey)
    (named : (q : List ℕ) → is_owner k (owner_of (slot_at es q)) ≡ true → is_named d k.number q ≡ true) where
  abbrev owns : List ℕ → Bool
  owns q = is_owner k (owner_of (slot_at es q))

  abbrev given : List (List ℕ)
  given = owned_among es k (named_under d k.number)

  given_rise : IsStrictlySortedBy (slice_cmp nat_cmp) given
  given_rise = IsStrictlySortedBy-filter (slice_cmp nat_cmp) owns (named_under d k.number) (subst (IsStrictlySortedBy (slice_cmp nat_cmp)) (sym (under_is d k.number)) (rises k.number d.keys.keys rising))

  pub given_have : (q : List ℕ) → is_in given q ≡ owns q
  given_have q =
      any-filter_same (λ p. bytes_eq q p) owns (owns q) (λ p e. ap owns (sym ((bytes_eq-Decides q p).0 e))) (named_under d k.number)
      ∙ (ap (λ (b : Bool). owns q && b) (ap (λ (l : List (List ℕ)). is_in l q) (under_is d k.number) ∙ stands k.number q d.keys.keys) ∙ both (owns q) refl)
    where
      both : (b : Bool) → owns q ≡ b → (b && is_named d k.number q) ≡ b
      both true h = named q h
      both false h = refl

  pub given_is : given ≡ paths_of (owned_in es) k
  given_is =
      one_list given (keys_of (slots_of k es)) given_rise (keys_rise (λ e. has_owner k e.1) es index.in_order) (λ q. given_have q ∙ sym (slots_have k es index q))
      ∙ sym (by_index k es)

-- Sets of flags, and packages with more of them on.
use Rattle.std.proofs.Common.{◌≡◌, ◌∙◌, ◌||◌, ℕ, Bool, true, false, List, [], ◌∷◌, Ordering, refl, ap, sym, subst}
use Rattle.std.specs.Prelude.{bytes_eq}
use Rattle.std.specs.BTreeSet.{insert_key}
use Rattle.std.specs.List.{AllByRecursion}
use Rattle.std.specs.List.Sorted.{IsStrictlySortedBy}
use Rattle.std.specs.Ordering.{match_ordering, ordering_reverse}
use Rattle.std.specs.declared.cmp.Ordering.TheVariants.{Less, Equal, Greater}
use Rattle.std.proofs.lemmas.Cmp.{nat_list_cmp_total}
use Rattle.std.proofs.lemmas.Map.Lookups.{exact_bytes}
use Rattle.pms_names.specs.Flags.{IsRising, byte_order, has}
use Rattle.pms_names.proofs.Sets.{one_set}
use Rattle.pkg_state.specs.Package.{Package}
use Rattle.law_commit.specs.Lit.{lit}

-- ---- one flag more

or_again : (a b : Bool) → (a || b) ≡ (a || (a || b))
or_again true b = refl
or_again false b = refl

or_past : (a b c : Bool) → (a || (b || c)) ≡ (b || (a || c))
or_past true true c = refl
or_past true false c = refl
or_past false b c = refl

has_put : (ks : List (List ℕ)) (k q : List ℕ) → has (insert_key byte_order ks k) q ≡ (bytes_eq q k || has ks q)
has_put [] k q = refl
has_put (x ∷ xs) k q = go (has_put xs k q) (byte_order k x) refl
  where
    go : has (insert_key byte_order xs k) q ≡ (bytes_eq q k || has xs q) → (o : Ordering) → byte_order k x ≡ o → has (match_ordering o (k ∷ x ∷ xs) (x ∷ xs) (x ∷ insert_key byte_order xs k)) q ≡ (bytes_eq q k || (bytes_eq q x || has xs q))
    go behind Less e = refl
    go behind Equal e = subst (λ (y : List ℕ). (bytes_eq q x || has xs q) ≡ (bytes_eq q y || (bytes_eq q x || has xs q))) (sym (exact_bytes k x e)) (or_again (bytes_eq q x) (has xs q))
    go behind Greater e = ap (λ (b : Bool). bytes_eq q x || b) behind ∙ or_past (bytes_eq q x) (bytes_eq q k) (has xs q)

all_put : (P : List ℕ → Type 0) (ks : List (List ℕ)) (k : List ℕ) → AllByRecursion P ks → P k → AllByRecursion P (insert_key byte_order ks k)
all_put P [] k all is = (is, tt)
all_put P (x ∷ xs) k all is = go (all_put P xs k all.1 is) (byte_order k x)
  where
    go : AllByRecursion P (insert_key byte_order xs k) → (o : Ordering) → AllByRecursion P (match_ordering o (k ∷ x ∷ xs) (x ∷ xs) (x ∷ insert_key byte_order xs k))
    go behind Less = (is, all)
    go behind Equal = all
    go behind Greater = (all.0, behind)

all_behind : (k x : List ℕ) (xs : List (List ℕ)) → byte_order k x ≡ Less → AllByRecursion (λ (z : List ℕ). byte_order x z ≡ Less) xs → AllByRecursion (λ (z : List ℕ). byte_order k z ≡ Less) xs
all_behind k x [] less all = tt
all_behind k x (z ∷ zs) less all = (nat_list_cmp_total.trans k x z less all.0, all_behind k x zs less all.1)

rising_put : (ks : List (List ℕ)) (k : List ℕ) → IsRising ks → IsRising (insert_key byte_order ks k)
unfolding IsStrictlySortedBy
rising_put [] k rising = (tt, tt)
rising_put (x ∷ xs) k rising = go (rising_put xs k rising.1) (byte_order k x) refl
  where
    go : IsRising (insert_key byte_order xs k) → (o : Ordering) → byte_order k x ≡ o → IsRising (match_ordering o (k ∷ x ∷ xs) (x ∷ xs) (x ∷ insert_key byte_order xs k))
    go behind Less e = ((e, all_behind k x xs e rising.0), rising)
    go behind Equal e = rising
    go behind Greater e = (all_put (λ (z : List ℕ). byte_order x z ≡ Less) xs k rising.0 (nat_list_cmp_total.antisymm x k ∙ ap ordering_reverse e), behind)

-- a set that has one flag more is the set with that flag at its place
pub set_put : (old new : List (List ℕ)) (k : List ℕ) → IsRising old → IsRising new → ((q : List ℕ) → has new q ≡ (bytes_eq q k || has old q)) → new ≡ insert_key byte_order old k
set_put old new k was is same = one_set new (insert_key byte_order old k) is (rising_put old k was) (λ q. same q ∙ sym (has_put old k q))

-- The set of flags that rise is their list.
use Rattle.std.proofs.Common.{◌≡◌, ◌∙◌, ◌||◌, ◌<◌, ◌+◌, ℕ, Bool, true, List, [], ◌∷◌, drop, get_or, length, refl, sym, ap}
use Rattle.std.specs.Prelude.{bytes_eq}
use Rattle.std.specs.List.{list_any}
use Rattle.std.specs.List.Sorted.{IsStrictlySortedBy}
use Rattle.std.specs.declared.cmp.Ordering.TheVariants.{Less}
use Rattle.std.proofs.Math.Bool.{or_comm}
use Rattle.std.proofs.lemmas.Bool.{and_parts}
use Rattle.std.proofs.lemmas.Cmp.{nat_list_cmp_total}
use Rattle.std.proofs.lemmas.Map.Lookups.{btree_set_from_contains, exact_bytes}
use Rattle.basics.proofs.Each.{all_by_has, all_has}
use Rattle.basics.proofs.Lists.{at_drop}
use Rattle.basics.proofs.Orderings.{less_of}
use Rattle.basics.proofs.Tests.{or-assoc, or-false}
use Rattle.pms_names.specs.Flags.{IsRising, byte_order, has}
use Rattle.pms_names.proofs.Sets.{same_test}
use Rattle.plan_text.specs.Words.{is_before, rise}

-- ---- flags each of which stands before the next one rise

rising_of : (flags : List (List ℕ)) → rise flags ≡ true → IsRising flags
unfolding IsStrictlySortedBy
rising_of [] up = tt
rising_of (x ∷ []) up = (tt, tt)
rising_of (x ∷ y ∷ ys) up =
    let parts = and_parts (is_before x y) (rise (y ∷ ys)) up in
    let less = less_of (byte_order x y) parts.0 in
    let rest = rising_of (y ∷ ys) parts.1 in
    ((less, all_by_has (λ z. byte_order x z ≡ Less) ys (λ z has. nat_list_cmp_total.trans x y z less (all_has (λ w. byte_order y w ≡ Less) ys z rest.0 has))), rest)

-- ---- flags that are put into a set one after another

-- the set has the flags of the list that are no more left
pub record IsGathered (flags left set : List (List ℕ)) : Type 0 where
  pub all : (q : List ℕ) → (has set q || has left q) ≡ has flags q
  pub rising : IsRising set

pub none_gathered : (flags : List (List ℕ)) → IsGathered flags flags []
unfolding IsStrictlySortedBy
none_gathered flags = record { all = λ q. refl; rising = tt }

pub one_gathered : (flags : List (List ℕ)) (i : ℕ) (flag : List ℕ) (old new : List (List ℕ)) → i < length flags → flag ≡ get_or flags i flag → IsGathered flags (drop i flags) old → ((q : List ℕ) → has new q ≡ (bytes_eq q flag || has old q)) → IsRising new → IsGathered flags (drop (i + 1) flags) new
one_gathered flags i flag old new lt is so_far puts rising = record {
  all = λ q.
      (ap (λ (b : Bool). b || has (drop (i + 1) flags) q) (puts q ∙ or_comm (bytes_eq q flag) (has old q))
      ∙ or-assoc (has old q) (bytes_eq q flag) (has (drop (i + 1) flags) q)
      ∙ ap (λ (l : List (List ℕ)). has old q || has l q) (sym (at_drop flags i flag lt is))
      ∙ so_far.all q);
  rising = rising;
}

-- the set with all flags of a list that rises is that list
pub all_gathered : (flags set : List (List ℕ)) → rise flags ≡ true → IsGathered flags [] set → set ≡ flags
all_gathered flags set up gathered =
    btree_set_from_contains nat_list_cmp_total (record { keys = set }) (record { keys = flags }) gathered.rising (rising_of flags up)
    (λ q. ap (λ (f : List ℕ → Bool). list_any f set) (same_test q) ∙ (sym (or-false (has set q)) ∙ gathered.all q ∙ sym (ap (λ (f : List ℕ → Bool). list_any f flags) (same_test q)))) exact_bytes

-- What is kept of flags that rise.
use Rattle.std.proofs.Common.{◌≡◌, ◌∙◌, ◌&&◌, ℕ, Bool, true, false, is_lt, List, [], ◌∷◌, filter, if◌then◌else◌, refl, ap}
use Rattle.std.specs.List.{AllByRecursion}
use Rattle.std.specs.List.Sorted.{IsStrictlySortedBy}
use Rattle.std.specs.declared.cmp.Ordering.TheVariants.{Less}
use Rattle.dep_group.specs.Tokens.{IsFlag}
use Rattle.pms_names.specs.Flags.{IsRising, byte_order, has}
use Rattle.pkg_state.specs.Package.{Package}
use Rattle.plan_text.specs.Words.{AreFlags, rise}
use Rattle.vdb_files.specs.Recorded.{IsFlagSet}
use Rattle.merge_groups.specs.Order.{enabled_of}

module _ {A : Type 0} (P : A → Type 0) where
  all_if : (b : Bool) (x : A) (xs : List A) → P x → AllByRecursion P xs → AllByRecursion P (if b then x ∷ xs else xs)
  all_if true x xs one all = (one, all)
  all_if false x xs one all = all

  all_kept : (t : A → Bool) (xs : List A) → AllByRecursion P xs → AllByRecursion P (filter t xs)
  all_kept t [] all = tt
  all_kept t (x ∷ xs) all = all_if (t x) x (filter t xs) all.0 (all_kept t xs all.1)

rising_if : (b : Bool) (x : List ℕ) (xs : List (List ℕ)) → AllByRecursion (λ k. byte_order x k ≡ Less) xs → IsRising xs → IsRising (if b then x ∷ xs else xs)
unfolding IsStrictlySortedBy
rising_if true x xs above up = (above, up)
rising_if false x xs above up = up

pub rising_kept : (t : List ℕ → Bool) (xs : List (List ℕ)) → IsRising xs → IsRising (filter t xs)
unfolding IsStrictlySortedBy
rising_kept t [] up = tt
rising_kept t (x ∷ xs) up = rising_if (t x) x (filter t xs) (all_kept (λ k. byte_order x k ≡ Less) t xs up.0) (rising_kept t xs up.1)

rise_of : (xs : List (List ℕ)) → IsRising xs → rise xs ≡ true
unfolding IsStrictlySortedBy
rise_of [] up = refl
rise_of (x ∷ []) up = refl
rise_of (x ∷ y ∷ ys) up = ap (λ o. is_lt o && rise (y ∷ ys)) up.0.0 ∙ rise_of (y ∷ ys) up.1

-- those that a package knows are flags that rise
pub kept_flags : (p : Package) → IsFlagSet p.facts.enabled → AreFlags (enabled_of p)
kept_flags p set = record {
  each = all_kept IsFlag (has p.facts.iuse) p.facts.enabled set.names;
  rise = rise_of (enabled_of p) (rising_kept (has p.facts.iuse) p.facts.enabled set.rising);
}

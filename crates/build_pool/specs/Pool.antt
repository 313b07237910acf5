-- A pool of builders: those at rest, and of each that is lent what it is known by and how often it
-- had failed.
use Rattle.std.specs.Prelude.{◌≡◌, ◌==◌, ◌⊎◌, ◌<◌, ◌≤◌, ◌+◌, ◌^◌, ℕ, List, Some, Contains, sum_by, remove, slice_get, slice_set, if◌then◌else◌}
use Rattle.build_pool.specs.declared.pools.Away.{Away}

pub record PoolValue (B : Type 0) : Type 0 where
  pub resting : List B
  pub lent : List Away

-- the sum of a number of each builder at rest and of one of each that is lent
abbrev pub added : {B : Type 0} → (B → ℕ) → (Away → ℕ) → PoolValue B → ℕ
added f g p = sum_by f p.resting + sum_by g p.lent

abbrev pub is_number : ℕ → ℕ → ℕ
is_number n m = if m == n then 1 else 0

-- how many builders of the pool, at rest or lent, are known by this number
abbrev pub id_times : {B : Type 0} → (B → ℕ) → ℕ → PoolValue B → ℕ
id_times number n p = added (λ b. is_number n (number b)) (λ a. is_number n a.number) p

abbrev pub SameIds : {B : Type 0} → (B → ℕ) → PoolValue B → PoolValue B → Type 0
SameIds number old new = (n : ℕ) → id_times number n new ≡ id_times number n old

-- no two builders are known by one number
abbrev pub AreOnce : {B : Type 0} → (B → ℕ) → List B → Type 0
AreOnce number bs = (n : ℕ) → sum_by (λ b. is_number n (number b)) bs ≤ 1

-- no two builders of the pool, at rest or lent, are known by one number
abbrev pub HasEachOnce : {B : Type 0} → (B → ℕ) → PoolValue B → Type 0
HasEachOnce number p = (n : ℕ) → id_times number n p ≤ 1

-- how often the builders failed; a lent one counts with what it had when it was lent, and one that
-- was dropped with what it had then
abbrev pub faults_of : {B : Type 0} → (B → ℕ) → PoolValue B → ℕ
faults_of faults p = added faults (λ a. a.faults) p

-- the count of some builder stands at the end of its type
abbrev pub IsFull : {B : Type 0} → (B → ℕ) → PoolValue B → Type 0
IsFull {B} faults p = ((b : B) × Contains p.resting b × (2 ^ 64 ≤ faults b + 1)) ⊎
    ((a : Away) × Contains p.lent a × (2 ^ 64 ≤ a.faults + 1))

-- the builders failed more often, so far as can be counted
abbrev pub PoolRose : {B : Type 0} → (B → ℕ) → PoolValue B → PoolValue B → Type 0
PoolRose faults old new = (faults_of faults old < faults_of faults new) ⊎ IsFull faults new

-- the entry at this place has this number, and none behind it has
pub record IsLastOf (number : ℕ) (lent : List Away) (i : ℕ) (a : Away) : Type 0 where
  pub here : slice_get lent i ≡ Some a
  pub known : a.number ≡ number
  pub last : (j : ℕ) (d : Away) → i < j → slice_get lent j ≡ Some d → ¬ (d.number ≡ number)

-- so is the last entry of this number
abbrev pub IfLastOf : ℕ → List Away → (Away → Type 0) → Type 0
IfLastOf number lent P = (i : ℕ) (a : Away) → IsLastOf number lent i a → P a

-- the last entry of this number was taken out of the list
abbrev pub LeavesLastOf : ℕ → List Away → List Away → Type 0
LeavesLastOf number old new =
    (i : ℕ) × (a : Away) × IsLastOf number old i a × (new ≡ remove old i)

-- what is remembered now stands in place of the last entry of its number
abbrev pub RecountsLastOf : Away → List Away → List Away → Type 0
RecountsLastOf away old new =
    (i : ℕ) × (a : Away) × IsLastOf away.number old i a × (new ≡ slice_set old i away)

-- Steps that bring something: a stage with its object, a record with its removals, and a claim.
use Rattle.std.specs.Prelude.{◌≡◌, ◌<◌, ◌≤◌, ◌^◌, ◌++◌, ◌||◌, ℕ, Bool, true, false, not, length}
use Rattle.std.specs.Prelude.{List, [], ◌∷◌, slice_set}
use Rattle.file_tree.specs.ObjectValue.{ObjectValue, plain}
use Rattle.merge_journal.specs.Group.{covers}
use Rattle.merge_journal.specs.Judging.{are_free, footprint}
use Rattle.merge_record.specs.Spelling.{spelling}
use Rattle.merge_record.specs.declared.record.Placement.{Placement}
use Rattle.merge_core.specs.declared.phase.Phase.{Phase}
use Rattle.merge_core.specs.declared.refusal.Refusal.{Refusal}
use Rattle.merge_core.specs.declared.refusal.Refusal.TheVariants as refusals
use Rattle.merge_core.specs.Core.{standing_in}
use Rattle.merge_core.specs.CoreValue.{CoreValue}
use Rattle.merge_core.specs.Phase as pure
use Rattle.merge_core.specs.Phases.{phase_of}
use Rattle.merge_core.specs.Roll.{Roll, Standing, group_at, phase_at}

-- there is such a group, and the machine isn't stopped
abbrev pub IsRunning : CoreValue → ℕ → Type 0
IsRunning k g = (g < length k.standings) × (k.stopped ≡ false)

-- the group is there, in this phase, and the machine isn't stopped
pub record IsAt (k : CoreValue) (g : ℕ) (asked : Phase) : Type 0 where
  pub running : IsRunning k g
  pub phase : (standing_in k.standings g).phase ≡ phase_of asked

-- why a step that asks for one phase may not come now, where limit says that too much was brought
abbrev pub IsRefusedAt : CoreValue → ℕ → Phase → Type 0 → Refusal → Type 0
IsRefusedAt k g asked limit refusals.OutOfRange = ¬ IsRunning k g
IsRefusedAt k g asked limit (refusals.WrongPhase has wanted) = IsRunning k g
    × ((standing_in k.standings g).phase ≡ phase_of has) × (wanted ≡ asked)
    × (¬ (phase_of has ≡ phase_of asked))
IsRefusedAt k g asked limit (refusals.NotDue left) = ⊥
IsRefusedAt k g asked limit refusals.Limit = IsAt k g asked × limit
IsRefusedAt k g asked limit refusals.Memory = IsAt k g asked

-- what is kept with another standing of one group, once a call that makes no sync was answered
abbrev pub with_answer : CoreValue → ℕ → Standing → Bool → CoreValue
with_answer k g x ok = record {
  standings = slice_set k.standings g x;
  order = k.order;
  syncs = k.syncs;
  stopped = not ok || k.stopped;
}

-- the group once the object was handed to its next stage
abbrev pub with_stage : Bool → ℕ → Placement → ObjectValue → Standing → Standing
with_stage true n p o x = record x {
  placements = x.placements ++ p ∷ [];
  objects = x.objects ++ o ∷ [];
  stamp = n;
}
with_stage false n p o x = record x { stamp = n }

-- the group once its record was put
abbrev pub with_record : Bool → ℕ → ℕ → List (List ℕ) → Standing → Standing
with_record true n g removals x = record x {
  phase = pure.Recorded;
  removals = removals;
  body = plain (spelling (record { group = g; removals = removals; placements = x.placements }));
  stamp = n;
}
with_record false n g removals x = record x { stamp = n }

-- the group once its claim was granted
abbrev pub with_claim : Bool → Standing → Standing
with_claim true x = record x { phase = pure.Claimed }
with_claim false x = x

-- no more stages have a number
abbrev pub IsFull : Standing → Type 0
IsFull x = 2 ^ 32 ≤ length x.objects

-- the paths of a group's record are apart, outside the journal, and no other group's under way
pub record IsApart (r : Roll) (g : ℕ) : Type 0 where
  pub free : are_free [] (footprint (group_at r g).content) ≡ true
  pub others : (h : ℕ) (q : List ℕ) → pure.is_live (phase_at r h) ≡ true →
      covers (group_at r g) q ≡ true → ¬ (covers (group_at r h) q ≡ true)

-- When a text is the entry of an ebuild, and why one is none.
use Rattle.std.specs.Prelude.{◌≡◌, ◌≢◌, ℕ, List, codes, ⊤}
use Rattle.file_digest.specs.Digests.{WritesDigest}
use Rattle.md5.specs.Md5.{md5}
use Rattle.md5_cache.specs.Entries.{value_of}
use Rattle.md5_cache.specs.FieldFaults.{FirstFieldFault}
use Rattle.md5_cache.specs.Fields.{AreFields}
use Rattle.md5_cache.specs.PairFaults.{FirstFault}
use Rattle.md5_cache.specs.Pairs.{IsPairsText, pairs_of}
use Rattle.md5_cache.specs.declared.fault.CacheFault.{CacheFault}
use Rattle.md5_cache.specs.declared.fault.CacheFault.TheVariants as faults
use Rattle.md5_cache.specs.declared.fault.FieldFault.{FieldFault}
use Rattle.md5_cache.specs.declared.fault.FieldFault.TheVariants as field_faults
use Rattle.md5_cache.specs.declared.fault.PairFault.{PairFault}
use Rattle.md5_cache.specs.declared.fault.PairFault.TheVariants as pair_faults
use Rattle.md5_cache.specs.declared.pair.Pair.{Pair}

-- the pairs record this digest
abbrev pub Records : List Pair → List ℕ → Type 0
Records pairs digest = WritesDigest (value_of pairs (codes "_md5_")) digest

-- the text is one of an entry that was made of this ebuild
pub record IsEntry (bytes ebuild : List ℕ) : Type 0 where
  pub text : IsPairsText bytes
  pub fields : AreFields (pairs_of bytes)
  pub fresh : Records (pairs_of bytes) (md5 ebuild)

-- the pairs record another digest than that of the ebuild
pub record IsStale (pairs : List Pair) (ebuild recorded found : List ℕ) : Type 0 where
  pub written : Records pairs recorded
  pub right : found ≡ md5 ebuild
  pub other : recorded ≢ found

-- the fault is that the ebuild changed
abbrev pub IsOutdated : List Pair → List ℕ → CacheFault → Type 0
IsOutdated pairs ebuild fault =
    (recorded found : List ℕ) × (fault ≡ faults.Stale recorded found)
    × IsStale pairs ebuild recorded found

abbrev pub of_pairs : PairFault → CacheFault
of_pairs pair_faults.NotUtf8 = faults.NotUtf8
of_pairs (pair_faults.NoEquals line) = faults.NoEquals line
of_pairs (pair_faults.Repeated key) = faults.Repeated key
of_pairs pair_faults.Memory = faults.Memory

abbrev pub of_fields : FieldFault → CacheFault
of_fields (field_faults.Eapi text) = faults.Eapi text
of_fields (field_faults.Field key) = faults.Field key
of_fields field_faults.Memory = faults.Memory

-- the first fault of the text: that of its pairs, of their fields, or that the ebuild changed;
-- memory may run out on any text
abbrev pub FirstEntryFault : List ℕ → List ℕ → CacheFault → Type 0
FirstEntryFault bytes ebuild faults.NotUtf8 = FirstFault bytes pair_faults.NotUtf8
FirstEntryFault bytes ebuild (faults.NoEquals line) = FirstFault bytes (pair_faults.NoEquals line)
FirstEntryFault bytes ebuild (faults.Repeated key) = FirstFault bytes (pair_faults.Repeated key)
FirstEntryFault bytes ebuild (faults.Eapi text) =
    IsPairsText bytes × FirstFieldFault (pairs_of bytes) (field_faults.Eapi text)
FirstEntryFault bytes ebuild (faults.Field key) =
    IsPairsText bytes × FirstFieldFault (pairs_of bytes) (field_faults.Field key)
FirstEntryFault bytes ebuild (faults.Stale recorded found) =
    IsPairsText bytes × (AreFields (pairs_of bytes) ×
    IsStale (pairs_of bytes) ebuild recorded found)
FirstEntryFault bytes ebuild faults.Memory = ⊤

-- What the clauses of a memory tree and a memory sink speak of.
use Rattle.std.specs.Prelude.{◌≡◌, ◌⊎◌, ◌&&◌, ℕ, Bool, true, false, not, List, IsTrue, if◌then◌else◌}
use Rattle.file_tree.specs.Disk.{Map, Story, with_touch}
use Rattle.tree_mem.specs.declared.tree.MemTree.{MemTree}
use Rattle.tree_mem.specs.Calls.{Counts, call_fails, counted, counts_of, one_more}
use Rattle.tree_mem.specs.MemDisk.{disk_story}

-- what each path reads as and which paths are touched, now and after each earlier call
abbrev pub mem_story : MemTree → Story
mem_story t = disk_story t.disk

-- the map that the tree reads as
abbrev pub mem_holds : MemTree → Map
mem_holds t = (mem_story t).now.holds

abbrev pub mem_counts : MemTree → Counts
mem_counts t = counts_of t.calls

-- how many calls failed
abbrev pub fault_count : MemTree → ℕ
fault_count t = (mem_counts t).faults

-- how many syncs answered Ok
abbrev pub mem_syncs : MemTree → ℕ
mem_syncs t = t.syncs

-- whether the call of this number is to fail
abbrev pub mem_fails : MemTree → ℕ → Bool
mem_fails t n = call_fails t.calls n

-- whether the next call is to fail
abbrev pub next_fails : MemTree → Bool
next_fails t = mem_fails t (one_more (mem_counts t).calls)

-- the same calls are to fail
abbrev pub SameFailures : MemTree → MemTree → Type 0
SameFailures old new = (n : ℕ) → mem_fails new n ≡ mem_fails old n

-- one call was made, and it didn't fail
abbrev pub CountsOk : MemTree → MemTree → Type 0
CountsOk old new = mem_counts new ≡ counted false false (mem_counts old)

-- one call was made, and it failed where it was to
abbrev pub CountsListed : MemTree → MemTree → Type 0
CountsListed old new = mem_counts new ≡ counted (next_fails old) false (mem_counts old)

-- one call was made; where it failed and wasn't to, a growth was refused
abbrev pub CountsCall : Bool → MemTree → MemTree → Type 0
CountsCall failed old new =
    mem_counts new ≡ counted failed (failed && not (next_fails old)) (mem_counts old)

-- the syncs after one more, by whether it answered Ok
abbrev pub CountsSync : Bool → MemTree → MemTree → Type 0
CountsSync ok old new = mem_syncs new ≡ (if ok then one_more (mem_syncs old) else mem_syncs old)

-- what a failed call that was to change the path leaves: it was to fail, and the path holds what it
-- held and is touched; or a growth was refused, and only the counts changed
abbrev pub FailsAt : MemTree → List ℕ → MemTree → Type 0
FailsAt old p new =
    (IsTrue (next_fails old) × (mem_counts new ≡ counted true false (mem_counts old)) ×
    (mem_story new ≡ with_touch (mem_story old) p)) ⊎
    ((mem_counts new ≡ counted true true (mem_counts old)) × (mem_story new ≡ mem_story old))

-- the failure of a call that touches the path and nothing else
pub record IsTouchedBy (old : MemTree) (p : List ℕ) (new : MemTree) : Type 0 where
  pub story : mem_story new ≡ with_touch (mem_story old) p
  pub calls : new.calls ≡ record old.calls { faults = one_more old.calls.faults }

-- the failure of a call for a refused growth
pub record IsRefusedBy (old new : MemTree) : Type 0 where
  pub story : mem_story new ≡ mem_story old
  pub calls : new.calls ≡
      record old.calls { faults = one_more old.calls.faults; refused = one_more old.calls.refused }

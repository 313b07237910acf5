-- The counts of a memory tree or sink, and which of its calls fail.
use Rattle.std.specs.Prelude.{ℕ, ◌+◌, ◌-◌, ◌^◌, ◌||◌, min, nat_le, Bool, false, Option, Some, None, if◌then◌else◌}
use Rattle.std.specs.BTreeSet.{contains}
use Rattle.std.specs.Ordering.{nat_cmp}
use Rattle.tree_mem.specs.declared.calls.Calls.{Calls}

-- how many calls were made, how many of them failed, and how many of those for a refused growth
pub record Counts : Type 0 where
  pub calls : ℕ
  pub faults : ℕ
  pub refused : ℕ

-- a count stands still at the end of its type
abbrev pub one_more : ℕ → ℕ
one_more n = min (n + 1) (2 ^ 64 - 1)

-- the counts after one more call, by whether it failed and whether a growth was refused
abbrev pub counted : Bool → Bool → Counts → Counts
counted failed refused c =
    record {
      calls = one_more c.calls;
      faults = if failed then one_more c.faults else c.faults;
      refused = if refused then one_more c.refused else c.refused;
    }

-- calls from this one on
abbrev pub is_from : Option ℕ → ℕ → Bool
is_from None n = false
is_from (Some first) n = nat_le first n

-- whether the call of this number is to fail
abbrev pub call_fails : Calls → ℕ → Bool
call_fails c n = contains nat_cmp c.listed n || is_from c.stop n

abbrev pub counts_of : Calls → Counts
counts_of c = record { calls = c.made; faults = c.faults; refused = c.refused }

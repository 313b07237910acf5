-- What the clauses of a memory sink speak of.
use Rattle.std.specs.Prelude.{◌≡◌, ◌&&◌, ℕ, Bool, not, List}
use Rattle.tree_mem.specs.declared.sink.MemSink.{MemSink}
use Rattle.tree_mem.specs.Calls.{Counts, call_fails, counted, counts_of, one_more}

-- the bytes so far
abbrev pub sink_bytes : MemSink → List ℕ
sink_bytes s = s.bytes.items

abbrev pub sink_counts : MemSink → Counts
sink_counts s = counts_of s.calls

-- how many writes failed
abbrev pub sink_fault_count : MemSink → ℕ
sink_fault_count s = (sink_counts s).faults

-- whether the write of this number is to fail
abbrev pub sink_fails : MemSink → ℕ → Bool
sink_fails s n = call_fails s.calls n

-- whether the next write is to fail
abbrev pub next_write_fails : MemSink → Bool
next_write_fails s = sink_fails s (one_more (sink_counts s).calls)

-- one write was made; where it failed and wasn't to, a growth was refused
abbrev pub CountsWrite : Bool → MemSink → MemSink → Type 0
CountsWrite failed old new =
    sink_counts new ≡ counted failed (failed && not (next_write_fails old)) (sink_counts old)

-- Counts of faults that rise along a run, and what was written so far.
use Rattle.std.proofs.Common.{◌≡◌, ◌≤◌, ℕ, List, arith, inl, inr, subst, sym}
use Rattle.std.specs.Prelude.{⊤}
use Rattle.file_tree.specs.Disk.{Rose}
use Rattle.file_tree.specs.declared.traits.Sink.{Ghosts as Sink}
use Rattle.merge_site.specs.declared.group.SiteGroup.{SiteGroup}
use Rattle.merge_group.specs.Lines.{AreLines, line_in}
use Rattle.file_tree.specs.Output.{Wrote}
use Rattle.merge_group.proofs.Told.{wrote_anyhow}

pub rose_later : (a b c : ℕ) → Rose a b → b ≤ c → Rose a c
rose_later a b c (inl lt) le = inl (omega (arith, lt, le))
rose_later a b c (inr full) le = inr (omega (arith, full, le))

pub rose_earlier : (a b c : ℕ) → a ≤ b → Rose b c → Rose a c
rose_earlier a b c le (inl lt) = inl (omega (arith, lt, le))
rose_earlier a b c le (inr full) = inr full

-- the lines of a run behind one turn more, at a site with these groups
pub written_on : {S : Type 0} (sinks : Sink S) (start mid last : S) (groups groups' : List SiteGroup) (history told history' told' : List ℕ) → groups' ≡ groups → sinks.faults start ≤ sinks.faults mid
    → Wrote (AreLines (Rose (sinks.faults start) (sinks.faults mid)) (line_in groups) history told) (sinks.written start) (sinks.written mid)
    → (Wrote (AreLines ⊤ (line_in groups') history told) (sinks.written start) (sinks.written mid)
    → Wrote (AreLines (Rose (sinks.faults mid) (sinks.faults last)) (line_in groups') history' told') (sinks.written start) (sinks.written last))
    → Wrote (AreLines (Rose (sinks.faults start) (sinks.faults last)) (line_in groups) history' told') (sinks.written start) (sinks.written last)
written_on sinks start mid last groups groups' history told history' told' same later wrote turn =
    let before = subst (λ (l : List SiteGroup). Wrote (AreLines ⊤ (line_in l) history told) (sinks.written start) (sinks.written mid)) (sym same)
    (wrote_anyhow (Rose (sinks.faults start) (sinks.faults mid)) ⊤ (line_in groups) history told (sinks.written start) (sinks.written mid) (λ _. tt) wrote) in
    subst (λ (l : List SiteGroup). Wrote (AreLines (Rose (sinks.faults start) (sinks.faults last)) (line_in l) history' told') (sinks.written start) (sinks.written last)) same
    (wrote_anyhow (Rose (sinks.faults mid) (sinks.faults last)) (Rose (sinks.faults start) (sinks.faults last)) (line_in groups') history' told' (sinks.written start) (sinks.written last) (rose_earlier (sinks.faults start) (sinks.faults mid) (sinks.faults last) later) (turn before))

-- Which paths of the journal differ, and that a group's own paths are outside it.
use Rattle.std.proofs.Common.{◌≡◌, ◌<◌, ◌^◌, ◌||◌, ℕ, true, false, List, [], sym, ap, ◌∙◌, map}
use Rattle.std.specs.Prelude.{bytes_eq}
use Rattle.basics.specs.Members.{Has}
use Rattle.basics.proofs.Membership.{has-append_left, has-append_right, has-map}
use Rattle.file_tree.specs.Paths.{is_below}
use Rattle.merge_record.specs.RecordValue.{RecordValue}
use Rattle.merge_journal.specs.Judging.{are_free, footprint, path_of}
use Rattle.merge_journal.specs.Names.{gate_path, record_path}
use Rattle.file_tree.specs.Fixed.{jobs}
use Rattle.merge_journal.specs.Names.Part.{Changes, Gate}
use Rattle.merge_record.specs.declared.record.Placement.{Placement}
use Rattle.merge_journal.proofs.Form.{are_free-words}
use Rattle.merge_journal.proofs.Naming.{part_path-injective}
use Rattle.merge_core.proofs.Paths.{below_and_not}
use Rattle.std.proofs.lemmas.Bool.{or_parts}

-- a path of the journal and one that is none differ
pub journal_apart : (p q : List ℕ) → is_below jobs p ≡ true → is_below jobs q ≡ false → p ≡ q → ⊥
journal_apart p q below out e = below_and_not q (sym (ap (is_below jobs) e) ∙ below) out

pub gates_same : (g h : ℕ) → g < 2 ^ 32 → h < 2 ^ 32 → gate_path g ≡ gate_path h → g ≡ h
gates_same g h gs hs e = (part_path-injective g h Gate Gate gs hs tt tt e).0

pub records_same : (g h : ℕ) → g < 2 ^ 32 → h < 2 ^ 32 → record_path g ≡ record_path h → g ≡ h
records_same g h gs hs e = (part_path-injective g h Changes Changes gs hs tt tt e).0

-- paths that are free are outside the journal
pub free_outside : (r : RecordValue) → are_free [] (footprint r) ≡ true → (q : List ℕ) → Has (footprint r) q → is_below jobs q ≡ false
free_outside r free q has =
    let clear = (are_free-words [] (footprint r) free).outside q has in
    (or_parts (is_below jobs q) (is_below q jobs) (or_parts (bytes_eq q jobs) (is_below jobs q || is_below q jobs) clear).1).0

pub placement_outside : (r : RecordValue) (p : Placement) → are_free [] (footprint r) ≡ true → Has r.placements p → is_below jobs p.path ≡ false
placement_outside r p free has = free_outside r free p.path (has-append_right r.removals (map path_of r.placements) p.path (has-map path_of r.placements p has))

pub removal_outside : (r : RecordValue) (q : List ℕ) → are_free [] (footprint r) ≡ true → Has r.removals q → is_below jobs q ≡ false
removal_outside r q free has = free_outside r free q (has-append_left r.removals (map path_of r.placements) q has)

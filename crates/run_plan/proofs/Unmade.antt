-- A run that never began.
use Rattle.std.proofs.Common.{◌≡◌, ℕ, List, [], Result, Err, refl}
use Rattle.file_tree.specs.Disk.{Story}
use Rattle.file_tree.specs.declared.fault.TreeFault.{TreeFault}
use Rattle.file_tree.specs.declared.fault.TreeFault.TheVariants as trees
use Rattle.merge_journal.specs.Group as journal
use Rattle.merge_core.specs.Trail.{IsAtRest}
use Rattle.merge_group.specs.Went.{Went}
use Rattle.merge_group.specs.declared.stop.Stop.{Stop}
use Rattle.merge_group.specs.declared.stop.Stop.TheVariants as stops
use Rattle.merge_group.proofs.Cleared.{went_nowhere}

-- nothing came in where a fault of the tree came before the run
pub went_unmade : (f : TreeFault) (Of : journal.Group → Type 0) (old new : Story) (history : List ℕ) (end : Result (Unit {0}) Stop) → IsAtRest old.now.holds old.now → new ≡ old → history ≡ [] → end ≡ Err (stops.Tree f) → Went Of old new history end
went_unmade trees.Memory Of old new history end rest same none is = went_nowhere Of old new history end rest same none is
went_unmade trees.Failed Of old new history end rest same none is =
    let h = went_nowhere {A = Unit {0}} Of old new history (Err (stops.Tree trees.Memory)) rest same none refl in
    record {
      moments = h.moments;
      crash = h.crash;
      left = λ healthy. absurd (healthy is);
      tree = λ healthy fed. absurd (healthy is);
    }

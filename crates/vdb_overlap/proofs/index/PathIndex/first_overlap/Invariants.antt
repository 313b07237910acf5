use Rattle.std.proofs.Common.{◌≡◌, ◌++◌, false, List, ℕ}
use Rattle.basics.specs.Members.{Has}
use Rattle.file_tree.specs.Paths.{is_below}
use Rattle.vdb_overlap.proofs.index.PathIndex.first_overlap.Given as goal

abbrev pub invariant-loop-text : goal.invariant-loop-text
invariant-loop-text l = (front : List (List ℕ)) × (l.self.texts ≡ front ++ l.text-iterator)
    × ((q s : List ℕ) → Has front q → Has l.self.texts s → is_below q s ≡ false)

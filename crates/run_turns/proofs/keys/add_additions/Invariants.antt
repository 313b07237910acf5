use Rattle.std.proofs.Common.{◌++◌, List, map, take, ℕ}
use Rattle.run_files.specs.Keys.{folder_of}
use Rattle.run_files.specs.Places.{ArePlaces}
use Rattle.run_turns.proofs.keys.add_additions.Given as goal

abbrev pub invariant-loop-addition : goal.invariant-loop-addition
invariant-loop-addition l =
    (texts : List (List ℕ)) → ArePlaces texts l.fn.places → ArePlaces (texts ++ map folder_of (take l.addition-index l.additions)) l.places

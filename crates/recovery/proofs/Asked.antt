-- From call to call, where each is asked to change the next of a list of paths.
use Rattle.std.proofs.Common.{◌≡◌, ◌<◌, ℕ, zero, suc, List, [], ◌∷◌, ◌++◌, Option, inl, inr, refl, subst, arith, length, drop, get_or, map}
use Rattle.basics.specs.Members.{Has}
use Rattle.file_tree.specs.Disk.{Disk, Map, Moves, Story, write}
use Rattle.file_tree.specs.Moments.{Leaves}
use Rattle.file_tree.specs.ObjectValue.{ObjectValue}
use Rattle.file_tree.proofs.Moments.{Runs, runs_move, runs_same}
use Rattle.merge_journal.specs.Judging.{path_of}
use Rattle.merge_journal.proofs.Free.{length-paths, path_at_map}
use Rattle.merge_record.specs.declared.record.Placement.{Placement}
use Rattle.merge_core.specs.Recovery.{Asked}

-- no call was made
pub asked_stays : (ps : List (List ℕ)) (s : Story) → Asked ps s s
asked_stays [] s = refl
asked_stays (p ∷ ps) s = (s, inl refl, asked_stays ps s)

-- calls on some paths, and then on others
pub asked_both : (ps qs : List (List ℕ)) (old mid new : Story) → Asked ps old mid → Asked qs mid new → Asked (ps ++ qs) old new
asked_both [] qs old mid new a b = subst (λ (s : Story). Asked qs s new) a b
asked_both (p ∷ ps) qs old mid new a b = (a.0, a.1, asked_both ps qs a.0 mid new a.2 b)

-- what the calls from a place on make of a whole that went well so far
abbrev pub AskedOn : List (List ℕ) → ℕ → Story → Story → Type 0
AskedOn ps i old mid = (new : Story) → Asked (drop i ps) mid new → Asked ps old new

asked_from : (i : ℕ) (ps : List (List ℕ)) (p : List ℕ) (mid next new : Story) → i < length ps → p ≡ get_or ps i p → Moves mid p next → Asked (drop (suc i) ps) next new → Asked (drop i ps) mid new
asked_from i [] p mid next new lt is moves rest = absurd (omega arith)
asked_from zero (x ∷ ps) p mid next new lt is moves rest = (next, subst (λ (q : List ℕ). Moves mid q next) is moves, rest)
asked_from (suc i) (x ∷ ps) p mid next new lt is moves rest = asked_from i ps p mid next new (omega arith) is moves rest

-- one more call
pub asked_step : (i : ℕ) (ps : List (List ℕ)) (p : List ℕ) (old mid next : Story) → i < length ps → p ≡ get_or ps i p → AskedOn ps i old mid → Moves mid p next → AskedOn ps (suc i) old next
asked_step i ps p old mid next lt is so_far moves new rest = so_far new (asked_from i ps p mid next new lt is moves rest)

-- all calls, or those until one failed
pub asked_whole : (i : ℕ) (ps : List (List ℕ)) (old new : Story) → AskedOn ps i old new → Asked ps old new
asked_whole i ps old new so_far = so_far new (asked_stays (drop i ps) new)

-- one more placement
pub placed_asked : (i : ℕ) (ps : List Placement) (p : Placement) (old mid next : Story) → i < length ps → p ≡ get_or ps i p → AskedOn (map path_of ps) i old mid → Moves mid (path_of p) next
    → AskedOn (map path_of ps) (suc i) old next
placed_asked i ps p old mid next lt is so_far moves =
    asked_step i (map path_of ps) (path_of p) old mid next (omega (arith, lt, length-paths ps)) (path_at_map ps i p lt is) so_far moves

-- a phase that survives whatever the calls are asked goes on, and so does what its images have
pub runs_asked : (Q : Disk → Type 0) (P : Map → Type 0) → ((d : Disk) → Q d → Leaves P d) → (ps : List (List ℕ)) (old mid new : Story)
    → ((p : List ℕ) → Has ps p → (d : Disk) (x : Option ObjectValue) → Q d → Q (write d p x)) → Runs Q P old mid → Asked ps mid new → Runs Q P old new
runs_asked Q P leaves [] old mid new keep r same = runs_same Q P old mid new r same
runs_asked Q P leaves (p ∷ ps) old mid new keep r asked =
    runs_asked Q P leaves ps old asked.0 new (λ q has. keep q (inr has)) (runs_move Q P leaves old mid asked.0 p (keep p (inl refl)) r asked.1) asked.2

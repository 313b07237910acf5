-- The keys that were seen.
use denote.Ref.{Bor}
use Rattle.std.specs.Prelude.{◌↔◌, ℕ, Bool, List, IsTrue, is_some, ⊤}
use Rattle.std.specs.BTreeMap.{BTreeMap, get_by}
use Rattle.std.specs.Cmp.Lexicographic.{slice_cmp}
use Rattle.std.specs.Ordering.{nat_cmp}
use Rattle.basics.specs.Members.{Has}

-- the key is among them
abbrev pub has_seen : BTreeMap (Bor (List ℕ)) ⊤ → List ℕ → Bool
has_seen seen key = is_some (get_by (λ k. slice_cmp nat_cmp key k.now) seen)

-- just these were seen
abbrev pub HasSeen : BTreeMap (Bor (List ℕ)) ⊤ → List (List ℕ) → Type 0
HasSeen seen keys = (key : List ℕ) → IsTrue (has_seen seen key) ↔ Has keys key

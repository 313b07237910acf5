-- What stops a claim: the book, the paths of the record, or what a look meets.
use Rattle.std.specs.Prelude.{◌≡◌, true, false, [], List, ℕ, ⊤}
use Rattle.file_tree.specs.declared.fault.TreeFault.TheVariants as trees
use Rattle.merge_journal.specs.Judging.{are_free}
use Rattle.owner_book.specs.declared.fault.ClaimFault.{ClaimFault}
use Rattle.owner_book.specs.declared.fault.ClaimFault.TheVariants as claims
use Rattle.owner_book.specs.declared.fault.Collision.TheVariants as collisions
use Rattle.merge_site.specs.declared.fault.ClaimStop.{ClaimStop}
use Rattle.merge_site.specs.declared.fault.ClaimStop.TheVariants as stops

-- a refusal of the book as a stop of the claim
abbrev pub stop_of : ClaimFault → ClaimStop
stop_of (claims.Image b) = stops.Image b
stop_of (claims.Collision c) = stops.Collision c
stop_of claims.Limit = stops.Limit
stop_of claims.Memory = stops.Tree trees.Memory

-- how a claim is stopped that the book has taken: by the paths of the record, else by the tree
abbrev pub LateStops : List (List ℕ) → ClaimStop → Type 0
LateStops ps stops.Overlap = are_free [] ps ≡ false
LateStops ps (stops.Tree trees.Failed) = are_free [] ps ≡ true
LateStops ps (stops.Collision (collisions.Unowned p)) = are_free [] ps ≡ true
LateStops ps (stops.Tree trees.Memory) = ⊤
LateStops ps s = ⊥

-- how the book stops one
abbrev pub EarlyStops : ClaimStop → Type 0
EarlyStops (stops.Tree trees.Failed) = ⊥
EarlyStops (stops.Collision (collisions.Unowned p)) = ⊥
EarlyStops s = ⊤

-- how a look stops one
abbrev pub LookStops : ClaimStop → Type 0
LookStops (stops.Tree of) = ⊤
LookStops (stops.Collision (collisions.Unowned p)) = ⊤
LookStops s = ⊥

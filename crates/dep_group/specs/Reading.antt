-- Trees from tokens, and back (PMS 8.2: a group stands between parentheses).
use Rattle.std.specs.Prelude.{ℕ, ◌+◌, ◌-◌, Bool, if◌then◌else◌, ◌&&◌, nat_lt, List, [], ◌∷◌, ◌++◌, length, Option, Some, None, Result, Ok, Err}
use Rattle.std.specs.List.{list_any}
use Rattle.dep_group.specs.declared.token.Token.{Token}
use Rattle.dep_group.specs.declared.token.Token.TheVariants.{Leaf, Begins, Opens, Closes, Glued, Unknown}
use Rattle.dep_group.specs.declared.token.GroupFault.{GroupFault}
use Rattle.dep_group.specs.declared.token.GroupFault.TheVariants as fault
use Rattle.dep_group.specs.Trees.{Tree, Trees, leaf, group, no_trees, tree, trees_of, opens_any}

-- the tokens of an opener, with those that follow it
abbrev pub opening : {K L : Type 0} → Option K → List (Token K L) → List (Token K L)
opening None rest = Opens ∷ rest
opening (Some opener) rest = Begins opener ∷ Opens ∷ rest

-- the tokens of a tree, with those that follow it
abbrev mutual
  pub tokens : {K L : Type 0} → Tree K L → List (Token K L) → List (Token K L)
  tokens (leaf a) rest = Leaf a ∷ rest
  tokens (group opener ts) rest = opening opener (all_tokens ts (Closes ∷ rest))

  pub all_tokens : {K L : Type 0} → Trees K L → List (Token K L) → List (Token K L)
  all_tokens no_trees rest = rest
  all_tokens (tree t ts) rest = tokens t (all_tokens ts rest)

-- a group that is open: its opener, the index of its parenthesis, and the trees before it in the
-- group around it
pub record Opened (K L : Type 0) : Type 0 where
  pub opener : Option K
  pub at : ℕ
  pub before : List (Tree K L)

-- the parenthesis of the outermost of the open groups, of which the innermost comes first
abbrev pub outermost : {K L : Type 0} → ℕ → List (Opened K L) → ℕ
outermost at [] = at
outermost at (o ∷ os) = outermost o.at os

-- an any-of group is open
abbrev pub in_any_of : {K L : Type 0} → (K → Bool) → List (Opened K L) → Bool
in_any_of any_of os = list_any (λ o. opens_any any_of o.opener) os

-- what the end of the tokens gives: the trees, if nothing is open
abbrev pub finished : {K L : Type 0} → ℕ → Option K → List (Opened K L) → List (Tree K L)
    → Result (List (Tree K L)) GroupFault
finished at (Some opener) os done = Err (fault.Leaf (at - 1))
finished at None [] done = Ok done
finished at None (o ∷ os) done = Err (fault.Open (outermost o.at os))

-- what the tokens give from index `at` on: the trees, or the first fault. `begun` is the opener
-- right before, `os` are the open groups with the innermost first, `done` are the trees in the
-- innermost of them
abbrev pub read : {K L : Type 0} → (K → Bool) → (L → Bool) → List (Token K L) → ℕ → Option K
    → List (Opened K L) → List (Tree K L) → Result (List (Tree K L)) GroupFault
read any_of barred [] at begun os done = finished at begun os done
read any_of barred (Opens ∷ ts) at begun os done =
    if nat_lt (length os) 64
    then read any_of barred ts (at + 1) None
    (record { opener = begun; at = at; before = done } ∷ os) []
    else Err fault.Depth
read any_of barred (Leaf a ∷ ts) at None os done =
    if in_any_of any_of os && barred a then Err (fault.Barred at)
    else read any_of barred ts (at + 1) None os (done ++ leaf a ∷ [])
read any_of barred (Begins opener ∷ ts) at None os done =
    read any_of barred ts (at + 1) (Some opener) os done
read any_of barred (Closes ∷ ts) at None [] done = Err (fault.Close at)
read any_of barred (Closes ∷ ts) at None (o ∷ os) done =
    read any_of barred ts (at + 1) None os (o.before ++ group o.opener (trees_of done) ∷ [])
read any_of barred (Glued ∷ ts) at None os done = Err (fault.NoSpace at)
read any_of barred (Unknown ∷ ts) at None os done = Err (fault.Leaf at)
read any_of barred (t ∷ ts) at (Some opener) os done = Err (fault.Leaf (at - 1))

-- the trees of a list of them
abbrev pub list_of : {K L : Type 0} → Trees K L → List (Tree K L)
list_of no_trees = []
list_of (tree t ts) = t ∷ list_of ts

-- the tokens that have led to these open groups and to the trees in the innermost, with those
-- that follow
abbrev pub led_here : {K L : Type 0} → List (Opened K L) → List (Tree K L) → List (Token K L)
    → List (Token K L)
led_here [] done rest = all_tokens (trees_of done) rest
led_here (o ∷ os) done rest =
    led_here os o.before (opening o.opener (all_tokens (trees_of done) rest))

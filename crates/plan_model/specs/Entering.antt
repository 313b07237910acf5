-- Dependencies as they are when their package enters: each leaf that asks for a bind takes the next
-- one, in written order, and a slot operator that is bound to no subslot is dropped.
use Rattle.std.specs.Prelude.{◌&&◌, ℕ, Bool, true, false, not, List, [], ◌∷◌, ◌++◌, Option, None, Some, if◌then◌else◌}
use Rattle.dep_atom.specs.Values.{AtomValue, with_slot}
use Rattle.dep_atom.specs.declared.slot.Bind.{Bind}
use Rattle.dep_atom.specs.declared.slot.SlotPart.{SlotPart}
use Rattle.dep_atom.specs.declared.slot.SlotPart.TheVariants.{Equals, Free, Given, Star}
use Rattle.dep_group.specs.Trees.{Tree, group, is_met, leaf, no_trees, tree}
use Rattle.dep_group.specs.declared.token.Opener.{Opener}
use Rattle.dep_group.specs.declared.token.Opener.TheVariants.{AnyOf, AtMostOne, ExactlyOne, When}
use Rattle.dep_tree.specs.Grammar.{is_block}
use Rattle.dep_tree.specs.Texts.{AtomTrees, Dependencies}
use Rattle.vdb_law.specs.Fields.{without_equals}

-- the slot operator is bound to no subslot
abbrev pub is_open : SlotPart → Bool
is_open Free = false
is_open Star = false
is_open Equals = true
is_open (Given slot None equals) = equals
is_open (Given slot (Some subslot) equals) = false

-- .. and here it is bound; a slot that is written stays
abbrev pub bound_slot : SlotPart → Bind → SlotPart
bound_slot Free b = Free
bound_slot Star b = Star
bound_slot Equals b = Given b.slot (Some b.subslot) true
bound_slot (Given slot None equals) b = Given slot (Some b.subslot) equals
bound_slot (Given slot (Some subslot) equals) b = Given slot (Some subslot) equals

-- the leaf asks for a bind; a block never does
abbrev pub asks : AtomValue → Bool
asks a = not (is_block a) && is_open a.slot

-- the slot part of a leaf, where these binds are left
abbrev pub slot_with : List Bind → AtomValue → SlotPart
slot_with [] a = without_equals a.slot
slot_with (b ∷ binds) a = if asks a then bound_slot a.slot b else without_equals a.slot

-- the binds that a leaf leaves to those behind it
abbrev pub left_by : List Bind → AtomValue → List Bind
left_by [] a = []
left_by (b ∷ binds) a = if asks a then binds else b ∷ binds

abbrev pub entered_leaf : List Bind → AtomValue → AtomValue
entered_leaf binds a = with_slot (slot_with binds a) a

-- leaves inside the group may ask for binds: those of an any-of group don't, and neither do those
-- of a condition that isn't met
abbrev pub lets_in : (List ℕ → Bool) → Option (Opener (List ℕ)) → Bool
lets_in on None = true
lets_in on (Some AnyOf) = false
lets_in on (Some ExactlyOne) = false
lets_in on (Some AtMostOne) = false
lets_in on (Some (When flag wanted)) = is_met on flag wanted

-- the binds that trees leave to those behind them
abbrev mutual
  pub left : (List ℕ → Bool) → List Bind → Tree (Opener (List ℕ)) AtomValue → List Bind
  left on binds (leaf a) = left_by binds a
  left on binds (group opener ts) = if lets_in on opener then all_left on binds ts else binds

  pub all_left : (List ℕ → Bool) → List Bind → AtomTrees → List Bind
  all_left on binds no_trees = binds
  all_left on binds (tree t ts) = all_left on (left on binds t) ts

-- the leaves that ask for a bind, as they are written, in the order in which they take binds
abbrev mutual
  pub asking_leaves : (List ℕ → Bool) → Tree (Opener (List ℕ)) AtomValue → List AtomValue
  asking_leaves on (leaf a) = if asks a then a ∷ [] else []
  asking_leaves on (group opener ts) =
      if lets_in on opener then all_asking_leaves on ts else []

  pub all_asking_leaves : (List ℕ → Bool) → AtomTrees → List AtomValue
  all_asking_leaves on no_trees = []
  all_asking_leaves on (tree t ts) = asking_leaves on t ++ all_asking_leaves on ts

-- trees as they enter with these binds, where `on` says which flags are on
abbrev mutual
  pub entered : (List ℕ → Bool) → List Bind → Tree (Opener (List ℕ)) AtomValue →
      Tree (Opener (List ℕ)) AtomValue
  entered on binds (leaf a) = leaf (entered_leaf binds a)
  entered on binds (group opener ts) =
      group opener (all_entered on (if lets_in on opener then binds else []) ts)

  pub all_entered : (List ℕ → Bool) → List Bind → AtomTrees → AtomTrees
  all_entered on binds no_trees = no_trees
  all_entered on binds (tree t ts) =
      tree (entered on binds t) (all_entered on (left on binds t) ts)

-- dependencies as they enter with these binds
abbrev pub entered_with : (List ℕ → Bool) → List Bind → Dependencies → Dependencies
entered_with on binds x =
    record { groups = all_entered on binds x.groups; empty_holds = x.empty_holds }

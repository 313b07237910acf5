-- The binds of what comes: each leaf that asks is bound to the greatest package that it matches.
use Rattle.std.specs.Prelude.{ℕ, List, [], ◌∷◌, Option, None, Some, filter, map}
use Rattle.pms_names.specs.Flags.{has}
use Rattle.dep_atom.specs.Match.{value_matches}
use Rattle.dep_atom.specs.Values.{AtomValue}
use Rattle.dep_atom.specs.declared.slot.Bind.{Bind}
use Rattle.dep_atom.specs.declared.slot.SlotPart.{SlotPart}
use Rattle.dep_atom.specs.declared.slot.SlotPart.TheVariants.{Equals, Free, Given, Star}
use Rattle.pkg_state.specs.Index.{those_named}
use Rattle.pkg_state.specs.Package.{Package}
use Rattle.plan_lives.specs.Binding.{greater}
use Rattle.plan_model.specs.Entering.{all_asking_leaves}

-- the packages that the leaf matches, of those of its name
abbrev pub matching : AtomValue → List (List ℕ) → List Package → List Package
matching a asker ps =
    filter (λ p. value_matches a p.facts asker) (those_named a.name.«package» ps)

-- the greatest of these, where `best` is the greatest of those before them: the first of those of
-- the greatest version and, of that, of the smallest slot
abbrev pub greatest : Option Package → List Package → Option Package
greatest best [] = best
greatest best (p ∷ ps) = greatest (Some (greater best p)) ps

-- the slot `0`
abbrev pub slot_zero : List ℕ
slot_zero = 48 ∷ []

-- the slot that the leaf names, and else `0`
abbrev pub written_slot : SlotPart → List ℕ
written_slot Free = slot_zero
written_slot Star = slot_zero
written_slot Equals = slot_zero
written_slot (Given slot subslot equals) = slot

-- the slot and the subslot of the package; where there is none, the slot that is written is both
abbrev pub bind_to : Option Package → AtomValue → Bind
bind_to None a = record { slot = written_slot a.slot; subslot = written_slot a.slot }
bind_to (Some p) a = record { slot = p.facts.slot; subslot = p.facts.subslot }

-- the bind of a leaf, for an asker with these flags, beside these packages
abbrev pub bind_of : List Package → List (List ℕ) → AtomValue → Bind
bind_of ps asker a = bind_to (greatest None (matching a asker ps)) a

-- one for each leaf that asks, in written order
abbrev pub binds_of : List Package → Package → List Bind
binds_of ps p =
    map (bind_of ps p.facts.enabled) (all_asking_leaves (has p.facts.enabled) p.rdepend.groups)

-- Trees that enter are in form, and no slot operator of them is bound to nothing.
use Rattle.std.proofs.Common.{◌≡◌, ◌∙◌, ◌&&◌, ◌+◌, ◌≤◌, ℕ, Bool, true, false, max, List, [], ◌∷◌, Option, Some, None, refl, ap, subst, sym}
use Rattle.std.specs.Prelude.{◌↔◌, if◌then◌else◌}
use Rattle.std.specs.List.{AllByRecursion}
use Rattle.dep_atom.specs.Atoms.{IsAtomValue}
use Rattle.dep_atom.specs.Form.{IsSlotForm}
use Rattle.dep_atom.specs.Values.{AtomValue}
use Rattle.dep_atom.specs.declared.slot.Bind.{Bind}
use Rattle.dep_atom.specs.declared.slot.SlotPart.{SlotPart}
use Rattle.dep_atom.specs.declared.slot.SlotPart.TheVariants.{Equals, Free, Given, Star}
use Rattle.dep_group.specs.Tokens.{AreMadeOf, IsInForm, IsMadeOf}
use Rattle.dep_group.specs.Trees.{Tree, all_depth, all_free, depth, group, is_any_of, is_free, leaf, no_trees, tree}
use Rattle.dep_group.specs.declared.token.Opener.{Opener}
use Rattle.dep_tree.specs.Grammar.{AreAtomsInGroups, grammar, is_block}
use Rattle.dep_tree.specs.Texts.{AtomTrees, Dependencies}
use Rattle.vdb_law.specs.Fields.{all_bound, bound_alone, tree_bound, without_equals}
use Rattle.plan_text.specs.Words.{IsBind}
use Rattle.vdb_files.specs.Recorded.{AreBound}
use Rattle.vdb_files.proofs.Again.{slot_again, slot_kept}
use Rattle.plan_model.specs.Entering.{all_entered, all_left, asks, bound_slot, entered, entered_leaf, entered_with, left, left_by, lets_in, slot_with}

abbrev T : Type 0
T = Tree (Opener (List ℕ)) AtomValue

abbrev AreBinds : List Bind → Type 0
AreBinds binds = AllByRecursion IsBind binds

binds_if : (b : Bool) (binds more : List Bind) → AreBinds binds → AreBinds more → AreBinds (if b then binds else more)
binds_if true binds more is are = is
binds_if false binds more is are = are

-- ---- slots

bound_closed : (s : SlotPart) (b : Bind) → without_equals (bound_slot s b) ≡ bound_slot s b
bound_closed Free b = refl
bound_closed Star b = refl
bound_closed Equals b = refl
bound_closed (Given slot None equals) b = refl
bound_closed (Given slot (Some subslot) equals) b = refl

if_closed : (t : Bool) (s : SlotPart) (b : Bind) → without_equals (if t then bound_slot s b else without_equals s) ≡ (if t then bound_slot s b else without_equals s)
if_closed true s b = bound_closed s b
if_closed false s b = slot_again s

slot_closed : (binds : List Bind) (a : AtomValue) → without_equals (slot_with binds a) ≡ slot_with binds a
slot_closed [] a = slot_again a.slot
slot_closed (b ∷ binds) a = if_closed (asks a) a.slot b

bound_formed : (s : SlotPart) (b : Bind) → IsSlotForm s → IsBind b → IsSlotForm (bound_slot s b)
bound_formed Free b h is = h
bound_formed Star b h is = h
bound_formed Equals b h is = (is.slot, is.subslot)
bound_formed (Given slot None equals) b h is = (h.0, is.subslot)
bound_formed (Given slot (Some subslot) equals) b h is = h

if_formed : (t : Bool) (s : SlotPart) (b : Bind) → IsSlotForm s → IsBind b → IsSlotForm (if t then bound_slot s b else without_equals s)
if_formed true s b h is = bound_formed s b h is
if_formed false s b h is = slot_kept s h

slot_formed : (binds : List Bind) (a : AtomValue) → AreBinds binds → IsSlotForm a.slot → IsSlotForm (slot_with binds a)
slot_formed [] a are h = slot_kept a.slot h
slot_formed (b ∷ binds) a are h = if_formed (asks a) a.slot b h are.0

leaf_closed : (binds : List Bind) (a : AtomValue) → bound_alone (entered_leaf binds a) ≡ entered_leaf binds a
leaf_closed binds a = λ i. record { block = a.block; op = a.op; name = a.name; version = a.version; star = a.star; slot = slot_closed binds a i; uses = a.uses }

leaf_formed : (binds : List Bind) (a : AtomValue) → AreBinds binds → IsAtomValue a → IsAtomValue (entered_leaf binds a)
leaf_formed binds a are is = record { package_form = is.package_form; slot_form = slot_formed binds a are is.slot_form; use_forms = is.use_forms }

-- ---- trees

module _ (on : List ℕ → Bool) where
  left_by_formed : (binds : List Bind) (a : AtomValue) → AreBinds binds → AreBinds (left_by binds a)
  left_by_formed [] a are = tt
  left_by_formed (b ∷ binds) a are = binds_if (asks a) binds (b ∷ binds) are.1 are

  mutual
    left_formed : (binds : List Bind) (t : T) → AreBinds binds → AreBinds (left on binds t)
    left_formed binds (leaf a) are = left_by_formed binds a are
    left_formed binds (group opener ts) are = binds_if (lets_in on opener) (all_left on binds ts) binds (all_left_formed binds ts are) are

    all_left_formed : (binds : List Bind) (ts : AtomTrees) → AreBinds binds → AreBinds (all_left on binds ts)
    all_left_formed binds no_trees are = are
    all_left_formed binds (tree t ts) are = all_left_formed (left on binds t) ts (left_formed binds t are)

  inside_formed : (binds : List Bind) (opener : Option (Opener (List ℕ))) → AreBinds binds → AreBinds (if lets_in on opener then binds else [])
  inside_formed binds opener are = binds_if (lets_in on opener) binds [] are tt

  mutual
    tree_closed : (binds : List Bind) (t : T) → tree_bound (entered on binds t) ≡ entered on binds t
    tree_closed binds (leaf a) = ap leaf (leaf_closed binds a)
    tree_closed binds (group opener ts) = ap (group opener) (all_closed (if lets_in on opener then binds else []) ts)

    all_closed : (binds : List Bind) (ts : AtomTrees) → all_bound (all_entered on binds ts) ≡ all_entered on binds ts
    all_closed binds no_trees = refl
    all_closed binds (tree t ts) =
        ap (λ (u : T). tree u (all_bound (all_entered on (left on binds t) ts))) (tree_closed binds t)
        ∙ ap (tree (entered on binds t)) (all_closed (left on binds t) ts)

  mutual
    tree_made : (binds : List Bind) (t : T) → AreBinds binds → IsMadeOf grammar t → IsMadeOf grammar (entered on binds t)
    tree_made binds (leaf a) are is = leaf_formed binds a are is
    tree_made binds (group opener ts) are is = (is.0, all_made (if lets_in on opener then binds else []) ts (inside_formed binds opener are) is.1)

    all_made : (binds : List Bind) (ts : AtomTrees) → AreBinds binds → AreMadeOf grammar ts → AreMadeOf grammar (all_entered on binds ts)
    all_made binds no_trees are is = tt
    all_made binds (tree t ts) are is = (tree_made binds t are is.0, all_made (left on binds t) ts (left_formed binds t are) is.1)

  mutual
    tree_deep : (binds : List Bind) (t : T) → depth (entered on binds t) ≡ depth t
    tree_deep binds (leaf a) = refl
    tree_deep binds (group opener ts) = ap (λ (n : ℕ). 1 + n) (all_deep (if lets_in on opener then binds else []) ts)

    all_deep : (binds : List Bind) (ts : AtomTrees) → all_depth (all_entered on binds ts) ≡ all_depth ts
    all_deep binds no_trees = refl
    all_deep binds (tree t ts) =
        ap (λ (n : ℕ). max n (all_depth (all_entered on (left on binds t) ts))) (tree_deep binds t)
        ∙ ap (max (depth t)) (all_deep (left on binds t) ts)

  mutual
    tree_free : (binds : List Bind) (inside : Bool) (t : T) → is_free is_any_of is_block inside (entered on binds t) ≡ is_free is_any_of is_block inside t
    tree_free binds inside (leaf a) = refl
    tree_free binds inside (group opener ts) = all_free_too (if lets_in on opener then binds else []) _ ts

    all_free_too : (binds : List Bind) (inside : Bool) (ts : AtomTrees) → all_free is_any_of is_block inside (all_entered on binds ts) ≡ all_free is_any_of is_block inside ts
    all_free_too binds inside no_trees = refl
    all_free_too binds inside (tree t ts) =
        ap (λ (b : Bool). b && all_free is_any_of is_block inside (all_entered on (left on binds t) ts)) (tree_free binds inside t)
        ∙ ap (λ (b : Bool). is_free is_any_of is_block inside t && b) (all_free_too (left on binds t) inside ts)

-- in form are just atoms in groups
abbrev pub FormIsAtoms : Type 0
FormIsAtoms = (ts : AtomTrees) → IsInForm grammar is_block ts ↔ AreAtomsInGroups ts

pub entered_bound : FormIsAtoms → (on : List ℕ → Bool) (binds : List Bind) (x : Dependencies) → AllByRecursion IsBind binds → IsInForm grammar is_block x.groups → AreBound (entered_with on binds x)
entered_bound law on binds x are form =
    let atoms = (law x.groups).0 form in
    record {
      form = (law (all_entered on binds x.groups)).1 (record {
        made = all_made on binds x.groups are atoms.made;
        low = subst (λ (n : ℕ). n ≤ 64) (sym (all_deep on binds x.groups)) atoms.low;
        free = all_free_too on binds false x.groups ∙ atoms.free;
      });
      bound = λ i. record { groups = all_closed on binds x.groups i; empty_holds = x.empty_holds };
    }

-- what needs nothing enters as it is
pub entered_none : (on : List ℕ → Bool) (binds : List Bind) (ts : AtomTrees) → ts ≡ no_trees → all_entered on binds ts ≡ no_trees
entered_none on binds ts none = ap (all_entered on binds) none

-- Trees that enter, leaf by leaf and one behind another.
use Rattle.std.proofs.Common.{◌≡◌, ◌∙◌, ◌<◌, ◌≤◌, ◌+◌, ℕ, Bool, true, false, List, [], ◌∷◌, ◌++◌, length, get_or, drop, map, refl, sym, ap}
use Rattle.dep_atom.specs.Values.{AtomValue}
use Rattle.dep_atom.specs.declared.slot.Bind.{Bind}
use Rattle.dep_group.specs.Trees.{Tree, no_trees, tree, trees_of}
use Rattle.dep_group.specs.declared.token.Opener.{Opener}
use Rattle.dep_tree.specs.Texts.{AtomTrees}
use Rattle.dep_tree.specs.View.{trees_view, view}
use Rattle.dep_tree.specs.declared.tree.Node.{Node}
use Rattle.dep_tree.proofs.CopyLemmas.{trees_view-map}
use Rattle.vdb_law.specs.Fields.{without_equals}
use Rattle.plan_lives.proofs.Steps.{drop_end, trees_at}
use Rattle.plan_model.specs.Entering.{all_entered, all_left, asks, bound_slot, entered, left, left_by, slot_with}

-- a leaf that asks for none keeps no bind
pub slot_unasked : (binds : List Bind) (a : AtomValue) → asks a ≡ false → slot_with binds a ≡ without_equals a.slot
slot_unasked [] a e = refl
slot_unasked (b ∷ binds) a e = rw e refl

pub left_unasked : (binds : List Bind) (a : AtomValue) → asks a ≡ false → left_by binds a ≡ binds
left_unasked [] a e = refl
left_unasked (b ∷ binds) a e = rw e refl

-- trees before others
abbrev pub put : List (Tree (Opener (List ℕ)) AtomValue) → AtomTrees → AtomTrees
put [] ts = ts
put (x ∷ xs) ts = tree x (put xs ts)

put_more : (xs : List (Tree (Opener (List ℕ)) AtomValue)) (x : Tree (Opener (List ℕ)) AtomValue) (ts : AtomTrees) → put xs (tree x ts) ≡ put (xs ++ (x ∷ [])) ts
put_more [] x ts = refl
put_more (y ∷ xs) x ts = ap (tree y) (put_more xs x ts)

put_end : (xs : List (Tree (Opener (List ℕ)) AtomValue)) → put xs no_trees ≡ trees_of xs
put_end [] = refl
put_end (x ∷ xs) = ap (tree x) (put_end xs)

-- of the nodes the first ones have entered, and these binds are left
pub record AreEntering (on : List ℕ → Bool) (binds : List Bind) (nodes : List Node) (i : ℕ) (copies : List Node) (rest : List Bind) : Type 0 where
  pub trees_are : all_entered on binds (trees_view nodes) ≡ put (map view copies) (all_entered on rest (trees_view (drop i nodes)))
  pub left_is : all_left on binds (trees_view nodes) ≡ all_left on rest (trees_view (drop i nodes))

pub none_entered : (on : List ℕ → Bool) (binds : List Bind) (nodes : List Node) → AreEntering on binds nodes 0 [] binds
none_entered on binds nodes = record { trees_are = refl; left_is = refl }

map_push : (xs : List Node) (x : Node) → map view (xs ++ (x ∷ [])) ≡ map view xs ++ (view x ∷ [])
map_push [] x = refl
map_push (y ∷ xs) x = ap (λ (l : List _). view y ∷ l) (map_push xs x)

pub one_entered : (on : List ℕ → Bool) (binds : List Bind) (nodes : List Node) (i : ℕ) (copies : List Node) (rest behind : List Bind) (node copy : Node) → i < length nodes → node ≡ get_or nodes i node → AreEntering on binds nodes i copies rest → view copy ≡ entered on rest (view node) → behind ≡ left on rest (view node) → AreEntering on binds nodes (i + 1) (copies ++ (copy ∷ [])) behind
one_entered on binds nodes i copies rest behind node copy lt is so_far copied leaves = record {
  trees_are = so_far.trees_are
      ∙ ap (λ (ts : AtomTrees). put (map view copies) (all_entered on rest ts)) (trees_at nodes i node lt is)
      ∙ put_more (map view copies) (entered on rest (view node)) (all_entered on (left on rest (view node)) (trees_view (drop (i + 1) nodes)))
      ∙ ap (λ (x : Tree (Opener (List ℕ)) AtomValue). put (map view copies ++ (x ∷ [])) (all_entered on (left on rest (view node)) (trees_view (drop (i + 1) nodes)))) (sym copied)
      ∙ ap (λ (xs : List (Tree (Opener (List ℕ)) AtomValue)). put xs (all_entered on (left on rest (view node)) (trees_view (drop (i + 1) nodes)))) (sym (map_push copies copy))
      ∙ ap (λ (bs : List Bind). put (map view (copies ++ (copy ∷ []))) (all_entered on bs (trees_view (drop (i + 1) nodes)))) (sym leaves);
  left_is = so_far.left_is
      ∙ ap (λ (ts : AtomTrees). all_left on rest ts) (trees_at nodes i node lt is)
      ∙ ap (λ (bs : List Bind). all_left on bs (trees_view (drop (i + 1) nodes))) (sym leaves);
}

pub all_copied : (on : List ℕ → Bool) (binds : List Bind) (nodes : List Node) (i : ℕ) (copies : List Node) (rest : List Bind) → length nodes ≤ i → AreEntering on binds nodes i copies rest → trees_view copies ≡ all_entered on binds (trees_view nodes)
all_copied on binds nodes i copies rest le so_far =
    trees_view-map copies ∙ sym (put_end (map view copies))
    ∙ ap (λ (ns : List Node). put (map view copies) (all_entered on rest (trees_view ns))) (sym (drop_end nodes i le))
    ∙ sym so_far.trees_are

pub all_taken : (on : List ℕ → Bool) (binds : List Bind) (nodes : List Node) (i : ℕ) (copies : List Node) (rest : List Bind) → length nodes ≤ i → AreEntering on binds nodes i copies rest → rest ≡ all_left on binds (trees_view nodes)
all_taken on binds nodes i copies rest le so_far =
    ap (λ (ns : List Node). all_left on rest (trees_view ns)) (sym (drop_end nodes i le)) ∙ sym so_far.left_is

-- a leaf that asks takes the first bind
pub slot_asked : (b : Bind) (binds : List Bind) (a : AtomValue) → asks a ≡ true → slot_with (b ∷ binds) a ≡ bound_slot a.slot b
slot_asked b binds a e = rw e refl

pub left_asked : (b : Bind) (binds : List Bind) (a : AtomValue) → asks a ≡ true → left_by (b ∷ binds) a ≡ binds
left_asked b binds a e = rw e refl

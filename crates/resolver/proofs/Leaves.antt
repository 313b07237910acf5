-- The leaves that a search comes by, and those of the laws.
use Rattle.std.proofs.Common.{◌≡◌, ℕ, zero, suc, Bool, List, [], ◌∷◌, Option, None, Some, ap, arith, inl, inr, refl, subst, sym}
use Rattle.std.specs.Option.{option_map}
use Rattle.basics.specs.Members.{Has}
use Rattle.basics.proofs.Membership.{has-flat_map, has-flat_map_back}
use Rattle.choice_law.specs.Universe.{Filling, Universe}
use Rattle.choice_law.specs.Solutions.{IsSolution}
use Rattle.choice_law.specs.Tree.{Choice, IsGoodLeaf, IsNode, Obligation, filling, option, root}
use Rattle.choice_law.specs.Laws.{GoodLeavesAreSolutions, IsUniverse, SolutionsHaveLeaves}
use Rattle.choice_law.specs.Reasons.{Extends}
use Rattle.choice_law.proofs.Steps.{option_extends}
use Rattle.choice_tree.specs.Open.{FirstOpenIsAPick, first_open}
use Rattle.choice_tree.specs.Options.{options}
use Rattle.choice_tree.proofs.Among.{options_all, options_are}
use Rattle.choice_search.specs.Laws.{IsDeep}
use Rattle.choice_search.specs.Leaves.{Leaf, dead, first_good, good, leaves, leaves_by, leaves_within}
use Rattle.choice_search.proofs.Deep.{same_leaves}
use Rattle.choice_tree.specs.Tree.{free_lines, tree_options}
use Rattle.resolver.specs.Tree.{tree_leaves}
use Rattle.choice_tree.proofs.Smaller.{none_open, smaller, some_open}

found_has : (ls : List (Leaf Choice)) (c : Choice) → first_good ls ≡ Some c → Has ls (good c)
found_has [] c e = absurd (let bad : ◌≡◌ {A = Option Choice} None (Some c) = e in cc bad)
found_has (good d ∷ ls) c e = inl (let same : d ≡ c = (let two : ◌≡◌ {A = Option Choice} (Some d) (Some c) = e in cc two) in ap (λ (x : Choice). good x) same)
found_has (dead d ∷ ls) c e = inr (found_has ls c e)

none_has : (ls : List (Leaf Choice)) (c : Choice) → first_good ls ≡ None → ¬ Has ls (good c)
none_has [] c e h = h
none_has (good d ∷ ls) c e h = let bad : ◌≡◌ {A = Option Choice} (Some d) None = e in cc bad
none_has (dead d ∷ ls) c e (inl same) = let bad : ◌≡◌ {A = Leaf Choice} (dead d) (good c) = same in cc bad
none_has (dead d ∷ ls) c e (inr h) = none_has ls c e h

module _ (update : Bool) (u : Universe) where
  abbrev tried : Choice → Option (List Choice)
  tried = tree_options update u

  abbrev room : Choice → ℕ
  room = free_lines u

  deep : IsDeep tried room
  deep = smaller update u

  -- a good leaf, and all that a choice above it decides
  abbrev IsBelow : Choice → Choice → Type 0
  IsBelow e c = IsGoodLeaf u (first_open u) c × Extends e c

  here : (n : ℕ) (e c : Choice) → IsNode u (first_open u) e → ((d : Choice) → IsNode u (first_open u) d → Has (leaves_within tried n d) (good c) → IsBelow d c) → (x : Option (List Choice)) → tried e ≡ x → Has (leaves_by (leaves_within tried n) e x) (good c) → IsBelow e c
  here n e c node below None is (inl same) =
      let one : e ≡ c = (let two : ◌≡◌ {A = Leaf Choice} (good e) (good c) = same in cc two) in
      subst (λ (x : Choice). IsBelow e x) one (record { node = node; closed = none_open update u e is }, λ l v d. d)
  here n e c node below None is (inr h) = absurd h
  here n e c node below (Some []) is (inl same) = absurd (let bad : ◌≡◌ {A = Leaf Choice} (dead e) (good c) = same in cc bad)
  here n e c node below (Some []) is (inr h) = absurd h
  here n e c node below (Some (d ∷ ds)) is h =
      let r = has-flat_map_back (leaves_within tried n) (d ∷ ds) (good c) h in
      let o = some_open update u e (d ∷ ds) is in
      let option_is = options_are update u e o.0 r.0 (subst (λ (xs : List Choice). Has xs r.0) (sym o.2) r.1) in
      let leaf = below r.0 (option e r.0 o.0 node o.1 option_is) r.2 in
      (leaf.0, λ l v d. leaf.1 l v (option_extends u e o.0 r.0 option_is l v d))

  pub leaf_good : (n : ℕ) (e c : Choice) → IsNode u (first_open u) e → Has (leaves_within tried n e) (good c) → IsBelow e c
  leaf_good zero e c node h = absurd h
  leaf_good (suc n) e c node h = here n e c node (λ d d_node d_has. leaf_good n d c d_node d_has) (tried e) refl h

  inside : (b e : Choice) (l : Leaf Choice) (f : Choice → List (Leaf Choice)) (ds : List Choice) → Has ds e → Has (f e) l → Has (leaves_by f b (Some ds)) l
  inside b e l f [] h k = absurd h
  inside b e l f (d ∷ ds) h k = has-flat_map f (d ∷ ds) e l h k

  up : (b e : Choice) (o : Obligation) (l : Leaf Choice) → first_open u b ≡ Some o → Has (options update u b o) e → Has (leaves tried room e) l → Has (leaves tried room b) l
  up b e o l picked h k =
      let is : tried b ≡ Some (options update u b o) = ap (option_map (options update u b)) picked in
      let less = deep b e (options update u b o) is h in
      let same = same_leaves tried room deep (suc (room e)) (room b) e (omega arith) less in
      subst (λ (x : Option (List Choice)). Has (leaves_by (leaves_within tried (room b)) b x) l) (sym is)
      (inside b e l (leaves_within tried (room b)) (options update u b o) h (subst (λ (ls : List (Leaf Choice)). Has ls l) same k))

  reaches : (e : Choice) (l : Leaf Choice) → IsNode u (first_open u) e → Has (leaves tried room e) l → Has (leaves tried room []) l
  reaches e l root k = k
  reaches e l (option b d o node picked is) k = reaches b l node (up b d o l picked (options_all update u b o d is) k)

  its_leaf : (c : Choice) → IsGoodLeaf u (first_open u) c → Has (leaves tried room c) (good c)
  its_leaf c leaf =
      let none : tried c ≡ None = ap (option_map (options update u c)) leaf.closed in
      subst (λ (x : Option (List Choice)). Has (leaves_by (leaves_within tried (room c)) c x) (good c)) (sym none) (inl refl)

  pub chosen_solves : (c : Choice) → GoodLeavesAreSolutions → FirstOpenIsAPick → first_good (tree_leaves update u) ≡ Some c → IsSolution u (filling u c)
  chosen_solves c law pick e = law u (first_open u) c (pick u) (leaf_good (suc (room [])) [] c root (found_has (tree_leaves update u) c e)).0

  pub none_solves : SolutionsHaveLeaves → FirstOpenIsAPick → IsUniverse u → first_good (tree_leaves update u) ≡ None → (f : Filling) → ¬ IsSolution u f
  none_solves law pick form e f s =
      let r = law u (first_open u) f form (pick u) s in
      none_has (tree_leaves update u) r.0 e (reaches r.0 (good r.0) r.1.node (its_leaf r.0 r.1))

-- The tree that ends at hopeless choices has the first good leaf of the whole tree.
use Rattle.std.proofs.Common.{◌≡◌, ◌∙◌, ◌++◌, ℕ, zero, suc, Bool, true, false, cond, List, [], ◌∷◌, Option, None, Some, ap, inl, inr, refl, subst, sym}
use Rattle.std.specs.List.{flat_map}
use Rattle.std.specs.Option.{option_map}
use Rattle.std.proofs.lemmas.Bool.{cases_Bool}
use Rattle.basics.specs.Members.{Has}
use Rattle.basics.proofs.Membership.{has-flat_map_back}
use Rattle.choice_law.specs.Laws.{GoodLeavesAreSolutions, IsUniverse}
use Rattle.choice_law.specs.Possible.{is_hopeless}
use Rattle.choice_law.specs.Reasons.{HopelessChoicesFail, reason}
use Rattle.choice_law.specs.Tree.{Choice, IsNode, Obligation, filling, option, root}
use Rattle.choice_law.specs.Universe.{Universe}
use Rattle.choice_law.proofs.Steps.{later_allowed, option_extends}
use Rattle.choice_search.specs.Leaves.{Leaf, dead, first_good, good, leaves_by, leaves_within}
use Rattle.choice_search.proofs.Parts.{none_good}
use Rattle.choice_tree.proofs.Among.{options_are}
use Rattle.choice_tree.specs.Open.{FirstOpenIsAPick, first_open}
use Rattle.choice_tree.specs.Options.{options}
use Rattle.choice_tree.specs.Tree.{free_lines, tree_options, tried_for, tried_options}
use Rattle.resolver.specs.Tree.{tree_leaves, tried_leaves}
use Rattle.resolver.proofs.Leaves.{leaf_good}

module _ {C : Type 0} where
  abbrev or_first : Option C → Option C → Option C
  or_first None x = x
  or_first (Some c) x = Some c

  -- the first good one of two lists
  first_of_two : (ls ms : List (Leaf C)) → first_good (ls ++ ms) ≡ or_first (first_good ls) (first_good ms)
  first_of_two [] ms = refl
  first_of_two (good c ∷ ls) ms = refl
  first_of_two (dead c ∷ ls) ms = first_of_two ls ms

  -- where each has the same first good leaf below it, so have all together
  pub same_together : (f g : C → List (Leaf C)) (ds : List C) → ((d : C) → Has ds d → first_good (f d) ≡ first_good (g d)) → first_good (flat_map f ds) ≡ first_good (flat_map g ds)
  same_together f g [] same = refl
  same_together f g (d ∷ ds) same =
      first_of_two (f d) (flat_map f ds)
      ∙ (ap (λ (x : Option C). or_first x (first_good (flat_map f ds))) (same d (inl refl))
      ∙ (ap (or_first (first_good (g d))) (same_together f g ds (λ e h. same e (inr h)))
      ∙ sym (first_of_two (g d) (flat_map g ds))))

module _ (update : Bool) (u : Universe) (form : IsUniverse u) (law : GoodLeavesAreSolutions) (pick : FirstOpenIsAPick) (fail : HopelessChoicesFail) where
  abbrev whole : ℕ → Choice → List (Leaf Choice)
  whole n = leaves_within (tree_options update u) n

  abbrev ended : ℕ → Choice → List (Leaf Choice)
  ended n = leaves_within (tried_options update u) n

  abbrev IsOne : Choice → Type 0
  IsOne c = IsNode u (first_open u) c

  -- below a hopeless choice no leaf is good
  none_below : (n : ℕ) (c : Choice) (o : Obligation) → IsOne c → first_open u c ≡ Some o → is_hopeless u c o ≡ true → first_good (whole (suc n) c) ≡ None
  none_below n c o node is hopeless = none_good (whole (suc n) c) (λ g h.
      let leaf = leaf_good update u (suc n) c g node h in
      let s = law u (first_open u) g (pick u) leaf.0 in
      let all = later_allowed u c g leaf.1 in
      fail u (filling u g) c o form s ((pick u).some c o is) hopeless (λ l v in_reason d. all l v d))

  -- of a choice with these options, all of which are tried
  same_by : (n : ℕ) (c : Choice) (ds : List Choice) → ((d : Choice) → Has ds d → first_good (ended n d) ≡ first_good (whole n d)) → first_good (leaves_by (ended n) c (Some ds)) ≡ first_good (leaves_by (whole n) c (Some ds))
  same_by n c [] same = refl
  same_by n c (d ∷ ds) same = same_together (ended n) (whole n) (d ∷ ds) same

  same_here : (n : ℕ) (c : Choice) → IsOne c → ((d : Choice) → IsOne d → first_good (ended n d) ≡ first_good (whole n d)) → (x : Option Obligation) → first_open u c ≡ x → first_good (ended (suc n) c) ≡ first_good (whole (suc n) c)
  same_here n c node below None is =
      ap (λ (x : Option Obligation). first_good (leaves_by (ended n) c (option_map (tried_for update u c) x))) is
      ∙ sym (ap (λ (x : Option Obligation). first_good (leaves_by (whole n) c (option_map (options update u c) x))) is)
  same_here n c node below (Some o) is =
      let all = options update u c o in
      let shown : Bool → Option Choice = λ b. first_good (leaves_by (ended n) c (Some (cond b [] all))) in
      let here : first_good (ended (suc n) c) ≡ shown (is_hopeless u c o) =
      ap (λ (x : Option Obligation). first_good (leaves_by (ended n) c (option_map (λ p. cond (is_hopeless u c p) [] (options update u c p)) x))) is in
      elim (cases_Bool (is_hopeless u c o)) [
        | inl hopeless ↦ here ∙ (ap shown hopeless ∙ sym (none_below n c o node is hopeless))
        | inr hopes ↦ here ∙ (ap shown hopes ∙ (same_by n c all (λ d h. below d (option c d o node is (options_are update u c o d h)))
            ∙ sym (ap (λ (x : Option Obligation). first_good (leaves_by (whole n) c (option_map (options update u c) x))) is)))
      ]

  same_within : (n : ℕ) (c : Choice) → IsOne c → first_good (ended n c) ≡ first_good (whole n c)
  same_within zero c node = refl
  same_within (suc n) c node = same_here n c node (λ d d_node. same_within n d d_node) (first_open u c) refl

  pub same_first : first_good (tried_leaves update u) ≡ first_good (tree_leaves update u)
  same_first = same_within (suc (free_lines u [])) [] root

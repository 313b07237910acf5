-- When a dependency holds all through a stretch, whatever the order of the groups.
use Rattle.std.specs.Prelude.{◌≡◌, ◌⊎◌, ℕ, Bool, true, false, List, [], ◌∷◌, None, Some, ⊤}
use Rattle.std.specs.List.{list_any}
use Rattle.dep_atom.specs.Match.{value_matches}
use Rattle.dep_atom.specs.Values.{AtomValue}
use Rattle.dep_group.specs.Trees.{Tree, group, has_member, is_member, is_met, leaf, no_trees, tree}
use Rattle.dep_group.specs.declared.token.Opener.{Opener}
use Rattle.dep_group.specs.declared.token.Opener.TheVariants.{AnyOf, AtMostOne, ExactlyOne, When}
use Rattle.dep_tree.specs.Grammar.{is_block}
use Rattle.dep_tree.specs.Texts.{AtomTrees}
use Rattle.dep_tree.specs.Truth.{kind}
use Rattle.pkg_state.specs.Package.{Package}
use Rattle.plan_law.specs.Plans.{Group}
use Rattle.plan_law.specs.Lives.{IsAhead, IsLife, IsPast, Life, Precedes, Stretch}

-- one of the atoms matches the package
abbrev pub is_wanted : List AtomValue → List (List ℕ) → Package → Bool
is_wanted atoms asker p = list_any (λ a. value_matches a p.facts asker) atoms

-- a life whose package one of the atoms matches
pub record Serves (plan : List Group) (start : List Package) (atoms : List AtomValue)
    (asker : List (List ℕ)) (x : Life) : Type 0 where
  pub is : IsLife plan start x
  pub wanted : is_wanted atoms asker x.package_is ≡ true

-- lives that serve, one behind another from before the stretch on: each next one is there before
-- the one before it goes
pub data Arrives (plan : List Group) (start : List Package) (atoms : List AtomValue)
    (asker : List (List ℕ)) (s : Stretch) : Life → Type 0 where
  starts : (x : Life) → Serves plan start atoms asker x → IsPast plan s x.birth →
      Arrives plan start atoms asker s x
  follows : (x y : Life) → Arrives plan start atoms asker s x → Serves plan start atoms asker y →
      Precedes plan y.birth x.death → Arrives plan start atoms asker s y

-- such lives lead past the end of the stretch
pub record IsChained (plan : List Group) (start : List Package) (asker : List (List ℕ))
    (s : Stretch) (atoms : List AtomValue) : Type 0 where
  pub last : Life
  pub arrives : Arrives plan start atoms asker s last
  pub outlasts : IsAhead plan s last.death

-- the atoms that stand directly in a group
abbrev pub direct : AtomTrees → List AtomValue
direct no_trees = []
direct (tree (leaf a) ts) = a ∷ direct ts
direct (tree (group opener us) ts) = direct ts

-- a group without members, where such groups hold
abbrev pub HoldsEmpty : Bool → (List ℕ → Bool) → AtomTrees → Type 0
HoldsEmpty empty on ts = (empty ≡ true) × (has_member kind on ts ≡ false)

-- A tree is firm where each member that counts is: an atom that is chained, or a block, since
-- blocks are judged apart; an any-of group with a firm member, or whose own atoms are chained
-- together, or without members where such groups hold, which `empty` says.
abbrev mutual
  pub IsFirm : Bool → (List AtomValue → Type 0) → (List ℕ → Bool) →
      Tree (Opener (List ℕ)) AtomValue → Type 0
  IsFirm empty Chained on (leaf a) = is_block a ≡ false → Chained (a ∷ [])
  IsFirm empty Chained on (group None ts) = AreFirm empty Chained on ts
  IsFirm empty Chained on (group (Some AnyOf) ts) =
      HasFirm empty Chained on ts ⊎ (Chained (direct ts) ⊎ HoldsEmpty empty on ts)
  IsFirm empty Chained on (group (Some ExactlyOne) ts) = ⊥
  IsFirm empty Chained on (group (Some AtMostOne) ts) = ⊥
  IsFirm empty Chained on (group (Some (When flag wanted)) ts) =
      is_met on flag wanted ≡ true → AreFirm empty Chained on ts

  -- each of them is firm
  pub AreFirm : Bool → (List AtomValue → Type 0) → (List ℕ → Bool) → AtomTrees → Type 0
  AreFirm empty Chained on no_trees = ⊤
  AreFirm empty Chained on (tree t ts) =
      IsFirm empty Chained on t × AreFirm empty Chained on ts

  -- one of them that is a member is firm
  pub HasFirm : Bool → (List AtomValue → Type 0) → (List ℕ → Bool) → AtomTrees → Type 0
  HasFirm empty Chained on no_trees = ⊥
  HasFirm empty Chained on (tree t ts) =
      ((is_member kind on t ≡ true) × IsFirm empty Chained on t) ⊎ HasFirm empty Chained on ts

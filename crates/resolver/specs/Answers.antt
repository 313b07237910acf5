-- What the resolver answers.
use Rattle.std.specs.Prelude.{◌≡◌, ◌<◌, ◌≤◌, ℕ, Bool, List, [], None, Some, length, take, ⊤}
use Rattle.basics.specs.Members.{Has}
use Rattle.choice_law.specs.Universe.{Filling, Universe}
use Rattle.choice_law.specs.Laws.{Allows}
use Rattle.choice_law.specs.Solutions.{IsSolution}
use Rattle.choice_law.specs.Tree.{Choice, filling}
use Rattle.choice_search.specs.Jumping.{IsPart}
use Rattle.choice_search.specs.Leaves.{dead_before, first_good}
use Rattle.choice_search.specs.Visit.{visit}
use Rattle.choice_tree.specs.Tree.{tried_options}
use Rattle.resolver.specs.Tree.{tree_leaves, tree_shape, tried_leaves}
use Rattle.resolver.specs.declared.fault.ResolveFault.{ResolveFault}
use Rattle.resolver.specs.declared.fault.ResolveFault.TheVariants.{BacktrackLimit, Memory, NoSolution}

-- the tries: the hopeless choices and the dead leaves that the search meets, in their order
abbrev pub met : Bool → Universe → List Choice
met update u = (visit (tree_shape update u) []).met

-- each of these choices has something open, for which nothing is tried: it is hopeless, or has no
-- option for it
abbrev pub AreHopeless : Bool → Universe → List Choice → Type 0
AreHopeless update u cs = (c : Choice) → Has cs c → tried_options update u c ≡ Some []

-- the first good leaf of the whole tree, before which fewer tries are made than are too many
pub record IsChosen (update : Bool) (u : Universe) (limit : ℕ) (c : Choice) : Type 0 where
  pub first : first_good (tree_leaves update u) ≡ Some c
  pub early : length (met update u) < limit
  -- it is a solution, with the lines that it doesn't decide as they are
  pub solution : IsSolution u (filling u c)

-- no leaf of the whole tree is good, and the tries are fewer than are too many: these
pub record HasNone (update : Bool) (u : Universe) (limit : ℕ)
    (refuted : List Choice) : Type 0 where
  pub no_leaf : first_good (tree_leaves update u) ≡ None
  pub these : refuted ≡ met update u
  pub few : length (met update u) < limit
  pub hopeless : AreHopeless update u refuted
  -- so there is no solution
  pub no_solution : (f : Filling) → ¬ IsSolution u f

-- as many tries as are too many are made, and these are the first
pub record IsTooMany (update : Bool) (u : Universe) (limit : ℕ)
    (refuted : List Choice) : Type 0 where
  pub these : refuted ≡ take limit (met update u)
  pub many : limit ≤ length (met update u)
  -- they stand before the first good leaf of the tree that ends at hopeless choices, in this order
  pub before : IsPart (met update u) (dead_before (tried_leaves update u))
  pub hopeless : AreHopeless update u refuted
  -- no solution has all that one of them decides
  pub in_vain : (c : Choice) (f : Filling) → Has refuted c → IsSolution u f → ¬ Allows c f

abbrev pub HasCause : Bool → Universe → ℕ → ResolveFault → Type 0
HasCause update u limit (NoSolution refuted) = HasNone update u limit refuted.items
HasCause update u limit (BacktrackLimit refuted) = IsTooMany update u limit refuted.items
HasCause update u limit Memory = ⊤

-- Trees of groups over leaves of any kind, and their truth (PMS 7.3.4, 8.2.5 to 8.2.9).
use Rattle.std.specs.Prelude.{ℕ, ◌+◌, Bool, true, false, not, if◌then◌else◌, ◌||◌, ◌&&◌, ◌==◌, nat_lt, nat_le, max, List, [], ◌∷◌, ◌++◌, Option, Some, None}
use Rattle.dep_group.specs.declared.token.Opener.{Opener}
use Rattle.dep_group.specs.declared.token.Opener.TheVariants.{AnyOf, ExactlyOne, AtMostOne, When}

-- a leaf, or a group of trees, where the openers of groups are of any kind; a group with no opener
-- wants all its members
mutual
  pub data Tree (K L : Type 0) : Type 0 where
    leaf : L → Tree K L
    group : Option K → Trees K L → Tree K L

  pub data Trees (K L : Type 0) : Type 0 where
    no_trees : Trees K L
    tree : Tree K L → Trees K L → Trees K L

abbrev pub trees_of : {K L : Type 0} → List (Tree K L) → Trees K L
trees_of [] = no_trees
trees_of (t ∷ ts) = tree t (trees_of ts)

-- whether a condition is met, where `has` says which flags are on
abbrev pub is_met : {F : Type 0} → (F → Bool) → F → Bool → Bool
is_met has flag true = has flag
is_met has flag false = not (has flag)

-- a conditional group whose condition is not met is no member of the group around it
abbrev pub counts_as_member : {F : Type 0} → (F → Bool) → Opener F → Bool
counts_as_member has AnyOf = true
counts_as_member has ExactlyOne = true
counts_as_member has AtMostOne = true
counts_as_member has (When flag on) = is_met has flag on

-- the truth of a group, where `all` says whether each of its trees holds, `some` whether it has a
-- member, and `count` is how many members hold; `empty` says whether a group that wants one of its
-- members holds where it has none
abbrev pub group_holds : {F : Type 0} → Bool → (F → Bool) → Opener F → Bool → Bool → ℕ → Bool
group_holds empty has AnyOf all some count = nat_lt 0 count || (empty && not some)
group_holds empty has ExactlyOne all some count = (count == 1) || (empty && not some)
group_holds empty has AtMostOne all some count = nat_le count 1
group_holds empty has (When flag on) all some count = not (is_met has flag on) || all

-- the tree is a member of the group around it; `kind` says what an opener opens, and `has` which
-- flags are on
abbrev pub is_member : {F K L : Type 0} → (K → Opener F) → (F → Bool) → Tree K L → Bool
is_member kind has (leaf a) = true
is_member kind has (group None ts) = true
is_member kind has (group (Some opener) ts) = counts_as_member has (kind opener)

-- one of the trees is a member
abbrev pub has_member : {F K L : Type 0} → (K → Opener F) → (F → Bool) → Trees K L → Bool
has_member kind has no_trees = false
has_member kind has (tree t ts) = is_member kind has t || has_member kind has ts

-- the truth of a tree, where `fact` says which leaves hold, and `empty` whether a group that wants
-- one of its members holds where it has none
abbrev mutual
  pub holds : {F K L : Type 0} → Bool → (K → Opener F) → (L → Bool) → (F → Bool) → Tree K L → Bool
  holds empty kind fact has (leaf a) = fact a
  holds empty kind fact has (group None ts) = all_hold empty kind fact has ts
  holds empty kind fact has (group (Some opener) ts) =
      group_holds empty has (kind opener) (all_hold empty kind fact has ts)
      (has_member kind has ts) (true_members empty kind fact has ts)

  -- each of the trees holds
  pub all_hold :
      {F K L : Type 0} → Bool → (K → Opener F) → (L → Bool) → (F → Bool) → Trees K L → Bool
  all_hold empty kind fact has no_trees = true
  all_hold empty kind fact has (tree t ts) =
      holds empty kind fact has t && all_hold empty kind fact has ts

  -- how many members hold
  pub true_members :
      {F K L : Type 0} → Bool → (K → Opener F) → (L → Bool) → (F → Bool) → Trees K L → ℕ
  true_members empty kind fact has no_trees = 0
  true_members empty kind fact has (tree t ts) =
      (if is_member kind has t &&
      holds empty kind fact has t then 1 else 0) + true_members empty kind fact has ts

-- the leaves that no unmet condition excludes, in the order in which they are written
abbrev mutual
  pub leaves : {F K L : Type 0} → (K → Opener F) → (F → Bool) → Tree K L → List L
  leaves kind has (leaf a) = a ∷ []
  leaves kind has (group None ts) = all_leaves kind has ts
  leaves kind has (group (Some opener) ts) =
      if counts_as_member has (kind opener) then all_leaves kind has ts else []

  pub all_leaves : {F K L : Type 0} → (K → Opener F) → (F → Bool) → Trees K L → List L
  all_leaves kind has no_trees = []
  all_leaves kind has (tree t ts) = leaves kind has t ++ all_leaves kind has ts

-- how many groups are open at once
abbrev mutual
  pub depth : {K L : Type 0} → Tree K L → ℕ
  depth (leaf a) = 0
  depth (group opener ts) = 1 + all_depth ts

  pub all_depth : {K L : Type 0} → Trees K L → ℕ
  all_depth no_trees = 0
  all_depth (tree t ts) = max (depth t) (all_depth ts)

-- the opener of an any-of group
abbrev pub is_any_of : {F : Type 0} → Opener F → Bool
is_any_of AnyOf = true
is_any_of ExactlyOne = false
is_any_of AtMostOne = false
is_any_of (When flag on) = false

-- a group has an opener that passes the test
abbrev pub opens_any : {K : Type 0} → (K → Bool) → Option K → Bool
opens_any any_of None = false
opens_any any_of (Some opener) = any_of opener

-- no barred leaf stands inside an any-of group, at any depth; `inside` says whether the tree itself
-- stands in one
abbrev mutual
  pub is_free : {K L : Type 0} → (K → Bool) → (L → Bool) → Bool → Tree K L → Bool
  is_free any_of barred inside (leaf a) = not (inside && barred a)
  is_free any_of barred inside (group opener ts) =
      all_free any_of barred (opens_any any_of opener || inside) ts

  pub all_free : {K L : Type 0} → (K → Bool) → (L → Bool) → Bool → Trees K L → Bool
  all_free any_of barred inside no_trees = true
  all_free any_of barred inside (tree t ts) =
      is_free any_of barred inside t && all_free any_of barred inside ts

-- A code of trees, by which a proof tells packages apart: their leaves, openers and ends in a row.
use Rattle.std.specs.Prelude.{◌≡◌, ◌⊎◌, List, [], ◌∷◌, Option, refl, ⊤}
use Rattle.std.specs.Coded.{Coded, code_by, coded_list, coded_option, coded⊎}
use Rattle.dep_group.specs.Trees.{Tree, Trees, group, leaf, no_trees, tree}
use base.Stored.{coded_unit}
use mathlib.Core.Logic.{inl, inr}
use mathlib.Core.Path.{ap, ◌∙◌}

-- a leaf, the opener of a group, or its end
abbrev pub Piece : Type 0 → Type 0 → Type 0
Piece K L = L ⊎ (Option K ⊎ ⊤)

module _ {K L : Type 0} where
  abbrev mutual
    pub pieces_of : Tree K L → List (Piece K L) → List (Piece K L)
    pieces_of (leaf a) rest = inl a ∷ rest
    pieces_of (group k ts) rest = inr (inl k) ∷ all_pieces ts (inr (inr tt) ∷ rest)

    pub all_pieces : Trees K L → List (Piece K L) → List (Piece K L)
    all_pieces no_trees rest = rest
    all_pieces (tree t ts) rest = pieces_of t (all_pieces ts rest)

  -- the trees of the open groups, the innermost first, before one piece more in front
  abbrev pub before : Piece K L → List (Trees K L) → List (Trees K L)
  before (inl a) [] = []
  before (inl a) (ts ∷ open_groups) = tree (leaf a) ts ∷ open_groups
  before (inr (inl k)) [] = []
  before (inr (inl k)) (ts ∷ []) = []
  before (inr (inl k)) (ts ∷ us ∷ open_groups) = tree (group k ts) us ∷ open_groups
  before (inr (inr end)) open_groups = no_trees ∷ open_groups

  abbrev pub groups_of : List (Piece K L) → List (Trees K L)
  groups_of [] = no_trees ∷ []
  groups_of (x ∷ xs) = before x (groups_of xs)

  abbrev pub first_of : List (Trees K L) → Trees K L
  first_of [] = no_trees
  first_of (ts ∷ open_groups) = ts

  abbrev pub joined : Trees K L → Trees K L → Trees K L
  joined no_trees us = us
  joined (tree t ts) us = tree t (joined ts us)

  joined_none : (ts : Trees K L) → joined ts no_trees ≡ ts
  joined_none no_trees = refl
  joined_none (tree t ts) = ap (tree t) (joined_none ts)

  mutual
    groups_of_tree :
        (t : Tree K L) (rest : List (Piece K L)) (us : Trees K L) (gs : List (Trees K L)) →
        groups_of rest ≡ us ∷ gs → groups_of (pieces_of t rest) ≡ tree t us ∷ gs
    groups_of_tree (leaf a) rest us gs e = ap (before (inl a)) e
    groups_of_tree (group k ts) rest us gs e =
        ap (before (inr (inl k)))
        (groups_of_trees ts (inr (inr tt) ∷ rest) no_trees (us ∷ gs) (ap (λ l. no_trees ∷ l) e))
        ∙ ap (λ x. tree (group k x) us ∷ gs) (joined_none ts)

    groups_of_trees :
        (ts : Trees K L) (rest : List (Piece K L)) (us : Trees K L) (gs : List (Trees K L)) →
        groups_of rest ≡ us ∷ gs → groups_of (all_pieces ts rest) ≡ joined ts us ∷ gs
    groups_of_trees no_trees rest us gs e = e
    groups_of_trees (tree t ts) rest us gs e =
        groups_of_tree t (all_pieces ts rest) (joined ts us) gs (groups_of_trees ts rest us gs e)

  pub back_again : (ts : Trees K L) → first_of (groups_of (all_pieces ts [])) ≡ ts
  back_again ts = ap first_of (groups_of_trees ts [] no_trees [] refl) ∙ joined_none ts

  abbrev pub trees_code : Coded K → Coded L → Coded (Trees K L)
  trees_code k l =
      code_by (List (Piece K L)) (coded_list (coded⊎ l (coded⊎ (coded_option k) coded_unit)))
      (λ ts. all_pieces ts []) (λ xs. first_of (groups_of xs)) back_again

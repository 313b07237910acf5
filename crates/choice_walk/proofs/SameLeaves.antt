-- Two truths that agree on the leaves that count agree on the whole tree.
use Rattle.std.proofs.Common.{◌≡◌, ◌∙◌, ◌||◌, ◌&&◌, ◌+◌, ◌++◌, ◌==◌, ℕ, Bool, true, false, cond, not, nat_le, nat_lt, List, [], None, Some, ap, inl, refl}
use Rattle.basics.specs.Members.{Has}
use Rattle.basics.proofs.Membership.{has-append_left, has-append_right}
use Rattle.dep_atom.specs.Values.{AtomValue}
use Rattle.dep_group.specs.Trees.{Tree, Trees, all_hold, all_leaves, group, has_member, holds, is_member, is_met, leaf, leaves, no_trees, tree, true_members}
use Rattle.dep_group.specs.declared.token.Opener.{Opener}
use Rattle.dep_group.specs.declared.token.Opener.TheVariants.{AnyOf, AtMostOne, ExactlyOne, When}
use Rattle.dep_tree.specs.Truth.{kind}

module _ (empty : Bool) (on : List ℕ → Bool) (f g : AtomValue → Bool) where
  abbrev pub Agree : List AtomValue → Type 0
  Agree xs = (a : AtomValue) → Has xs a → f a ≡ g a

  agree_first : (xs ys : List AtomValue) → Agree (xs ++ ys) → Agree xs
  agree_first xs ys e a h = e a (has-append_left xs ys a h)

  agree_later : (xs ys : List AtomValue) → Agree (xs ++ ys) → Agree ys
  agree_later xs ys e a h = e a (has-append_right xs ys a h)

  where_met : (b x y : Bool) (xs : List AtomValue) → (Agree xs → x ≡ y) → Agree (cond b xs []) → (not b || x) ≡ (not b || y)
  where_met true x y xs same e = same e
  where_met false x y xs same e = refl

  mutual
    pub same_one : (t : Tree (Opener (List ℕ)) AtomValue) → Agree (leaves kind on t) → holds empty kind f on t ≡ holds empty kind g on t
    same_one (leaf a) e = e a (inl refl)
    same_one (group None ts) e = same_all ts e
    same_one (group (Some AnyOf) ts) e = ap (λ (n : ℕ). nat_lt 0 n || (empty && not (has_member kind on ts))) (same_count ts e)
    same_one (group (Some ExactlyOne) ts) e = ap (λ (n : ℕ). (n == 1) || (empty && not (has_member kind on ts))) (same_count ts e)
    same_one (group (Some AtMostOne) ts) e = ap (λ (n : ℕ). nat_le n 1) (same_count ts e)
    same_one (group (Some (When flag wanted)) ts) e =
        where_met (is_met on flag wanted) (all_hold empty kind f on ts) (all_hold empty kind g on ts) (all_leaves kind on ts) (same_all ts) e

    pub same_all : (ts : Trees (Opener (List ℕ)) AtomValue) → Agree (all_leaves kind on ts) → all_hold empty kind f on ts ≡ all_hold empty kind g on ts
    same_all no_trees e = refl
    same_all (tree t ts) e =
        ap (λ (b : Bool). b && all_hold empty kind f on ts) (same_one t (agree_first (leaves kind on t) (all_leaves kind on ts) e))
        ∙ ap (λ (b : Bool). holds empty kind g on t && b) (same_all ts (agree_later (leaves kind on t) (all_leaves kind on ts) e))

    pub same_count : (ts : Trees (Opener (List ℕ)) AtomValue) → Agree (all_leaves kind on ts) → true_members empty kind f on ts ≡ true_members empty kind g on ts
    same_count no_trees e = refl
    same_count (tree t ts) e =
        ap (λ (b : Bool). cond (is_member kind on t && b) 1 0 + true_members empty kind f on ts) (same_one t (agree_first (leaves kind on t) (all_leaves kind on ts) e))
        ∙ ap (λ (n : ℕ). cond (is_member kind on t && holds empty kind g on t) 1 0 + n) (same_count ts (agree_later (leaves kind on t) (all_leaves kind on ts) e))

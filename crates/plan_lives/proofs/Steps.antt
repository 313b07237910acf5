-- Steps that several answers of functions share.
use Rattle.std.proofs.Common.{◌≡◌, ◌⊎◌, ◌↔◌, ◌<◌, ◌≤◌, ◌∷◌, ◌+◌, ℕ, zero, suc, List, [], drop, get_or, length, inl, inr, refl, sym, ap, subst, arith, rules, ◌∙◌, Vec, Global, Some}
use Rattle.basics.proofs.Lists.{at_drop}
use Rattle.dep_tree.specs.View.{trees_view, view}
use Rattle.dep_tree.specs.declared.tree.Node.{Node}
use Rattle.dep_atom.specs.declared.atom.Atom.{Atom}
use Rattle.dep_group.specs.Trees.{group, leaf, tree}
use Rattle.dep_group.specs.declared.token.Opener.TheVariants as openers
use Rattle.dep_tree.specs.declared.tree.Node.TheFolds.{fold-roll-Node}
use Rattle.dep_tree.specs.declared.tree.Node.TheVariants as nodes
use Rattle.dep_tree.specs.declared.tree.Node.TheVariants.{rolls-AnyOf, rolls-Leaf}
use Rattle.dep_atom.specs.Values.{atom_value}
use Rattle.plan_law.specs.Lives as law
use Rattle.plan_lives.specs.Lives.{moment_of}
use Rattle.plan_lives.specs.Stretches.{IsWithin}
use Rattle.plan_lives.specs.declared.life.Moment.{Moment}
use Rattle.plan_lives.specs.declared.life.Moment.TheVariants.{Commit}

-- a group that a moment names is there
pub commit_within : (n g : ℕ) (m : Moment) → m ≡ Commit g → IsWithin n (moment_of m) → g < n
commit_within n g m e h = subst (λ (k : Moment). IsWithin n (moment_of k)) e h

-- the trees from a place on
pub trees_at : (nodes : List Node) (i : ℕ) (node : Node) → i < length nodes → node ≡ get_or nodes i node → trees_view (drop i nodes) ≡ tree (view node) (trees_view (drop (i + 1) nodes))
trees_at nodes i node lt is = ap trees_view (at_drop nodes i node lt is)

pub within_more : (n m : ℕ) → n ≤ m → (k : law.Moment) → IsWithin n k → IsWithin m k
within_more n m le law.opening h = tt
within_more n m le (law.commit g) h = omega (arith, le, h)
within_more n m le law.never h = tt

pub drop_end : {A : Type 0} (xs : List A) (i : ℕ) → length xs ≤ i → drop i xs ≡ []
drop_end [] zero le = refl
drop_end [] (suc i) le = refl
drop_end (x ∷ xs) zero le = absurd (omega (arith, le))
drop_end (x ∷ xs) (suc i) le = drop_end xs i (omega (arith, le))

pub eq_iff : {A : Type 0} (P : A → Type 0) (a b : A) → a ≡ b → P a ↔ P b
eq_iff P a b e = ((λ h. subst P e h), (λ h. subst P (sym e) h))

-- an any-of group that has members, and none of them firm, is firm where its own atoms are chained
pub any_of_firm : (F D C E : Type 0) → ¬ F → ¬ E → D ↔ C → D ↔ (F ⊎ (C ⊎ E))
any_of_firm F D C E firm members same = ((λ d. inr (inl (same.0 d))), back) where
  back : F ⊎ (C ⊎ E) → D
  back (inl f) = absurd (firm f)
  back (inr (inl h)) = same.1 h
  back (inr (inr e)) = absurd (members e)

-- what the variants of a node are seen as
pub leaf_view : (a : Atom) → view (nodes.Leaf a) ≡ leaf (atom_value a)
leaf_view a = ap view (sym (rolls-Leaf a)) ∙ search (rules, fold-roll-Node)

pub any_view : (ns : Vec Node Global) → view (nodes.AnyOf ns) ≡ group (Some openers.AnyOf) (trees_view ns.items)
any_view ns = ap view (sym (rolls-AnyOf ns)) ∙ search (rules, fold-roll-Node)

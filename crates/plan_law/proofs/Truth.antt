-- What is firm holds where each chain has one that serves.
use Rattle.std.proofs.Common.{◌≡◌, ◌||◌, ◌&&◌, ◌+◌, ◌<◌, ℕ, Bool, true, false, cond, not, nat_lt, List, [], ◌∷◌, None, Some, inl, inr, refl, ap, arith, ◌∙◌}
use Rattle.std.proofs.lemmas.Bool.{and_from, cases_Bool, or_left, or_right}
use Rattle.basics.specs.Members.{Has}
use Rattle.dep_atom.specs.Values.{AtomValue}
use Rattle.dep_group.specs.Trees.{Tree, all_hold, group, has_member, holds, is_member, is_met, leaf, no_trees, tree, true_members}
use Rattle.dep_group.specs.declared.token.Opener.{Opener}
use Rattle.dep_group.specs.declared.token.Opener.TheVariants.{AnyOf, AtMostOne, ExactlyOne, When}
use Rattle.dep_tree.specs.Grammar.{is_block}
use Rattle.dep_tree.specs.Texts.{AtomTrees}
use Rattle.dep_tree.specs.Truth.{kind}
use Rattle.plan_law.specs.Firm.{AreFirm, HasFirm, IsFirm, direct}

above_zero : (n : ℕ) → 0 < n → nat_lt 0 n ≡ true
above_zero n h = grind (arith, h)

counts : (b : Bool) (n : ℕ) → b ≡ true → 0 < cond b 1 0 + n
counts true n e = omega arith
counts false n e = absurd (cc e)

counts_more : (b : Bool) (n : ℕ) → 0 < n → 0 < cond b 1 0 + n
counts_more b n h = omega (arith, h)

-- a group without members, where such groups hold
empty_true : (empty some : Bool) → empty ≡ true → some ≡ false → (empty && not some) ≡ true
empty_true true false e n = refl
empty_true true true e n = absurd (cc n)
empty_true false some e n = absurd (cc e)

module _ (empty : Bool) (Chained : List AtomValue → Type 0) (on : List ℕ → Bool) (fact : AtomValue → Bool)
    (blocks : (a : AtomValue) → is_block a ≡ true → fact a ≡ true)
    (served : (atoms : List AtomValue) → Chained atoms → (a : AtomValue) × Has atoms a × (fact a ≡ true)) where
  of_one : (a : AtomValue) → Chained (a ∷ []) → fact a ≡ true
  of_one a c = let k = served (a ∷ []) c in
      elim k.1 [ inl e ↦ ap fact e ∙ k.2 | inr h ↦ absurd h ]

  one_true : (ts : AtomTrees) (a : AtomValue) → Has (direct ts) a → fact a ≡ true → 0 < true_members empty kind fact on ts
  one_true no_trees a h e = absurd h
  one_true (tree (leaf b) ts) a (inl same) e = counts (fact b) (true_members empty kind fact on ts) (ap fact same ∙ e)
  one_true (tree (leaf b) ts) a (inr h) e = counts_more (fact b) (true_members empty kind fact on ts) (one_true ts a h e)
  one_true (tree (group opener us) ts) a h e = counts_more (is_member kind on (group opener us) && holds empty kind fact on (group opener us)) (true_members empty kind fact on ts) (one_true ts a h e)

  -- an any-of group holds where one of its members does
  some_true : (ts : AtomTrees) → 0 < true_members empty kind fact on ts → (nat_lt 0 (true_members empty kind fact on ts) || (empty && not (has_member kind on ts))) ≡ true
  some_true ts more = or_left (nat_lt 0 (true_members empty kind fact on ts)) (empty && not (has_member kind on ts)) (above_zero (true_members empty kind fact on ts) more)

  met_or_not : (b c : Bool) → (b ≡ true → c ≡ true) → (not b || c) ≡ true
  met_or_not true c h = h refl
  met_or_not false c h = refl

  mutual
    pub firm_holds : (t : Tree (Opener (List ℕ)) AtomValue) → IsFirm empty Chained on t → holds empty kind fact on t ≡ true
    firm_holds (leaf a) f = elim (cases_Bool (is_block a)) [
      | inl e ↦ blocks a e
      | inr e ↦ of_one a (f e)
    ]
    firm_holds (group None ts) f = firm_all ts f
    firm_holds (group (Some AnyOf) ts) (inl h) = some_true ts (firm_some ts h)
    firm_holds (group (Some AnyOf) ts) (inr (inl c)) = let k = served (direct ts) c in some_true ts (one_true ts k.0 k.1 k.2)
    firm_holds (group (Some AnyOf) ts) (inr (inr e)) = or_right (nat_lt 0 (true_members empty kind fact on ts)) (empty && not (has_member kind on ts)) (empty_true empty (has_member kind on ts) e.0 e.1)
    firm_holds (group (Some ExactlyOne) ts) f = absurd f
    firm_holds (group (Some AtMostOne) ts) f = absurd f
    firm_holds (group (Some (When flag wanted)) ts) f = met_or_not (is_met on flag wanted) (all_hold empty kind fact on ts) (λ e. firm_all ts (f e))

    pub firm_all : (ts : AtomTrees) → AreFirm empty Chained on ts → all_hold empty kind fact on ts ≡ true
    firm_all no_trees f = refl
    firm_all (tree t ts) f = and_from (holds empty kind fact on t) (all_hold empty kind fact on ts) (firm_holds t f.0) (firm_all ts f.1)

    pub firm_some : (ts : AtomTrees) → HasFirm empty Chained on ts → 0 < true_members empty kind fact on ts
    firm_some no_trees f = absurd f
    firm_some (tree t ts) (inl f) = counts (is_member kind on t && holds empty kind fact on t) (true_members empty kind fact on ts) (and_from (is_member kind on t) (holds empty kind fact on t) f.0 (firm_holds t f.1))
    firm_some (tree t ts) (inr f) = counts_more (is_member kind on t && holds empty kind fact on t) (true_members empty kind fact on ts) (firm_some ts f)

-- Where dependencies hold among some packages and not among others, some leaf tells why.
use Rattle.std.proofs.Common.{◌≡◌, ◌⊎◌, ◌||◌, ◌&&◌, ◌+◌, ◌++◌, ℕ, Bool, true, false, cond, not, nat_lt, List, [], None, Some, inl, inr, refl, sym, ap, subst, arith, ◌∙◌}
use Rattle.std.proofs.lemmas.Bool.{and_cases, and_parts, cases_Bool}
use Rattle.basics.specs.Members.{Has}
use Rattle.basics.proofs.Membership.{has-append_left, has-append_right}
use Rattle.dep_atom.specs.Values.{AtomValue}
use Rattle.dep_group.specs.Trees.{Tree, Trees, all_hold, all_leaves, group, has_member, holds, is_member, is_met, leaf, leaves, no_trees, tree, true_members}
use Rattle.dep_group.specs.declared.token.Opener.{Opener}
use Rattle.dep_group.specs.declared.token.Opener.TheVariants.{AnyOf, AtMostOne, ExactlyOne, When}
use Rattle.dep_tree.specs.Truth.{kind}
use Rattle.choice_law.specs.Blame.{blamed, each_blamed, first_blamed}
use Rattle.choice_law.specs.Laws.{CountNothing, CountsNothing}

module _ (empty : Bool) (on : List ℕ → Bool) (good bad : AtomValue → Bool) where
  -- a leaf to blame, which counts, holds by the first and not by the second
  abbrev pub Tells : List AtomValue → List AtomValue → Type 0
  Tells blame counted = (a : AtomValue) × Has blame a × Has counted a × (good a ≡ true) × (bad a ≡ false)

  first_blame : (bs cs found : List AtomValue) → Tells bs found → Tells (bs ++ cs) found
  first_blame bs cs found t = (t.0, has-append_left bs cs t.0 t.1, t.2, t.3, t.4)

  later_blame : (bs cs found : List AtomValue) → Tells cs found → Tells (bs ++ cs) found
  later_blame bs cs found t = (t.0, has-append_right bs cs t.0 t.1, t.2, t.3, t.4)

  first_tells : (blame xs ys : List AtomValue) → Tells blame xs → Tells blame (xs ++ ys)
  first_tells blame xs ys t = (t.0, t.1, has-append_left xs ys t.0 t.2, t.3, t.4)

  later_tells : (blame xs ys : List AtomValue) → Tells blame ys → Tells blame (xs ++ ys)
  later_tells blame xs ys t = (t.0, t.1, has-append_right xs ys t.0 t.2, t.3, t.4)

  none_more : (b : Bool) (n : ℕ) → nat_lt 0 (cond b 1 0 + n) ≡ false → (b ≡ false) × (nat_lt 0 n ≡ false)
  none_more true n e = absurd (let some : nat_lt 0 (1 + n) ≡ true = grind arith in cc (e, some))
  none_more false n e = (refl, (let same : 0 + n ≡ n = omega arith in subst (λ (k : ℕ). nat_lt 0 k ≡ false) same e))

  one_or_more : (b : Bool) (n : ℕ) → nat_lt 0 (cond b 1 0 + n) ≡ true → (b ≡ true) ⊎ (nat_lt 0 n ≡ true)
  one_or_more true n e = inl refl
  one_or_more false n e = inr (let same : 0 + n ≡ n = omega arith in subst (λ (k : ℕ). nat_lt 0 k ≡ true) same e)

  not_met : (b x : Bool) → (not b || x) ≡ false → (b ≡ true) × (x ≡ false)
  not_met true x e = (refl, e)
  not_met false x e = absurd (cc e)

  -- what holds though nothing is empty, holds for its members
  not_empty : (x y e : Bool) → (x || e) ≡ true → (y || e) ≡ false → (x ≡ true) × (y ≡ false)
  not_empty x true e g b = absurd (cc b)
  not_empty true false e g b = (refl, refl)
  not_empty false false true g b = absurd (cc b)
  not_empty false false false g b = absurd (cc g)

  met_holds : (b x : Bool) → b ≡ true → (not b || x) ≡ true → x ≡ true
  met_holds true x m e = e
  met_holds false x m e = absurd (cc m)

  counted : (b : Bool) (blame found : List AtomValue) → b ≡ true → Tells blame found → Tells blame (cond b found [])
  counted true blame found e t = t
  counted false blame found e t = absurd (cc e)

  -- of a member the leaves to blame are among those of its group
  member_blame : (b : Bool) (blame found : List AtomValue) → b ≡ true → Tells blame found → Tells (cond b blame []) found
  member_blame true blame found e t = t
  member_blame false blame found e t = absurd (cc e)

  mutual
    pub one_tells : (t : Tree (Opener (List ℕ)) AtomValue) → CountsNothing t → holds empty kind good on t ≡ true → holds empty kind bad on t ≡ false → Tells (blamed empty kind bad on t) (leaves kind on t)
    one_tells (leaf a) form g b = (a, inl refl, inl refl, g, b)
    one_tells (group None ts) form g b = all_tell ts form g b
    one_tells (group (Some AnyOf) ts) form g b =
        let some = not_empty (nat_lt 0 (true_members empty kind good on ts)) (nat_lt 0 (true_members empty kind bad on ts)) (empty && not (has_member kind on ts)) g b in
        some_tell ts form some.0 some.1
    one_tells (group (Some ExactlyOne) ts) form g b = absurd form
    one_tells (group (Some AtMostOne) ts) form g b = absurd form
    one_tells (group (Some (When flag wanted)) ts) form g b =
        let fails = not_met (is_met on flag wanted) (all_hold empty kind bad on ts) b in
        counted (is_met on flag wanted) (first_blamed empty kind bad on ts) (all_leaves kind on ts) fails.0
        (all_tell ts form (met_holds (is_met on flag wanted) (all_hold empty kind good on ts) fails.0 g) fails.1)

    pub all_tell : (ts : Trees (Opener (List ℕ)) AtomValue) → CountNothing ts → all_hold empty kind good on ts ≡ true → all_hold empty kind bad on ts ≡ false → Tells (first_blamed empty kind bad on ts) (all_leaves kind on ts)
    all_tell no_trees form g b = absurd (cc b)
    all_tell (tree t ts) form g b =
        let both = and_parts (holds empty kind good on t) (all_hold empty kind good on ts) g in
        let own = blamed empty kind bad on t in
        let others = first_blamed empty kind bad on ts in
        let found = all_leaves kind on (tree t ts) in
        elim (cases_Bool (holds empty kind bad on t)) [
          | inl well ↦ subst (λ (x : Bool). Tells (cond x others own) found) (sym well)
              (later_tells others (leaves kind on t) (all_leaves kind on ts)
              (all_tell ts form.1 both.1 (ap (λ (x : Bool). x && all_hold empty kind bad on ts) (sym well) ∙ b)))
          | inr fails ↦ subst (λ (x : Bool). Tells (cond x others own) found) (sym fails)
              (first_tells own (leaves kind on t) (all_leaves kind on ts) (one_tells t form.0 both.0 fails))
        ]

    pub some_tell : (ts : Trees (Opener (List ℕ)) AtomValue) → CountNothing ts → nat_lt 0 (true_members empty kind good on ts) ≡ true → nat_lt 0 (true_members empty kind bad on ts) ≡ false → Tells (each_blamed empty kind bad on ts) (all_leaves kind on ts)
    some_tell no_trees form g b = absurd (cc g)
    some_tell (tree t ts) form g b =
        let none = none_more (is_member kind on t && holds empty kind bad on t) (true_members empty kind bad on ts) b in
        let own = cond (is_member kind on t) (blamed empty kind bad on t) [] in
        let others = each_blamed empty kind bad on ts in
        elim (one_or_more (is_member kind on t && holds empty kind good on t) (true_members empty kind good on ts) g) [
          | inl here ↦ (
              let both = and_parts (is_member kind on t) (holds empty kind good on t) here in
              first_blame own others (all_leaves kind on (tree t ts))
              (first_tells own (leaves kind on t) (all_leaves kind on ts) (elim (and_cases (is_member kind on t) (holds empty kind bad on t) none.0) [
                | inl out ↦ absurd (let inside = both.0 in cc (out, inside))
                | inr fails ↦ member_blame (is_member kind on t) (blamed empty kind bad on t) (leaves kind on t) both.0 (one_tells t form.0 both.1 fails)
              ])))
          | inr later ↦ later_blame own others (all_leaves kind on (tree t ts))
              (later_tells others (leaves kind on t) (all_leaves kind on ts) (some_tell ts form.1 later none.1))
        ]

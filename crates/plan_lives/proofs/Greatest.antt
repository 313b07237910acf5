-- The greatest package that stands beside a group.
use Rattle.std.proofs.Common.{◌≡◌, ◌<◌, ◌≤◌, ◌+◌, ◌∙◌, ℕ, List, [], ◌∷◌, Option, None, Some, drop, get_or, inl, inr, length, refl, subst, sym}
use Rattle.basics.proofs.Lists.{at_drop}
use Rattle.dep_atom.specs.Values.{AtomValue}
use Rattle.dep_atom.specs.declared.slot.Bind.{Bind}
use Rattle.pkg_state.specs.Package.{Package}
use Rattle.plan_law.specs.Plans.{Group}
use Rattle.plan_law.specs.Lives as law
use Rattle.plan_lives.specs.Binding.{IsBeside, IsGreatest, IsRightBind, IsSlotOf, greater}
use Rattle.plan_lives.specs.Gathered.{matching}
use Rattle.plan_lives.specs.Lives.{life_of, lives, lives_of}
use Rattle.plan_lives.specs.declared.life.Life.{Life}
use Rattle.plan_lives.proofs.Steps.{drop_end}

module _ (plan : List Group) (g : ℕ) where
  -- at most one package is the greatest
  pub greatest_once : (best : Option Package) (ys : List law.Life) (a b : Option Package) → IsGreatest plan g best ys a → IsGreatest plan g best ys b → a ≡ b
  greatest_once best [] a b h k = h ∙ sym k
  greatest_once best (y ∷ ys) a b (inl h) (inl k) = greatest_once (Some (greater best y.package_is)) ys a b h.1 k.1
  greatest_once best (y ∷ ys) a b (inl h) (inr k) = absurd (k.0 h.0)
  greatest_once best (y ∷ ys) a b (inr h) (inl k) = absurd (h.0 k.0)
  greatest_once best (y ∷ ys) a b (inr h) (inr k) = greatest_once best ys a b h.1 k.1

  -- what is the greatest with those that are left is the greatest of all
  abbrev pub Leads : List Life → ℕ → Option Package → Type 0
  Leads items i best = (found : Option Package) → IsGreatest plan g best (lives_of (drop i items)) found → IsGreatest plan g None (lives_of items) found

  module _ (items : List Life) (i : ℕ) (best : Option Package) (so_far : Leads items i best) where
    -- one more stands beside the group
    pub one_beside : (y : Life) → i < length items → y ≡ get_or items i y → IsBeside plan g (life_of y) → Leads items (i + 1) (Some (greater best (life_of y).package_is))
    one_beside y lt is beside found h = so_far found (rw (at_drop items i y lt is) (inl (beside, h)))

    -- one more doesn't
    pub one_past : (y : Life) → i < length items → y ≡ get_or items i y → ¬ IsBeside plan g (life_of y) → Leads items (i + 1) best
    one_past y lt is past found h = so_far found (rw (at_drop items i y lt is) (inr (past, h)))

    pub all_seen : length items ≤ i → IsGreatest plan g None (lives_of items) best
    all_seen le = so_far best (rw (drop_end items i le) refl)

  -- a right bind is that of whatever is the greatest
  pub right_slot : (start : List Package) (asker : List (List ℕ)) (a : AtomValue) (b : Bind) (found : Option Package) → IsGreatest plan g None (matching a asker (lives plan start)) found → IsRightBind plan start g asker a b → IsSlotOf found b
  right_slot start asker a b found is right =
      subst (λ (o : Option Package). IsSlotOf o b) (greatest_once None (matching a asker (lives plan start)) right.0 found right.1 is) right.2

-- What becomes of the parts of the hall's rule where one view is another one, or a view more.
use Rattle.std.proofs.Common.{◌≡◌, ◌+◌, ◌≤◌, ℕ, List, [], ◌∷◌, ◌++◌, Option, set, refl, sym, subst, ◌∙◌, arith}
use Rattle.std.specs.declared.snapshot.Snapshot.{Snapshot}
use mathlib.Core.Option as maybe
use mathlib.Core.Option.{none, some}
use mathlib.Core.Logic.{dite}
use native.Mathlib.Decide.{ℕ_discrete}
use lib.ListN.{get_elem?}
use Rattle.atomic_table.proofs.Lists.{at_longer, set_else, set_here}
use Rattle.basics.specs.Members.{Has}
use Rattle.merge_core.specs.Trail.{Entry}
use Rattle.site_hall.specs.Rule.{Fits, InTurn, Placed, waits}
use Rattle.site_hall.specs.Views.{IsHolding}
use Rattle.site_hall.specs.declared.views.Stage.{Stage}
use Rattle.site_hall.specs.declared.views.Stage.TheVariants.{Holding, Idle, Waiting}
use Rattle.site_hall.specs.declared.views.View.{View}
use Rattle.site_hall.proofs.Lists.{at_within, same_at}

in_turn_more : (issued served : ℕ) (now : List Entry) (out : maybe.Option ℕ) (j : ℕ) (st : Stage) → InTurn issued served now out j st → InTurn (issued + 1) served now out j st
in_turn_more issued served now out j Idle h = tt
in_turn_more issued served now out j (Waiting t) h = (h.0, let a = h.1 in omega arith)
in_turn_more issued served now out j (Holding t got) h = (h.0, (let a = h.1 in omega arith), h.2, h.3)

pub is_holding : (st : Stage) (t : ℕ) (got : List Entry) → st ≡ Holding t got → IsHolding st
is_holding st t got e = subst IsHolding (sym e) tt

pub idle_holds_none : (st : Stage) → st ≡ Idle → ¬ IsHolding st
idle_holds_none st e h = subst IsHolding e h

-- where a view that doesn't have the turn has it out of the slot
in_turn_out : (issued served : ℕ) (now : List Entry) (out : maybe.Option ℕ) (j : ℕ) (st : Stage) → ¬ IsHolding st → InTurn issued served now maybe.none j st → InTurn issued served now out j st
in_turn_out issued served now out j Idle n h = tt
in_turn_out issued served now out j (Waiting t) n h = h
in_turn_out issued served now out j (Holding t got) n h = absurd (n tt)

module _ {S : Type 0} where
  -- a view of the list has the group
  abbrev pub Owned : List (View S) → ℕ → Type 0
  Owned views g = (j : ℕ) × (v : View S) × (get_elem? views j ≡ some v) × Has v.groups g

  pub owned_set : (views : List (View S)) (i : ℕ) (v w : View S) (g : ℕ) → get_elem? views i ≡ some v → (Has v.groups g → Has w.groups g) → Owned views g → Owned (set views i w) g
  owned_set views i v w g at more o = dite (ℕ_discrete o.0 i)
      (λ same. (
        i,
        w,
        set_here views i w (at_within views i v at),
        more (subst (λ (u : View S). Has u.groups g) (same_at views i o.1 v (subst (λ (k : ℕ). get_elem? views k ≡ some o.1) same o.2) at) o.3),
      ))
      (λ other. (o.0, o.1, set_else views i o.0 w other ∙ o.2, o.3))

  pub owned_here : (views : List (View S)) (i : ℕ) (v w : View S) (g : ℕ) → get_elem? views i ≡ some v → Has w.groups g → Owned (set views i w) g
  owned_here views i v w g at has = (i, w, set_here views i w (at_within views i v at), has)

  pub owned_snoc : (views : List (View S)) (w : View S) (g : ℕ) → Owned views g → Owned (views ++ w ∷ []) g
  owned_snoc views w g o = (o.0, o.1, at_longer views (w ∷ []) o.0 o.1 o.2, o.3)

  pub fits_more : (first : Snapshot S) (issued served : ℕ) (now : List Entry) (out : maybe.Option ℕ) (j : ℕ) (v : View S) → Fits first issued served now out j v → Fits first (issued + 1) served now out j v
  fits_more first issued served now out j v f = record {
    of = f.of;
    knows = f.knows;
    standing = f.standing;
    begun = f.begun;
    turn = in_turn_more issued served now out j v.stage f.turn;
    few = f.few;
    dead = f.dead;
  }

  pub fits_out : (first : Snapshot S) (issued served : ℕ) (now : List Entry) (out : maybe.Option ℕ) (j : ℕ) (v : View S) → ¬ IsHolding v.stage → Fits first issued served now maybe.none j v → Fits first issued served now out j v
  fits_out first issued served now out j v n f = record {
    of = f.of;
    knows = f.knows;
    standing = f.standing;
    begun = f.begun;
    turn = in_turn_out issued served now out j v.stage n f.turn;
    few = f.few;
    dead = f.dead;
  }

  -- a view that fits, at another stage
  pub fits_stage : (first : Snapshot S) (issued served : ℕ) (now : List Entry) (out : maybe.Option ℕ) (j : ℕ) (v : View S) (st : Stage)
      → Fits first issued served now out j v → InTurn issued served now out j st → waits st ≤ v.parts → Fits first issued served now out j (record v { stage = st })
  fits_stage first issued served now out j v st f turn few = record {
    of = f.of;
    knows = f.knows;
    standing = f.standing;
    begun = f.begun;
    turn = turn;
    few = few;
    dead = f.dead;
  }

module _ {S : Type 0} (log : S → List Entry) (Same : S → S → Type 0) (first : Snapshot S) (now : List Entry) (homes : List (maybe.Option (Option S))) (views : List (View S)) (served : ℕ) where
  pub placed_set : (out : maybe.Option ℕ) (i : ℕ) (v w : View S) → get_elem? views i ≡ some v → (IsHolding v.stage → w.stage ≡ v.stage)
      → Placed log Same first now homes views served out → Placed log Same first now homes (set views i w) served out
  placed_set maybe.none i v w at stays p = p
  placed_set (maybe.some j) i v w at stays p = (
    p.0,
    dite (ℕ_discrete j i)
        (λ same.
        let is : p.1.0 ≡ v = same_at views i p.1.0 v (subst (λ (k : ℕ). get_elem? views k ≡ some p.1.0) same p.1.1) at in
        let holds : v.stage ≡ Holding served now = subst (λ (u : View S). u.stage ≡ Holding served now) is p.1.2 in (
          w,
          subst (λ (k : ℕ). get_elem? (set views i w) k ≡ some w) (sym same) (set_here views i w (at_within views i v at)),
          stays (is_holding v.stage served now holds) ∙ holds,
        ))
        (λ other. (p.1.0, set_else views i j w other ∙ p.1.1, p.1.2)),
  )

  pub placed_snoc : (out : maybe.Option ℕ) (w : View S) → Placed log Same first now homes views served out → Placed log Same first now homes (views ++ w ∷ []) served out
  placed_snoc maybe.none w p = p
  placed_snoc (maybe.some j) w p = (p.0, (p.1.0, at_longer views (w ∷ []) j p.1.0 p.1.1, p.1.2))

  -- the value is at home where no view has the turn
  pub is_home : (out : maybe.Option ℕ) → ((j : ℕ) (v : View S) → get_elem? views j ≡ some v → ¬ (v.stage ≡ Holding served now)) → Placed log Same first now homes views served out → out ≡ maybe.none
  is_home maybe.none nobody p = refl
  is_home (maybe.some j) nobody p = absurd (nobody j p.1.0 p.1.1 p.1.2)

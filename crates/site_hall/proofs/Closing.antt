-- What a pass with all parts knows of the value that comes out of the hall.
use Rattle.std.proofs.Common.{◌≡◌, ◌⊎◌, ◌≢◌, ◌<◌, ℕ, false, List, [], ◌∷◌, Option, Some, inl, inr, sym, ap, subst, ◌∙◌, arith, ⊎_elim}
use mathlib.Core.Option as maybe
use mathlib.Core.Option.{none, some, some-injective, some-ne-none}
use mathlib.Core.Logic.{dite}
use native.Mathlib.Decide.{ℕ_discrete}
use lib.ListN.{get_elem?}
use Rattle.basics.specs.Members.{Has}
use Rattle.merge_core.specs.Trail.{Entry}
use Rattle.site_hall.specs.declared.views.About.{About}
use Rattle.site_hall.specs.declared.views.Stage.TheVariants.{Holding, Idle}
use Rattle.site_hall.specs.declared.views.View.{View}
use Rattle.atomic_table.specs.Table.{Final, Seen, State}
use Rattle.site_hall.specs.Events.{IsCalm, events_of}
use Rattle.site_hall.specs.Rule.{Kept, Placed, parts_of, waits}
use Rattle.site_hall.specs.Views.{IsHolding, GoesOnFrom}
use Rattle.site_hall.proofs.Fitting.{idle_holds_none, is_holding, is_home}
use Rattle.std.proofs.lemmas.Option.{same_Some}
use Rattle.site_hall.proofs.Lists.{same_at, total_two}
use Rattle.site_hall.proofs.Looking.{goes_on_now}

module _ {S : Type 0} (log : S → List Entry) (Same : S → S → Type 0) (about : About S) (id : ℕ) (v : View S)
    (idle : v.stage ≡ Idle) (some_part : 0 < v.parts) (all : v.parts ≡ about.parts) where
  module _ (s : State (Option S) (View S)) (k : Kept log Same about s) (at : get_elem? s.views id ≡ some v) where
    no_part : (j : ℕ) (u : View S) → j ≢ id → get_elem? s.views j ≡ some u → u.parts ≡ 0
    no_part j u other here = let t = total_two parts_of s.views j id u v other here at in let p = k.parts in omega arith

    nobody : (j : ℕ) (u : View S) → get_elem? s.views j ≡ some u → ¬ (u.stage ≡ Holding k.served k.now)
    nobody j u here holds = dite (ℕ_discrete j id)
        (λ same.
        let is : u ≡ v = same_at s.views id u v (subst (λ (n : ℕ). get_elem? s.views n ≡ some u) same here) at in
        idle_holds_none v.stage idle (subst (λ (y : View S). IsHolding y.stage) is (is_holding u.stage k.served k.now holds)))
        (λ other.
        let few = (k.each j u here).few in
        let none_left = no_part j u other here in
        let one : waits u.stage ≡ 1 = ap waits holds in
        absurd (omega arith))

    pub at_home : (x : S) × (s.homes ≡ some (Some x) ∷ []) × (log x ≡ k.now) × Same x about.first.value
    at_home = subst (λ (o : maybe.Option ℕ). Placed log Same about.first k.now s.homes s.views k.served o)
        (is_home log Same about.first k.now s.homes s.views k.served k.out nobody k.placed)
        k.placed

    owner : (g : ℕ) → (events_of g k.now ≡ []) ⊎ Has v.groups g
    owner g = ⊎_elim
        (λ e. inl e)
        (λ o. dite (ℕ_discrete o.0 id)
        (λ same. inr (subst (λ (u : View S). Has u.groups g) (same_at s.views id o.1 v (subst (λ (n : ℕ). get_elem? s.views n ≡ some o.1) same o.2) at) o.3))
        (λ other. absurd (subst (λ (l : List ℕ). Has l g) ((k.each o.0 o.1 o.2).dead (no_part o.0 o.1 other o.2)) o.3)))
        (k.covers g)

  -- what is known of the value that was in the slot
  pub record Leaves (value : S) : Type 0 where
    pub same : Same value about.first.value
    pub goes_on : GoesOnFrom v (log value)
    pub others : (g : ℕ) → (events_of g (log value) ≡ []) ⊎ Has v.groups g
    pub calm : about.keep_going ≡ false → IsCalm (log value)

  pub leaves : (ws : List ℕ) (xs : List (Option S)) → Final (Seen (Kept log Same about) id v) ws xs → (x : S) × (get_elem? xs 0 ≡ some (Some x)) × Leaves x
  leaves ws xs final =
      let s = final.0 in
      let k = final.1.0 in
      let at = final.1.1 in
      let p = at_home s k at in
      let f = k.each id v at in (
        p.0,
        final.4 0 (Some p.0) (ap (λ (hs : List (maybe.Option (Option S))). get_elem? hs 0) p.1),
        record {
          same = p.3;
          goes_on = goes_on_now v k.now (log p.0) p.2 f.knows f.standing;
          others = λ g. ⊎_elim (λ e. inl (ap (λ l. events_of g l) p.2 ∙ e)) (λ h. inr h) (owner s k at g);
          calm = λ stops. subst (λ l. IsCalm l) (sym p.2) (k.calm stops);
        },
      )

  -- the slot is not empty
  pub leaves_some : (ws : List ℕ) (xs : List (Option S)) → Final (Seen (Kept log Same about) id v) ws xs → (o : Option S) → get_elem? xs 0 ≡ some o → (x : S) × (o ≡ Some x)
  leaves_some ws xs final o is = let left = leaves ws xs final in (left.0, some-injective o (Some left.0) (sym is ∙ left.1))

  pub leaves_this : (ws : List ℕ) (xs : List (Option S)) → Final (Seen (Kept log Same about) id v) ws xs → (y : S) → get_elem? xs 0 ≡ some (Some y) → Leaves y
  leaves_this ws xs final y is =
      let left = leaves ws xs final in
      subst (λ (x : S). Leaves x) (same_Some left.0 y (some-injective (Some left.0) (Some y) (sym left.1 ∙ is))) left.2

-- A pass takes another in: the step keeps the rule.
use Rattle.std.proofs.Common.{◌≡◌, ◌<◌, ℕ, List, Option, set, inl, inr, refl, sym, ap, subst, ◌∙◌, arith, ⊎_elim}
use mathlib.Core.Option.{some}
use mathlib.Core.Logic.{dite}
use native.Mathlib.Decide.{ℕ_discrete}
use lib.ListN.{get_elem?}
use Rattle.basics.specs.Members.{Has}
use Rattle.merge_core.specs.Trail.{Entry}
use Rattle.site_hall.specs.declared.views.About.{About}
use Rattle.site_hall.specs.declared.views.Stage.TheVariants.{Idle}
use Rattle.site_hall.specs.declared.views.View.{View}
use Rattle.atomic_table.specs.Table.{Joins, State}
use Rattle.atomic_table.proofs.Lists.{at_set, set_else, set_here}
use Rattle.basics.proofs.Membership.{has-append_cases, has-append_left, has-append_right}
use Rattle.site_hall.specs.Rule.{Fits, HasGroup, HasTicket, Kept, parts_of, tickets_of, waits}
use Rattle.site_hall.specs.Views.{joined, spent}
use Rattle.site_hall.proofs.Fitting.{Owned, idle_holds_none, placed_set}
use Rattle.site_hall.proofs.Histories.{knows_longer}
use Rattle.site_hall.proofs.Lists.{apart_join, at_within, same_at, total_set}

module _ {S : Type 0} (log : S → List Entry) (Same : S → S → Type 0) (about : About S) (id : ℕ) (v : View S) (other : ℕ) (w : View S)
    (idle : v.stage ≡ Idle) (other_idle : w.stage ≡ Idle) (some_part : 0 < v.parts) where
  module _ (s : State (Option S) (View S)) (k : Kept log Same about s) (at : get_elem? s.views id ≡ some v) (apart : ¬ (other ≡ id)) (at_then : get_elem? (set s.views id (joined v w)) other ≡ some w) where
    at_other : get_elem? s.views other ≡ some w
    at_other = sym (set_else s.views id other (joined v w) apart) ∙ at_then

    abbrev taking : List (View S)
    taking = set s.views id (joined v w)

    abbrev views : List (View S)
    views = set taking other spent

    fits_spent : (j : ℕ) → Fits about.first k.issued k.served k.now k.out j spent
    fits_spent j = record {
      of = λ no_part. absurd (omega arith);
      knows = (k.now, refl, λ g has. absurd has);
      standing = λ g es st. absurd st;
      begun = λ g has. absurd has;
      turn = tt;
      few = omega arith;
      dead = λ no_part. refl;
    }

    fits_both : (j : ℕ) → Fits about.first k.issued k.served k.now k.out j v → Fits about.first k.issued k.served k.now k.out other w → Fits about.first k.issued k.served k.now k.out j (joined v w)
    fits_both j f h = record {
      of = λ _. f.of some_part;
      knows = knows_longer v.groups w.groups v.seen w.seen k.now f.knows h.knows;
      standing = λ g es st. ⊎_elim
          (λ mine. let r = f.standing g es mine in (has-append_left v.groups w.groups g r.0, r.1))
          (λ theirs. let r = h.standing g es theirs in (has-append_right v.groups w.groups g r.0, r.1))
          (has-append_cases v.known w.known (g, es) st);
      begun = λ g has. ⊎_elim (λ mine. f.begun g mine) (λ theirs. h.begun g theirs) (has-append_cases v.groups w.groups g has);
      turn = f.turn;
      few = (let a = f.few in omega arith);
      dead = λ no_part. absurd (omega arith);
    }

    each_fits : (j : ℕ) (u : View S) → get_elem? views j ≡ some u → Fits about.first k.issued k.served k.now k.out j u
    each_fits j u here = ⊎_elim
        (λ t. subst (λ (y : View S). Fits about.first k.issued k.served k.now k.out j y) t.1 (fits_spent j))
        (λ t. ⊎_elim
        (λ q. subst (λ (y : View S). Fits about.first k.issued k.served k.now k.out j y) q.1
        (fits_both j (k.each j v (subst (λ (n : ℕ). get_elem? s.views n ≡ some v) (sym q.0) at)) (k.each other w at_other)))
        (λ q. k.each j u q.1)
        (at_set s.views id j (joined v w) u t.1))
        (at_set taking other j spent u here)

    both_at : get_elem? views id ≡ some (joined v w)
    both_at = set_else taking other id spent (λ e. apart (sym e)) ∙ set_here s.views id (joined v w) (at_within s.views id v at)

    covered : (g : ℕ) → Owned s.views g → Owned views g
    covered g o = dite (ℕ_discrete o.0 id)
        (λ here. (
          id,
          joined v w,
          both_at,
          has-append_left v.groups w.groups g
              (subst (λ (u : View S). Has u.groups g) (same_at s.views id o.1 v (subst (λ (n : ℕ). get_elem? s.views n ≡ some o.1) here o.2) at) o.3),
        ))
        (λ not_here. dite (ℕ_discrete o.0 other)
        (λ there. (
          id,
          joined v w,
          both_at,
          has-append_right v.groups w.groups g
              (subst (λ (u : View S). Has u.groups g) (same_at s.views other o.1 w (subst (λ (n : ℕ). get_elem? s.views n ≡ some o.1) there o.2) at_other) o.3),
        ))
        (λ not_there. (o.0, o.1, set_else taking other o.0 spent not_there ∙ (set_else s.views id o.0 (joined v w) not_here ∙ o.2), o.3)))

    joins_two : Kept log Same about (record { words = s.words; homes = s.homes; views = views })
    joins_two = record {
      issued = k.issued;
      served = k.served;
      now = k.now;
      out = k.out;
      words = k.words;
      placed = placed_set log Same about.first k.now s.homes taking k.served k.out other w spent at_then (λ h. absurd (idle_holds_none w.stage other_idle h))
          (placed_set log Same about.first k.now s.homes s.views k.served k.out id v (joined v w) at (λ _. refl) k.placed);
      each = each_fits;
      small = k.small;
      parts = (let t = total_set parts_of s.views id v (joined v w) at in let u = total_set parts_of taking other w spent at_then in let p = k.parts in omega arith);
      tickets = (let t = total_set tickets_of s.views id v (joined v w) at in let u = total_set tickets_of taking other w spent at_then in let none_yet : waits w.stage ≡ 0 = ap waits other_idle in let p = k.tickets in omega arith);
      tickets_apart = apart_join HasTicket s.views id other v w (joined v w) spent at at_other apart k.tickets_apart (λ x h. inl h) (λ x h. h);
      groups_apart = apart_join HasGroup s.views id other v w (joined v w) spent at at_other apart k.groups_apart (λ x h. has-append_cases v.groups w.groups x h) (λ x h. h);
      covers = λ g. ⊎_elim (λ e. inl e) (λ o. inr (covered g o)) (k.covers g);
      calm = k.calm;
    }

  pub joins_keep : Joins (Kept log Same about) id v other w (joined v w) spent
  joins_keep s k at apart at_then = joins_two s k at apart at_then

-- A part of a pass goes to a new one: the step keeps the rule.
use Rattle.std.proofs.Common.{◌≡◌, ◌≤◌, ◌<◌, ℕ, List, [], ◌∷◌, ◌++◌, Option, set, inl, inr, refl, sym, subst, arith, ⊎_elim}
use mathlib.Core.Option.{some}
use lib.ListN.{get_elem?}
use Rattle.merge_core.specs.Trail.{Entry}
use Rattle.site_hall.specs.declared.views.About.{About}
use Rattle.site_hall.specs.declared.views.Stage.{Stage}
use Rattle.site_hall.specs.declared.views.Stage.TheVariants.{Holding, Idle, Waiting}
use Rattle.site_hall.specs.declared.views.View.{View}
use Rattle.atomic_table.specs.Table.{Splits, State}
use Rattle.atomic_table.proofs.Lists.{at_set, at_snoc}
use Rattle.site_hall.specs.Rule.{Fits, HasGroup, HasTicket, Kept, parts_of, tickets_of, waits}
use Rattle.site_hall.specs.Views.{given_part, kept_part}
use Rattle.site_hall.proofs.Fitting.{owned_set, owned_snoc, placed_set, placed_snoc}
use Rattle.site_hall.proofs.Lists.{apart_set, apart_snoc, total_set, total_snoc}

-- no pass has two tickets
one_ticket : (st : Stage) → waits st ≤ 1
one_ticket Idle = omega arith
one_ticket (Waiting t) = omega arith
one_ticket (Holding t got) = omega arith

module _ {S : Type 0} (log : S → List Entry) (Same : S → S → Type 0) (about : About S) (id : ℕ) (v : View S) (two_parts : 1 < v.parts) where
  module _ (s : State (Option S) (View S)) (k : Kept log Same about s) (at : get_elem? s.views id ≡ some v) where
    fits_left : (j : ℕ) → Fits about.first k.issued k.served k.now k.out j v → Fits about.first k.issued k.served k.now k.out j (kept_part v)
    fits_left j f = record {
      of = λ _. f.of (omega arith);
      knows = f.knows;
      standing = f.standing;
      begun = f.begun;
      turn = f.turn;
      few = (let h = one_ticket v.stage in omega arith);
      dead = λ no_part. absurd (omega arith);
    }

    fits_given : (j : ℕ) → Fits about.first k.issued k.served k.now k.out j (given_part v)
    fits_given j = let f = k.each id v at in record {
      of = λ _. f.of (omega arith);
      knows = (f.knows.0, f.knows.1, λ g has. absurd has);
      standing = λ g es st. absurd st;
      begun = λ g has. absurd has;
      turn = tt;
      few = omega arith;
      dead = λ no_part. refl;
    }

    abbrev left_views : List (View S)
    left_views = set s.views id (kept_part v)

    each_fits : (j : ℕ) (u : View S) → get_elem? (left_views ++ given_part v ∷ []) j ≡ some u → Fits about.first k.issued k.served k.now k.out j u
    each_fits j u here = ⊎_elim
        (λ t. ⊎_elim
        (λ q. subst (λ (y : View S). Fits about.first k.issued k.served k.now k.out j y) q.1
        (fits_left j (k.each j v (subst (λ (n : ℕ). get_elem? s.views n ≡ some v) (sym q.0) at))))
        (λ q. k.each j u q.1)
        (at_set s.views id j (kept_part v) u t))
        (λ t. subst (λ (y : View S). Fits about.first k.issued k.served k.now k.out j y) t (fits_given j))
        (at_snoc left_views (given_part v) u j here)

    splits_one : Kept log Same about (record { words = s.words; homes = s.homes; views = left_views ++ given_part v ∷ [] })
    splits_one = record {
      issued = k.issued;
      served = k.served;
      now = k.now;
      out = k.out;
      words = k.words;
      placed = placed_snoc log Same about.first k.now s.homes left_views k.served k.out (given_part v)
          (placed_set log Same about.first k.now s.homes s.views k.served k.out id v (kept_part v) at (λ _. refl) k.placed);
      each = each_fits;
      small = k.small;
      parts = (let t = total_set parts_of s.views id v (kept_part v) at in let u = total_snoc parts_of left_views (given_part v) in let p = k.parts in omega arith);
      tickets = (let t = total_set tickets_of s.views id v (kept_part v) at in let u = total_snoc tickets_of left_views (given_part v) in let p = k.tickets in omega arith);
      tickets_apart = apart_snoc HasTicket left_views (given_part v) (apart_set HasTicket s.views id v (kept_part v) at k.tickets_apart (λ x h. inl h)) (λ x h. h);
      groups_apart = apart_snoc HasGroup left_views (given_part v) (apart_set HasGroup s.views id v (kept_part v) at k.groups_apart (λ x h. inl h)) (λ x h. h);
      covers = λ g. ⊎_elim (λ e. inl e) (λ o. inr (owned_snoc left_views (given_part v) g (owned_set s.views id v (kept_part v) g at (λ h. h) o))) (k.covers g);
      calm = k.calm;
    }

  pub splits_keep : Splits (Kept log Same about) id v (kept_part v) (given_part v)
  splits_keep s k at = splits_one s k at

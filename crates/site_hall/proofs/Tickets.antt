-- A ticket is taken: the step keeps the rule.
use Rattle.std.proofs.Common.{◌≡◌, ◌⊎◌, ◌+◌, ◌<◌, ◌%◌, ◌^◌, ℕ, List, [], ◌∷◌, Option, get_or, set, inl, inr, refl, sym, ap, subst, ◌∙◌, arith, ⊎_elim}
use mathlib.Core.Option as maybe
use mathlib.Core.Option.{none, some}
use lib.ListN.{get_elem?}
use Rattle.atomic_table.specs.Table.{Allows, State, keeps, step, stepped}
use Rattle.atomic_table.proofs.Lists.{at_set}
use Rattle.merge_core.specs.Trail.{Entry}
use Rattle.site_hall.specs.Rule.{Fits, HasGroup, HasTicket, InTurn, IsTicket, Kept, parts_of, tickets_of, waits}
use Rattle.site_hall.specs.Steps.{Seated, took, waiting}
use Rattle.site_hall.specs.declared.views.About.{About}
use Rattle.site_hall.specs.declared.views.Stage.{Stage}
use Rattle.site_hall.specs.declared.views.Stage.TheVariants.{Holding, Idle, Waiting}
use Rattle.site_hall.specs.declared.views.View.{View}
use Rattle.site_hall.proofs.Fitting.{fits_more, fits_stage, idle_holds_none, owned_set, placed_set}
use Rattle.site_hall.proofs.Lists.{apart_set, total_set, next_word}

-- the ticket of a view is below the next one
ticket_below : (issued served : ℕ) (now : List Entry) (out : maybe.Option ℕ) (j : ℕ) (st : Stage) (x : ℕ) → InTurn issued served now out j st → IsTicket st x → x < issued
ticket_below issued served now out j Idle x h is = absurd is
ticket_below issued served now out j (Waiting t) x h is = let a = h.1 in omega arith
ticket_below issued served now out j (Holding t got) x h is = let a = h.1 in omega arith

module _ {S : Type 0} (log : S → List Entry) (Same : S → S → Type 0) (about : About S) where
  module _ (s : State (Option S) (View S)) (k : Kept log Same about s) (id : ℕ) (v : View S) (at : get_elem? s.views id ≡ some v) (idle : v.stage ≡ Idle) (some_part : 0 < v.parts) where
    fresh : (x : ℕ) → HasTicket (waiting k.issued v) x → HasTicket v x ⊎ ((j : ℕ) (u : View S) → get_elem? s.views j ≡ some u → HasTicket u x → j ≡ id)
    fresh x is = inr (λ j u here has. let h = ticket_below k.issued k.served k.now k.out j u.stage x (k.each j u here).turn has in absurd (omega arith))

    each_fits : (j : ℕ) (u : View S) → get_elem? (set s.views id (waiting k.issued v)) j ≡ some u → Fits about.first (k.issued + 1) k.served k.now k.out j u
    each_fits j u here = ⊎_elim
        (λ t. subst (λ (x : View S). Fits about.first (k.issued + 1) k.served k.now k.out j x) t.1
        (fits_stage about.first (k.issued + 1) k.served k.now k.out j v (Waiting k.issued)
        (fits_more about.first k.issued k.served k.now k.out j v (k.each j v (subst (λ (n : ℕ). get_elem? s.views n ≡ some v) (sym t.0) at)))
        ((let h = k.tickets in omega arith), omega arith)
        (omega arith)))
        (λ t. fits_more about.first k.issued k.served k.now k.out j u (k.each j u t.1))
        (at_set s.views id j (waiting k.issued v) u here)

    pub took_keeps : Kept log Same about (stepped s 0 ((get_or s.words 0 0 + 1) % 18446744073709551616) id [] (waiting k.issued v) keeps)
    took_keeps = record {
      issued = k.issued + 1;
      served = k.served;
      now = k.now;
      out = k.out;
      words = ap (λ (l : List ℕ). set l 0 ((get_or l 0 0 + 1) % 18446744073709551616)) k.words ∙ ap (λ (n : ℕ). n ∷ k.served % 18446744073709551616 ∷ []) (next_word k.issued);
      placed = placed_set log Same about.first k.now s.homes s.views k.served k.out id v (waiting k.issued v) at (λ h. absurd (idle_holds_none v.stage idle h)) k.placed;
      each = each_fits;
      small = k.small;
      parts = (let t = total_set parts_of s.views id v (waiting k.issued v) at in let p = k.parts in omega arith);
      tickets = (let t = total_set tickets_of s.views id v (waiting k.issued v) at in let none_yet : waits v.stage ≡ 0 = ap waits idle in let p = k.tickets in omega arith);
      tickets_apart = apart_set HasTicket s.views id v (waiting k.issued v) at k.tickets_apart fresh;
      groups_apart = apart_set HasGroup s.views id v (waiting k.issued v) at k.groups_apart (λ x h. inl h);
      covers = λ g. ⊎_elim (λ e. inl e) (λ o. inr (owned_set s.views id v (waiting k.issued v) g at (λ h. h) o)) (k.covers g);
      calm = k.calm;
    }

  pub tickets_allow : (slots id : ℕ) (me : Seated S) → me.0.stage ≡ Idle → 0 < me.0.parts
      → Allows (Kept log Same about) slots id me 0 (λ n. (n + 1) % 2 ^ 64) (took (step slots 0 1 0 none) me)
  tickets_allow slots id me idle some_part s k _ at small = (
    waiting k.issued me.0,
    keeps,
    tt,
    took_keeps s k id me.0 at idle some_part,
    (k.issued, refl, ap (λ (l : List ℕ). get_or l 0 0) k.words),
  )

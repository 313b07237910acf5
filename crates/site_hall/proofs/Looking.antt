-- The serving word is read: where it is the pass's ticket, the turn and the value are the pass's.
use Rattle.std.proofs.Common.{◌≡◌, ◌≤◌, ◌<◌, ◌%◌, ◌^◌, ℕ, List, [], ◌∷◌, Option, Some, get_or, set, inl, inr, refl, sym, ap, subst, ◌∙◌, arith, ⊎_elim}
use Rattle.std.specs.Prelude.{IfSome}
use Rattle.std.specs.declared.snapshot.Snapshot.{Snapshot}
use mathlib.Core.Option as maybe
use mathlib.Core.Option.{none, some}
use mathlib.Core.Logic.{dite}
use native.Mathlib.Decide.{ℕ_discrete}
use lib.ListN.{get_elem?}
use Rattle.atomic_table.specs.Table.{Allows, State, keeps, step, stepped, takes}
use Rattle.atomic_table.proofs.Lists.{at_set, one_turn, set_again, set_here}
use Rattle.basics.specs.Members.{Has}
use Rattle.merge_core.specs.Trail.{Entry}
use Rattle.site_hall.specs.Events.{Knows, events_of}
use Rattle.site_hall.specs.Rule.{Fits, HasGroup, HasTicket, InTurn, IsTicket, Kept, Placed, parts_of, tickets_of, total, waits}
use Rattle.site_hall.specs.Steps.{Seated, holding, looked, waiting}
use Rattle.site_hall.specs.Views.{IsHolding, IsWaiting, Stands, GoesOnFrom, ticket_of}
use Rattle.site_hall.specs.declared.views.About.{About}
use Rattle.site_hall.specs.declared.views.Stage.{Stage}
use Rattle.site_hall.specs.declared.views.Stage.TheVariants.{Holding, Idle, Waiting}
use Rattle.site_hall.specs.declared.views.View.{View}
use Rattle.site_hall.proofs.Fitting.{fits_out, fits_stage, is_holding, is_home, owned_set}
use Rattle.site_hall.proofs.Lists.{apart_set, at_within, same_at, total_below, total_set}

waiting_has : (st : Stage) → IsWaiting st → IsTicket st (ticket_of st)
waiting_has Idle h = h
waiting_has (Waiting t) h = refl
waiting_has (Holding t got) h = absurd h

waiting_in : (issued served : ℕ) (now : List Entry) (out : maybe.Option ℕ) (j : ℕ) (st : Stage) → IsWaiting st → InTurn issued served now out j st → (served ≤ ticket_of st) × (ticket_of st < issued)
waiting_in issued served now out j Idle w h = absurd w
waiting_in issued served now out j (Waiting t) w h = h
waiting_in issued served now out j (Holding t got) w h = absurd w

waiting_once : (st : Stage) → IsWaiting st → waits st ≡ 1
waiting_once Idle w = absurd w
waiting_once (Waiting t) w = refl
waiting_once (Holding t got) w = absurd w

waiting_not : (st : Stage) → IsWaiting st → ¬ IsHolding st
waiting_not Idle w h = h
waiting_not (Waiting t) w h = h
waiting_not (Holding t got) w h = w

-- in its turn, or not: only the one with the ticket that is served has it
not_holding : (issued served : ℕ) (now : List Entry) (j : ℕ) (st : Stage) → InTurn issued served now maybe.none j st → ¬ IsHolding st
not_holding issued served now j Idle h is = is
not_holding issued served now j (Waiting t) h is = is
not_holding issued served now j (Holding t got) h is = absurd (maybe.some-ne-none j (sym h.3))

pub goes_on_now : {S : Type 0} (v : View S) (now log : List Entry) → log ≡ now → Knows v.groups v.seen now
    → ((g : ℕ) (es : List Entry) → Stands g es v.known → Has v.groups g × (events_of g now ≡ es)) → GoesOnFrom v log
unfolding GoesOnFrom
goes_on_now v now log is k h = record {
  rest = k.0;
  begins = is ∙ k.1;
  quiet = k.2;
  same = λ g es st. ap (λ l. events_of g l) is ∙ (h g es st).1;
}

-- what goes on from a pass that waits goes on from what it knew before
pub goes_on_before : {S : Type 0} (v w : View S) (t : ℕ) (l m : List Entry) → w ≡ waiting t v → l ≡ m → GoesOnFrom w l → GoesOnFrom v m
unfolding GoesOnFrom
goes_on_before {S} v w t l m is same on = subst (λ (n : List Entry). GoesOnFrom v n) same (subst (λ (u : View S). GoesOnFrom u l) is on)

module _ {S : Type 0} (log : S → List Entry) (Same : S → S → Type 0) (about : About S) where
  module _ (s : State (Option S) (View S)) (k : Kept log Same about s) (id : ℕ) (v : View S) (at : get_elem? s.views id ≡ some v) (is_waiting : IsWaiting v.stage) where
    -- nothing changes
    pub stays : Kept log Same about (stepped s 1 (get_or s.words 1 0) id [] v keeps)
    stays = subst (λ (vs : List (View S)). Kept log Same about (record { words = set s.words 1 (get_or s.words 1 0); homes = s.homes; views = vs }))
        (sym (set_again s.views id v at))
        (record {
          issued = k.issued;
          served = k.served;
          now = k.now;
          out = k.out;
          words = ap (λ (l : List ℕ). set l 1 (get_or l 1 0)) k.words;
          placed = k.placed;
          each = k.each;
          small = k.small;
          parts = k.parts;
          tickets = k.tickets;
          tickets_apart = k.tickets_apart;
          groups_apart = k.groups_apart;
          covers = k.covers;
          calm = k.calm;
        })

    few_tickets : total tickets_of s.views ≤ total parts_of s.views
    few_tickets = total_below tickets_of parts_of s.views (λ i u here. (k.each i u here).few)

    -- the word that is served is the remainder of the ticket, so it is the ticket
    serves : get_or s.words 1 0 ≡ ticket_of v.stage % 2 ^ 64 → k.served ≡ ticket_of v.stage
    serves found =
        let turn = waiting_in k.issued k.served k.now k.out id v.stage is_waiting (k.each id v at).turn in
        let few = few_tickets in
        let all = k.parts in
        let small = k.small in
        let issued = k.tickets in
        let low = turn.0 in
        let high = turn.1 in
        one_turn k.served (ticket_of v.stage) (2 ^ 64) turn.0 (omega arith) (sym (ap (λ (l : List ℕ). get_or l 1 0) k.words) ∙ found)

    module _ (served : k.served ≡ ticket_of v.stage) where
      nobody : (j : ℕ) (u : View S) → get_elem? s.views j ≡ some u → ¬ (u.stage ≡ Holding k.served k.now)
      nobody j u here holds =
          let mine : HasTicket v k.served = subst (λ (x : ℕ). HasTicket v x) (sym served) (waiting_has v.stage is_waiting) in
          let theirs : HasTicket u k.served = subst (λ (st : Stage). IsTicket st k.served) (sym holds) refl in
          let same : j ≡ id = k.tickets_apart j id u v k.served here at theirs mine in
          let is : u ≡ v = same_at s.views id u v (subst (λ (n : ℕ). get_elem? s.views n ≡ some u) same here) at in
          waiting_not v.stage is_waiting (subst (λ (w : View S). IsHolding w.stage) is (is_holding u.stage k.served k.now holds))

      pub home : k.out ≡ maybe.none
      home = is_home log Same about.first k.now s.homes s.views k.served k.out nobody k.placed

      module _ (x : S) (homes_is : s.homes ≡ some (Some x) ∷ []) (log_is : log x ≡ k.now) where
        abbrev w : View S
        w = holding (ticket_of v.stage) (log x) v

        fits_home : (j : ℕ) (u : View S) → get_elem? s.views j ≡ some u → Fits about.first k.issued k.served k.now maybe.none j u
        fits_home j u here = subst (λ (o : maybe.Option ℕ). Fits about.first k.issued k.served k.now o j u) home (k.each j u here)

        each_fits : (j : ℕ) (u : View S) → get_elem? (set s.views id w) j ≡ some u → Fits about.first k.issued k.served k.now (maybe.some id) j u
        each_fits j u here = ⊎_elim
            (λ t.
            let at_j : get_elem? s.views j ≡ some v = subst (λ (n : ℕ). get_elem? s.views n ≡ some v) (sym t.0) at in
            let turn = waiting_in k.issued k.served k.now k.out id v.stage is_waiting (k.each id v at).turn in
            let few = (k.each id v at).few in
            let one = waiting_once v.stage is_waiting in
            subst (λ (y : View S). Fits about.first k.issued k.served k.now (maybe.some id) j y) t.1
            (fits_stage about.first k.issued k.served k.now (maybe.some id) j v (Holding (ticket_of v.stage) (log x))
            (fits_out about.first k.issued k.served k.now (maybe.some id) j v (waiting_not v.stage is_waiting) (fits_home j v at_j))
            (sym served, turn.1, log_is, ap maybe.some (sym t.0))
            (omega arith)))
            (λ t. fits_out about.first k.issued k.served k.now (maybe.some id) j u
            (not_holding k.issued k.served k.now j u.stage (fits_home j u t.1).turn)
            (fits_home j u t.1))
            (at_set s.views id j w u here)

        same_ticket : (y : ℕ) → HasTicket w y → HasTicket v y
        same_ticket y e = subst (λ (n : ℕ). IsTicket v.stage n) e (waiting_has v.stage is_waiting)

        pub took_out : Kept log Same about (stepped s 1 (get_or s.words 1 0) id [] w (takes 0 (Some x)))
        took_out = record {
          issued = k.issued;
          served = k.served;
          now = k.now;
          out = maybe.some id;
          words = ap (λ (l : List ℕ). set l 1 (get_or l 1 0)) k.words;
          placed = (
            ap (λ (hs : List (maybe.Option (Option S))). set hs 0 none) homes_is,
            (w, set_here s.views id w (at_within s.views id v at), (λ i. Holding (sym served i) (log_is i))),
          );
          each = each_fits;
          small = k.small;
          parts = (let t = total_set parts_of s.views id v w at in let p = k.parts in omega arith);
          tickets = (let t = total_set tickets_of s.views id v w at in let one = waiting_once v.stage is_waiting in let p = k.tickets in omega arith);
          tickets_apart = apart_set HasTicket s.views id v w at k.tickets_apart (λ y h. inl (same_ticket y h));
          groups_apart = apart_set HasGroup s.views id v w at k.groups_apart (λ y h. inl h);
          covers = λ g. ⊎_elim (λ e. inl e) (λ o. inr (owned_set s.views id v w g at (λ h. h) o)) (k.covers g);
          calm = k.calm;
        }

  of_first : (v : View S) (x : S) → v.of ≡ Some about.first → Same x about.first.value → IfSome v.of (λ f. Same x f.value)
  of_first v x of same = subst (λ (o : Option (Snapshot S)). IfSome o (λ f. Same x f.value)) (sym of) same

  pub looks_allow : (slots id : ℕ) (me : Seated S) → IsWaiting me.0.stage → me.1 ≡ [] → 0 < me.0.parts
      → Allows (Kept log Same about) slots id me 1 (λ n. n) (looked log Same (step slots 1 0 0 none) me)
  looks_allow slots id me is_waiting none_out some_part s k _ at small = dite (ℕ_discrete (get_or s.words 1 0) (ticket_of me.0.stage % 2 ^ 64))
      (λ found.
      let served = serves s k id me.0 at is_waiting found in
      let out_is = home s k id me.0 at is_waiting served in
      let p = subst (λ (o : maybe.Option ℕ). Placed log Same about.first k.now s.homes s.views k.served o) out_is k.placed in
      let f = k.each id me.0 at in (
        holding (ticket_of me.0.stage) (log p.0) me.0,
        takes 0 (Some p.0),
        ap (λ (hs : List (maybe.Option (Option S))). get_elem? hs 0) p.1,
        took_out s k id me.0 at is_waiting served p.0 p.1 p.2,
        (
          (λ other. absurd (other found)),
          (λ _. (
            p.0,
            (
              ap (λ (c : List (ℕ × Option S)). (0, Some p.0) ∷ c) none_out,
              refl,
              of_first me.0 p.0 (f.of some_part) p.3,
              goes_on_now me.0 k.now (log p.0) p.2 f.knows f.standing,
            ),
          )),
        ),
      ))
      (λ other. (
        me.0,
        keeps,
        tt,
        stays s k id me.0 at is_waiting,
        ((λ _. refl), λ found. absurd (other found)),
      ))

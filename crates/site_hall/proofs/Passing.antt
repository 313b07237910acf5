-- The turn is passed on: the value goes home, with what the turn made of its history.
use Rattle.std.proofs.Common.{◌≡◌, ◌⊎◌, ◌≢◌, ◌+◌, ◌<◌, ◌%◌, ◌^◌, ℕ, false, List, [], ◌∷◌, ◌++◌, Option, Some, None, get_or, set, inl, inr, refl, sym, ap, subst, ◌∙◌, append_assoc, arith, ⊎_elim}
use Rattle.std.proofs.lemmas.List.{append-nil}
use mathlib.Core.Option as maybe
use mathlib.Core.Option.{none, some}
use lib.ListN.{get_elem?}
use Rattle.atomic_table.specs.Table.{Allows, State, gives, rest, step, stepped}
use Rattle.atomic_table.proofs.Lists.{at_set}
use Rattle.basics.specs.Members.{Has}
use Rattle.merge_core.specs.Trail.{Entry}
use Rattle.site_hall.specs.Events.{IsCalm, Knows, events_of, IsCalmTurn, MayLeave}
use Rattle.site_hall.specs.Rule.{Fits, HasGroup, HasTicket, InTurn, IsTicket, Kept, Placed, parts_of, tickets_of, waits}
use Rattle.site_hall.specs.Steps.{Seated, passed}
use Rattle.site_hall.specs.Views.{IsHolding, got_of, ticket_of, after_turn, groups_after}
use Rattle.site_hall.specs.declared.views.About.{About}
use Rattle.site_hall.specs.declared.views.Stage.{Stage}
use Rattle.site_hall.specs.declared.views.Stage.TheVariants.{Holding, Idle, Waiting}
use Rattle.site_hall.specs.declared.views.View.{View}
use Rattle.site_hall.proofs.Fitting.{Owned, owned_here, owned_set}
use Rattle.site_hall.proofs.Histories.{Turned, events_both, events_same, first_empty, stands_with, turned, turned_calm}
use Rattle.site_hall.proofs.Lists.{apart_set, first_held, total_set, next_word}

holding_in : (issued served : ℕ) (now : List Entry) (out : maybe.Option ℕ) (j : ℕ) (st : Stage) → IsHolding st → InTurn issued served now out j st
    → (ticket_of st ≡ served) × (ticket_of st < issued) × (got_of st ≡ now) × (out ≡ maybe.some j)
holding_in issued served now out j Idle w h = absurd w
holding_in issued served now out j (Waiting t) w h = absurd w
holding_in issued served now out j (Holding t got) w h = h

holding_has : (st : Stage) → IsHolding st → IsTicket st (ticket_of st)
holding_has Idle w = absurd w
holding_has (Waiting t) w = absurd w
holding_has (Holding t got) w = refl

holding_once : (st : Stage) → IsHolding st → waits st ≡ 1
holding_once Idle w = absurd w
holding_once (Waiting t) w = absurd w
holding_once (Holding t got) w = refl

-- once the turn is passed on, the tickets that wait are those of the others
turn_behind : (issued served : ℕ) (now new : List Entry) (out : maybe.Option ℕ) (j : ℕ) (st : Stage) → ¬ IsTicket st served → ¬ (out ≡ maybe.some j) → InTurn issued served now out j st → InTurn issued (served + 1) new maybe.none j st
turn_behind issued served now new out j Idle n m h = tt
turn_behind issued served now new out j (Waiting t) n m h = ((let a = h.0 in let b : ¬ (t ≡ served) = n in omega arith), h.1)
turn_behind issued served now new out j (Holding t got) n m h = absurd (m h.3)

-- a group that has events goes on having some
some_longer : (g : ℕ) (now extra : List Entry) → ¬ (events_of g now ≡ []) → ¬ (events_of g (now ++ extra) ≡ [])
some_longer g now extra some_of none_of = some_of (first_empty (events_of g now) (events_of g extra) (sym (events_both g now extra) ∙ none_of))

knows_more : (groups : List ℕ) (seen now extra : List Entry) → ((g : ℕ) → Has groups g → events_of g extra ≡ []) → Knows groups seen now → Knows groups seen (now ++ extra)
knows_more groups seen now extra none_of k = (
  k.0 ++ extra,
  ap (λ l. l ++ extra) k.1 ∙ append_assoc seen k.0 extra,
  λ g has. events_same g k.0 extra (none_of g has) ∙ k.2 g has,
)

-- the value was put into the place that the pass holds
pub put_in : {S : Type 0} (me old : Seated S) (x : S) → me ≡ (old.0, (0, Some x) ∷ rest old.1) → old.1 ≡ (0, None) ∷ [] → me ≡ (old.0, (0, Some x) ∷ [])
put_in {S} me old x is held = is ∙ ap {B = Seated S} (λ (taken : List (ℕ × Option S)). (old.0, (0, Some x) ∷ taken)) (ap rest held)

module _ {S : Type 0} (log : S → List Entry) (Same : S → S → Type 0) (about : About S) where
  module _ (s : State (Option S) (View S)) (k : Kept log Same about s) (id : ℕ) (v : View S) (at : get_elem? s.views id ≡ some v) (holds : IsHolding v.stage) (x : S)
      (may : MayLeave v.groups (got_of v.stage) (log x)) where
    turn : (ticket_of v.stage ≡ k.served) × (ticket_of v.stage < k.issued) × (got_of v.stage ≡ k.now) × (k.out ≡ maybe.some id)
    turn = holding_in k.issued k.served k.now k.out id v.stage holds (k.each id v at).turn

    abbrev w : View S
    w = after_turn v (got_of v.stage) (log x)

    made : Turned v.groups (got_of v.stage) (log x) (groups_after v (got_of v.stage) (log x))
    made = turned v.groups (got_of v.stage) (log x) may

    now_is : log x ≡ k.now ++ made.extra
    now_is = made.is ∙ ap (λ l. l ++ made.extra) turn.2

    has_served : HasTicket v k.served
    has_served = subst (λ (t : ℕ). IsTicket v.stage t) turn.0 (holding_has v.stage holds)

    homes_are : s.homes ≡ none ∷ []
    homes_are = (subst (λ (o : maybe.Option ℕ). Placed log Same about.first k.now s.homes s.views k.served o) turn.3 k.placed).0

    -- other passes' groups have no new event
    others_none : (j : ℕ) (u : View S) → j ≢ id → get_elem? s.views j ≡ some u → (g : ℕ) → Has u.groups g → events_of g made.extra ≡ []
    others_none j u other here g has = made.others g
        (λ own. other (k.groups_apart j id u v g here at has own))
        (λ none_of. (k.each j u here).begun g has (ap (λ l. events_of g l) (sym turn.2) ∙ none_of))

    fits_other : (j : ℕ) (u : View S) → j ≢ id → get_elem? s.views j ≡ some u → Fits about.first k.issued (k.served + 1) (log x) maybe.none j u
    fits_other j u other here = let f = k.each j u here in let quiet = others_none j u other here in
        subst (λ (l : List Entry). Fits about.first k.issued (k.served + 1) l maybe.none j u) (sym now_is) (record {
          of = f.of;
          knows = knows_more u.groups u.seen k.now made.extra quiet f.knows;
          standing = λ g es st. let r = f.standing g es st in (r.0, events_same g k.now made.extra (quiet g r.0) ∙ r.1);
          begun = λ g has. some_longer g k.now made.extra (f.begun g has);
          turn = turn_behind k.issued k.served k.now (k.now ++ made.extra) k.out j u.stage
              (λ t. other (k.tickets_apart j id u v k.served here at t has_served))
              (λ o. other (maybe.some-injective j id (sym o ∙ turn.3)))
              f.turn;
          few = f.few;
          dead = f.dead;
        })

    fits_own : (j : ℕ) → Fits about.first k.issued (k.served + 1) (log x) maybe.none j w
    fits_own j = let f = k.each id v at in record {
      of = f.of;
      knows = ([], sym (append-nil (log x)), λ g has. refl);
      standing = λ g es st. stands_with (groups_after v (got_of v.stage) (log x)) (log x) g es st;
      begun = λ g has. ⊎_elim
          (λ own none_of. some_longer g k.now made.extra (f.begun g own) (ap (λ l. events_of g l) (sym now_is) ∙ none_of))
          (λ new. new.1)
          (made.from g has);
      turn = tt;
      few = omega arith;
      dead = λ no_part. let a = f.few in let b = holding_once v.stage holds in absurd (omega arith);
    }

    each_fits : (j : ℕ) (u : View S) → get_elem? (set s.views id w) j ≡ some u → Fits about.first k.issued (k.served + 1) (log x) maybe.none j u
    each_fits j u here = ⊎_elim
        (λ t. subst (λ (y : View S). Fits about.first k.issued (k.served + 1) (log x) maybe.none j y) t.1 (fits_own j))
        (λ t. fits_other j u t.0 t.1)
        (at_set s.views id j w u here)

    -- a group that the turn began had no events, so no other pass has it
    groups_fresh : (g : ℕ) → HasGroup w g → HasGroup v g ⊎ ((j : ℕ) (u : View S) → get_elem? s.views j ≡ some u → HasGroup u g → j ≡ id)
    groups_fresh g has = ⊎_elim
        (λ own. inl own)
        (λ new. inr (λ j u here theirs. absurd ((k.each j u here).begun g theirs (ap (λ l. events_of g l) (sym turn.2) ∙ new.0))))
        (made.from g has)

    covered : (g : ℕ) → (events_of g (log x) ≡ []) ⊎ Owned (set s.views id w) g
    covered g = ⊎_elim
        (λ quiet. ⊎_elim
        (λ none_of. inl (ap (λ l. events_of g l) now_is ∙ (events_same g k.now made.extra quiet ∙ none_of)))
        (λ o. inr (owned_set s.views id v w g at (λ own. made.more g own) o))
        (k.covers g))
        (λ own. inr (owned_here s.views id v w g at own))
        (made.owned g)

    pub passes_on : Same x about.first.value → (about.keep_going ≡ false → IsCalmTurn (got_of v.stage) (log x))
        → Kept log Same about (stepped s 1 ((get_or s.words 1 0 + 1) % 18446744073709551616) id ((0, Some x) ∷ []) w gives)
    passes_on same calmly = record {
      issued = k.issued;
      served = k.served + 1;
      now = log x;
      out = maybe.none;
      words = ap (λ (l : List ℕ). set l 1 ((get_or l 1 0 + 1) % 18446744073709551616)) k.words ∙ ap (λ (n : ℕ). k.issued % 18446744073709551616 ∷ n ∷ []) (next_word k.served);
      placed = (x, ap (λ (hs : List (maybe.Option (Option S))). set hs 0 (some (Some x))) homes_are, refl, same);
      each = each_fits;
      small = k.small;
      parts = (let t = total_set parts_of s.views id v w at in let p = k.parts in omega arith);
      tickets = (let t = total_set tickets_of s.views id v w at in let one = holding_once v.stage holds in let p = k.tickets in omega arith);
      tickets_apart = apart_set HasTicket s.views id v w at k.tickets_apart (λ y h. absurd h);
      groups_apart = apart_set HasGroup s.views id v w at k.groups_apart groups_fresh;
      covers = covered;
      calm = λ stops. turned_calm v.groups (got_of v.stage) (log x) may (calmly stops) (subst (λ l. IsCalm l) (sym turn.2) (k.calm stops));
    }

  pub passing_allows : (slots id : ℕ) (me : Seated S) (x : S) → IsHolding me.0.stage → me.1 ≡ (0, Some x) ∷ []
      → Same x about.first.value → MayLeave me.0.groups (got_of me.0.stage) (log x)
      → (about.keep_going ≡ false → IsCalmTurn (got_of me.0.stage) (log x))
      → Allows (Kept log Same about) slots id me 1 (λ n. (n + 1) % 2 ^ 64) (passed log (step slots 1 1 0 none) me)
  passing_allows slots id me x holds out_is same may calmly s k _ at small = (
    after_turn me.0 (got_of me.0.stage) (log x),
    gives,
    tt,
    subst (λ (c : List (ℕ × Option S)). Kept log Same about (stepped s 1 ((get_or s.words 1 0 + 1) % 18446744073709551616) id c (after_turn me.0 (got_of me.0.stage) (log x)) gives))
        (sym out_is)
        (passes_on s k id me.0 at holds x may same calmly),
    λ y is. (
      ap rest out_is,
      ap (λ (z : S). after_turn me.0 (got_of me.0.stage) (log z)) (first_held x y [] [] (sym out_is ∙ is)),
    ),
  )

-- Histories that grow: what a longer one has of each group.
use Rattle.std.proofs.Common.{◌≡◌, ◌⊎◌, ◌≤◌, ℕ, Bool, true, false, cond, eqb, leb, eq-eqb, ne_eqb, List, [], ◌∷◌, ◌++◌, length, drop, inl, inr, refl, sym, ap, subst, ◌∙◌, arith, ⊎_elim}
use Rattle.std.proofs.lemmas.List.{append-nil}
use Rattle.std.proofs.lemmas.List.Elements.{filter-append}
use Rattle.std.proofs.Math.Seq.{drop-append_seam}
use Rattle.std.proofs.lemmas.Bool.{false≢true, leb-true, leb-false}
use mathlib.Core.Logic.{dite}
use native.Mathlib.Decide.{ℕ_discrete}
use Rattle.basics.specs.Members.{Has}
use Rattle.basics.proofs.Lists.{heads_and_tails}
use Rattle.basics.proofs.Membership.{has-append_cases}
use Rattle.merge_core.specs.Event.{is_abandon}
use Rattle.merge_core.specs.Trail.{Entry}
use Rattle.site_hall.specs.Events.{BeginsNone, IsCalm, IsCalmTurn, Knows, MayLeave, abandons, begun_by, events_of, group_of, is_begin, with_begun}
use Rattle.site_hall.specs.Views.{Stands, longer, standings}

module _ {A : Type 0} where
  -- a list that is empty has empty parts
  pub first_empty : (xs ys : List A) → xs ++ ys ≡ [] → xs ≡ []
  first_empty [] ys e = refl
  first_empty (x ∷ xs) ys e = absurd (cc e)

  pub second_empty : (xs ys : List A) → xs ++ ys ≡ [] → ys ≡ []
  second_empty [] ys e = e
  second_empty (x ∷ xs) ys e = absurd (cc e)

  -- of two beginnings of one list the shorter begins the longer
  pub seam : (xs ys v w : List A) → xs ++ v ≡ ys ++ w → length xs ≤ length ys → (mid : List A) × (v ≡ mid ++ w)
  seam [] ys v w e h = (ys, e)
  seam (x ∷ xs) [] v w e h = absurd (omega arith)
  seam (x ∷ xs) (y ∷ ys) v w e h = seam xs ys v w (heads_and_tails x y (xs ++ v) (ys ++ w) e).1 (omega arith)

-- the events of a group in two lists, one behind the other
pub events_both : (g : ℕ) (xs ys : List Entry) → events_of g (xs ++ ys) ≡ events_of g xs ++ events_of g ys
events_both g xs ys = filter-append (λ (e : Entry). eqb (group_of e.0) g) xs ys

pub events_else : (g : ℕ) (e : Entry) → ¬ (group_of e.0 ≡ g) → events_of g (e ∷ []) ≡ []
events_else g e other = ap (λ b. cond b (e ∷ []) []) (ne_eqb (group_of e.0) g other)

pub events_here : (g : ℕ) (e : Entry) → group_of e.0 ≡ g → events_of g (e ∷ []) ≡ e ∷ []
events_here g e same = ap (λ b. cond b (e ∷ []) []) (eq-eqb (group_of e.0) g same)

pub events_same : (g : ℕ) (xs ys : List Entry) → events_of g ys ≡ [] → events_of g (xs ++ ys) ≡ events_of g xs
events_same g xs ys h = events_both g xs ys ∙ (ap (λ l. events_of g xs ++ l) h ∙ append-nil (events_of g xs))

-- where a group has no event behind a shorter beginning, it has none behind a longer one
later_none : (g : ℕ) (xs ys v w : List Entry) → xs ++ v ≡ ys ++ w → length xs ≤ length ys → events_of g v ≡ [] → events_of g w ≡ []
later_none g xs ys v w e h none_of =
    let mid = seam xs ys v w e h in
    second_empty (events_of g mid.0) (events_of g w) (sym (events_both g mid.0 w) ∙ (ap (λ l. events_of g l) (sym mid.1) ∙ none_of))

longer_knows : (gs hs : List ℕ) (xs ys now : List Entry) → Knows gs xs now → Knows hs ys now → length xs ≤ length ys
    → (b : List ℕ) → ((g : ℕ) → Has b g → Has gs g ⊎ Has hs g) → Knows b ys now
longer_knows gs hs xs ys now k l h b split = (
  l.0,
  l.1,
  λ g has. ⊎_elim
      (λ mine. later_none g xs ys k.0 l.0 (sym k.1 ∙ l.1) h (k.2 g mine))
      (λ theirs. l.2 g theirs)
      (split g has),
)

-- a pass that took another in has seen the longer history
knows_by : (gs hs : List ℕ) (xs ys now : List Entry) → Knows gs xs now → Knows hs ys now
    → (both : List ℕ) → ((g : ℕ) → Has both g → Has gs g ⊎ Has hs g) → (b : Bool) → leb (length xs) (length ys) ≡ b → Knows both (cond b ys xs) now
knows_by gs hs xs ys now k l both split true is = longer_knows gs hs xs ys now k l (leb-true (length xs) (length ys) is) both split
knows_by gs hs xs ys now k l both split false is =
    longer_knows hs gs ys xs now l k (let h = leb-false (length xs) (length ys) is in omega arith) both (λ g has. ⊎_elim (λ a. inr a) (λ a. inl a) (split g has))

pub knows_longer : (gs hs : List ℕ) (xs ys now : List Entry) → Knows gs xs now → Knows hs ys now → Knows (gs ++ hs) (longer xs ys) now
knows_longer gs hs xs ys now k l = knows_by gs hs xs ys now k l (gs ++ hs) (λ g has. has-append_cases gs hs g has) (leb (length xs) (length ys)) refl

-- what a turn makes of a history, for the groups of the pass that had the turn and for others
pub record Turned (groups : List ℕ) (got now : List Entry) (after : List ℕ) : Type 0 where
  pub extra : List Entry
  pub is : now ≡ got ++ extra
  pub begun : after ≡ with_begun groups extra
  -- a group that had events, and is not the pass's own, has no more
  pub others : (g : ℕ) → ¬ Has groups g → ¬ (events_of g got ≡ []) → events_of g extra ≡ []
  -- a group with a new event is one of the pass's own now
  pub owned : (g : ℕ) → (events_of g extra ≡ []) ⊎ Has after g
  -- a group of its own was so before, or has events now and had none
  pub from : (g : ℕ) → Has after g → Has groups g ⊎ ((events_of g got ≡ []) × ¬ (events_of g now ≡ []))
  pub more : (g : ℕ) → Has groups g → Has after g

not_empty : (got es : List Entry) (e : Entry) (g : ℕ) → group_of e.0 ≡ g → ¬ (events_of g (got ++ e ∷ []) ≡ [])
not_empty got es e g same none_of =
    let tail : events_of g (e ∷ []) ≡ [] = second_empty (events_of g got) (events_of g (e ∷ [])) (sym (events_both g got (e ∷ [])) ∙ none_of) in
    absurd (cc (sym (events_here g e same) ∙ tail))

owns_one : (groups : List ℕ) (e : Entry) (b : Bool) → is_begin e.0 ≡ b → (Has groups (group_of e.0) ⊎ (b ≡ true)) → Has (begun_by b (group_of e.0) groups) (group_of e.0)
owns_one groups e true is own = inl refl
owns_one groups e false is (inl own) = own
owns_one groups e false is (inr no_begin) = absurd (false≢true no_begin)

more_one : (groups : List ℕ) (g h : ℕ) (b : Bool) → Has groups h → Has (begun_by b g groups) h
more_one groups g h true own = inr own
more_one groups g h false own = own

from_one : (groups : List ℕ) (g h : ℕ) (b : Bool) → Has (begun_by b g groups) h → Has groups h ⊎ ((b ≡ true) × (g ≡ h))
from_one groups g h true (inl same) = inr (refl, same)
from_one groups g h true (inr own) = inl own
from_one groups g h false own = inl own

module _ (groups : List ℕ) (got now : List Entry) where
  -- a turn without an event
  turned_none : now ≡ got → Turned groups got now groups
  turned_none same = record {
    extra = [];
    is = same ∙ sym (append-nil got);
    begun = refl;
    others = λ g _ _. refl;
    owned = λ g. inl refl;
    from = λ g own. inl own;
    more = λ g own. own;
  }

  -- the event is of an own group, or begins one that had none
  Mine : Entry → Type 0
  Mine e = Has groups (group_of e.0) ⊎ ((is_begin e.0 ≡ true) × (events_of (group_of e.0) got ≡ []))

  module _ (e : Entry) (is : now ≡ got ++ e ∷ []) (mine : Has groups (group_of e.0) ⊎ ((is_begin e.0 ≡ true) × (events_of (group_of e.0) got ≡ []))) where
    others_one : (g : ℕ) → ¬ Has groups g → ¬ (events_of g got ≡ []) → events_of g (e ∷ []) ≡ []
    others_one g not_own some_of = events_else g e (λ same. ⊎_elim
        (λ own. not_own (subst (λ (x : ℕ). Has groups x) same own))
        (λ begins. some_of (subst (λ (x : ℕ). events_of x got ≡ []) same begins.1))
        mine)

    owned_one : (g : ℕ) → (events_of g (e ∷ []) ≡ []) ⊎ Has (begun_by (is_begin e.0) (group_of e.0) groups) g
    owned_one g = dite (ℕ_discrete (group_of e.0) g)
        (λ same. inr (subst (λ (x : ℕ). Has (begun_by (is_begin e.0) (group_of e.0) groups) x) same
        (owns_one groups e (is_begin e.0) refl (⊎_elim (λ own. inl own) (λ begins. inr begins.0) mine))))
        (λ other. inl (events_else g e other))

    from_event : (g : ℕ) → Has (begun_by (is_begin e.0) (group_of e.0) groups) g → Has groups g ⊎ ((events_of g got ≡ []) × ¬ (events_of g now ≡ []))
    from_event g has = ⊎_elim
        (λ own. inl own)
        (λ t. ⊎_elim
        (λ own. inl (subst (λ (x : ℕ). Has groups x) t.1 own))
        (λ begins. inr (
          subst (λ (x : ℕ). events_of x got ≡ []) t.1 begins.1,
          λ none_of. not_empty got [] e g t.1 (ap (λ l. events_of g l) (sym is) ∙ none_of),
        ))
        mine)
        (from_one groups (group_of e.0) g (is_begin e.0) has)

    turned_one : Turned groups got now (begun_by (is_begin e.0) (group_of e.0) groups)
    turned_one = record {
      extra = e ∷ [];
      is = is;
      begun = refl;
      others = others_one;
      owned = owned_one;
      from = from_event;
      more = λ g own. more_one groups (group_of e.0) g (is_begin e.0) own;
    }

  gone : (extra : List Entry) → now ≡ got ++ extra → drop (length got) now ≡ extra
  gone extra is = ap (λ l. drop (length got) l) is ∙ drop-append_seam got extra

  after_is : (after : List ℕ) → (t : Turned groups got now after) → after ≡ with_begun groups (drop (length got) now)
  after_is after t = t.begun ∙ ap (λ l. with_begun groups l) (sym (gone t.extra t.is))

  -- a turn that may end makes that of a history
  pub turned : MayLeave groups got now → Turned groups got now (with_begun groups (drop (length got) now))
  turned (inl same) = let t = turned_none same in subst (λ after. Turned groups got now after) (after_is groups t) t
  turned (inr one) =
      let t = turned_one one.0 one.1 one.2 in
      subst (λ after. Turned groups got now after) (after_is (begun_by (is_begin one.0.0) (group_of one.0.0) groups) t) t

-- where no group begins behind one that was given up, one event more keeps it so
begins_snoc : (es : List Entry) (e : Entry) → BeginsNone es → is_begin e.0 ≡ false → BeginsNone (es ++ e ∷ [])
begins_snoc [] e h is = (is, tt)
begins_snoc (x ∷ es) e h is = (h.0, begins_snoc es e h.1 is)

no_begin : (e : Entry) (got : List Entry) (b : Bool) → is_begin e.0 ≡ b → (b ≡ true → abandons got ≡ []) → ¬ (abandons got ≡ []) → is_begin e.0 ≡ false
no_begin e got true is calm some_of = absurd (some_of (calm refl))
no_begin e got false is calm some_of = is

given_up : (x : Entry) (es : List Entry) → is_abandon x.0 ≡ true → ¬ (abandons (x ∷ es) ≡ [])
given_up x es is none_of = absurd (cc (sym (ap (λ b. cond b (x ∷ abandons es) (abandons es)) is) ∙ none_of))

rest_none : (x : Entry) (es : List Entry) (b : Bool) → is_abandon x.0 ≡ b → abandons (x ∷ es) ≡ [] → abandons es ≡ []
rest_none x es true is none_of = absurd (given_up x es is none_of)
rest_none x es false is none_of = sym (ap (λ b. cond b (x ∷ abandons es) (abandons es)) is) ∙ none_of

calm_snoc : (got : List Entry) (e : Entry) → IsCalm got → (is_begin e.0 ≡ true → abandons got ≡ []) → IsCalm (got ++ e ∷ [])
calm_snoc [] e calm h = ((λ _. tt), tt)
calm_snoc (x ∷ got) e calm h = (
  (λ is. begins_snoc got e (calm.0 is) (no_begin e (x ∷ got) (is_begin e.0) refl h (given_up x got is))),
  calm_snoc got e calm.1 (λ begins. rest_none x got (is_abandon x.0) refl (h begins)),
)

pub turned_calm : (groups : List ℕ) (got now : List Entry) → MayLeave groups got now → IsCalmTurn got now → IsCalm got → IsCalm now
turned_calm groups got now (inl same) calmly calm = subst (λ l. IsCalm l) (sym same) calm
turned_calm groups got now (inr one) calmly calm = subst (λ l. IsCalm l) (sym one.1) (calm_snoc got one.0 calm (calmly one.0 one.1))

-- each of the groups stands with its events, and no other
pub stands_with : (groups : List ℕ) (now : List Entry) (g : ℕ) (es : List Entry) → Stands g es (standings groups now) → Has groups g × (events_of g now ≡ es)
stands_with [] now g es h = absurd h
stands_with (x ∷ groups) now g es (inl e) = (inl (ap (λ p. p.0) e), ap (λ (p : ℕ × List Entry). events_of p.0 now) (sym e) ∙ ap (λ (p : ℕ × List Entry). p.1) e)
stands_with (x ∷ groups) now g es (inr h) = let r = stands_with groups now g es h in (inr r.0, r.1)

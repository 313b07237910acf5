-- A turn of a run: from a site that is through with those before it.
use Rattle.std.proofs.Common.{◌≡◌, ◌<◌, ◌++◌, ◌∙◌, ℕ, Bool, true, false, List, [], ◌∷◌, Result, Ok, Err, inl, inr, refl, sym, ap, subst, length, map, take, append-nil, append_assoc, arith}
use Rattle.std.specs.Prelude.{IfErr, IsErrOf, IsTrue}
use Rattle.std.proofs.lemmas.Bool.{cases_eq}
use Rattle.std.proofs.lemmas.List.{length-append, length-map, map-append}
use Rattle.basics.specs.Members.{Has}
use Rattle.basics.proofs.Membership.{has-append_cases, has-append_left, has-append_right}
use Rattle.file_tree.specs.Disk.{Map}
use Rattle.merge_journal.specs.Group.{Group, groups, with_groups}
use Rattle.owner_book.specs.Book.{Book, HasOwnersOf, HasSettled}
use Rattle.merge_core.specs.CoreValue.{machine_of}
use Rattle.merge_core.specs.Payloads.{IsAt}
use Rattle.merge_core.specs.Phase.{Phase, Idle, Told, is_live, is_settled, was_opened}
use Rattle.merge_core.specs.Roll.{Machine, Roll, Standing, committed, group_at, idle, others, phase_at, resting}
use Rattle.merge_core.specs.Steps.{IsTaken}
use Rattle.merge_core.specs.Trail.{Entry}
use Rattle.merge_core.specs.declared.phase.Phase.TheVariants as phases
use Rattle.merge_core.specs.declared.step.Step.TheVariants as steps
use Rattle.merge_site.specs.Site.{SiteValue, StoodDuring}
use Rattle.merge_site.specs.declared.group.SiteGroup.{SiteGroup}
use Rattle.file_tree.specs.declared.fault.TreeFault.TheVariants as trees
use Rattle.merge_group.specs.Applied.{RecoversWith, number}
use Rattle.merge_group.specs.Causes.{IsOfGroup, StopsChanges}
use Rattle.merge_group.specs.Granted.{IsAdmitted, IsOutside}
use Rattle.merge_group.specs.Through.{HasEnded, HasStood, IsThrough, settled_all}
use Rattle.merge_group.specs.Turns.{AreFirst, AreLetIn, StopsBehind, changes_of, group_for, numbers}
use Rattle.merge_group.specs.Working.{IsAlone, Works, group_in, is_shut, standing_at, stood_at}
use Rattle.merge_group.specs.declared.stop.Stop.{Stop}
use Rattle.merge_group.specs.declared.stop.Stop.TheVariants as stops
use Rattle.merge_group.specs.declared.turn.Turn.{Turn}
use Rattle.merge_group.proofs.Granted.{may_same, stops_same}
use Rattle.merge_group.proofs.Left.{first_more, groups_push, has_or_not, has_take, left_all, left_outside, let_in_push, numbers_of, numbers_then, of_group_or_not, owners_push, parts_in, plain_behind, stops_behind}
use Rattle.merge_group.proofs.Stood.{Grew, IsNext, Rests, come_along, committed_next, committed_rests, during_next, during_split, one_gate}
use Rattle.merge_core.proofs.Images.{settled_opened}
use Rattle.merge_group.proofs.Worked.{run_on}

pub recovers_weaker : (P Q : List Group → Type 0) (m : Map) (among : List ℕ) (c : Map) → ((xs : List Group) → P xs → Q xs) → RecoversWith P m among c → RecoversWith Q m among c
recovers_weaker P Q m among c so h = record { groups = h.groups; of = so h.groups h.of; has = h.has; is = h.is }

-- ---- a site that is through with some turns

module _ {T S : Type 0} (tells : Bool) (opening : Map) (ts : List Turn) (a : SiteValue T S) (through : IsThrough tells opening ts a) where
  -- each group is told, or rests
  calm : (f : Phase → Bool) (b : Bool) → f Told ≡ b → f Idle ≡ b → (h : ℕ) → f (standing_at a h).phase ≡ b
  calm f b told rest h = elim (has_or_not (numbers ts) h) [
    | inl has ↦ (ap f (through.told h has) ∙ told)
    | inr not ↦ (ap (λ (s : Standing). f s.phase) (through.rest h not) ∙ rest)
  ]

  pub alone_now : (g : ℕ) → IsAlone g a
  alone_now g h other = calm is_live false refl refl h

  pub shut_now : (h : ℕ) → is_shut (standing_at a h).phase ≡ true
  shut_now = calm is_shut true refl refl

  pub rests_now : (g : ℕ) → Rests g (machine_of a.keeping).roll
  rests_now g h other = shut_now h

  pub taken_now : (g : ℕ) → g < length a.keeping.standings → (Has (numbers ts) g → ⊥) → IsTaken a.keeping g steps.Begin
  taken_now g there new = record { comes = (there, inl through.going); phase = ap (λ (s : Standing). s.phase) (through.rest g new); due = tt }

  pub history_now : map number a.keeping.order ≡ numbers ts
  history_now = ap (map number) through.order ∙ numbers_of ts

  pub outside_now : IsOutside (left_all opening ts) (stood_at opening a)
  outside_now q out = ap (λ (l : List Group). with_groups l q (opening q)) through.order ∙ sym (left_outside opening ts q out)

  first_now : IsTrue tells → (xs : List Group) → xs ≡ a.keeping.order → AreFirst opening a.opened_book a.groups ts xs
  first_now tl xs is = record { first = ts; rest = []; split = sym (append-nil ts); are = is ∙ through.order; let_in = through.let_in tl }

  -- the run ends there
  pub ended_now : {A : Type 0} (end : Result A Stop) → HasEnded tells opening ts a end
  ended_now end = record {
    stood = through.stood;
    crash = λ tl c stands.
        let is = committed_rests opening (machine_of a.keeping).roll c rests_now stands in
        record {
          groups = committed (machine_of a.keeping).roll c;
          of = first_now tl (committed (machine_of a.keeping).roll c) is;
          has = λ n there. subst (λ (l : List Group). Has (map number l) n) (sym is) there;
          is = (stands.recovers, one_gate opening 0 (machine_of a.keeping).roll c (rests_now 0) stands);
        };
    order = λ tl. first_now tl a.keeping.order refl;
    shut = λ healthy. shut_now;
  }

-- ---- one turn more

module _ {T S : Type 0} (tells : Bool) (opening : Map) (ts us : List Turn) (t : Turn) (a b : SiteValue T S) (through : IsThrough tells opening ts a) (new : Has (numbers ts) t.group → ⊥) (works : Works t.group a b)
    (let_in : IsTrue tells → was_opened (standing_at b t.group).phase ≡ true → IsAdmitted (stood_at opening a) a.book a.groups (changes_of t) t.group (group_in b t.group)) where
  abbrev g : ℕ
  g = t.group

  abbrev r : Roll
  r = (machine_of b.keeping).roll

  grew_start : Grew a.keeping.order g (machine_of a.keeping).roll
  grew_start = inl (refl, ap (λ (s : Standing). is_settled s.phase) (through.rest g new))

  come : Rests g r × Grew a.keeping.order g r
  come = subst (λ (m : Machine). Rests g m.roll × Grew a.keeping.order g m.roll) works.stretch.leads
      (come_along a.keeping.order g (machine_of a.keeping) works.events works.stretch.mine works.stretch.turns (rests_now tells opening ts a through g) grew_start)

  first_here : (us : List Turn) (xs : List Group) → AreFirst opening a.opened_book a.groups us xs → AreFirst opening b.opened_book b.groups us xs
  first_here us xs h = subst (λ (k : Book). AreFirst opening k b.groups us xs) (sym works.opened_book) (subst (λ (l : List SiteGroup). AreFirst opening a.opened_book l us xs) (sym works.groups) h)

  may_now : IsTrue tells → was_opened (standing_at b g).phase ≡ true → AreLetIn opening a.opened_book a.groups (ts ++ t ∷ [])
  may_now tl opened =
      let_in_push opening a.opened_book a.groups ts t (through.let_in tl)
      (may_same (stood_at opening a) (left_all opening ts) a.book (settled_all ts a.opened_book) a.groups (changes_of t) g (outside_now tells opening ts a through) through.owners (let_in tl opened).1)

  next_first : IsTrue tells → (ys : List Group) → IsNext a.keeping.order g r ys → AreFirst opening b.opened_book b.groups (ts ++ t ∷ us) ys
  next_first tl ys (inl same) = first_here (ts ++ t ∷ us) ys (record { first = ts; rest = t ∷ us; split = refl; are = same ∙ through.order; let_in = through.let_in tl })
  next_first tl ys (inr behind) = first_here (ts ++ t ∷ us) ys (record {
    first = ts ++ t ∷ [];
    rest = us;
    split = sym (append_assoc ts (t ∷ []) us);
    are = behind.1
        ∙ (ap (λ (l : List Group). l ++ group_at r g ∷ []) through.order
        ∙ (ap (λ (x : Group). map group_for ts ++ x ∷ []) (let_in tl behind.0).0 ∙ sym (groups_push ts t)));
    let_in = may_now tl behind.0;
  })

  stood_on : IsTrue tells → HasStood opening (ts ++ t ∷ us) b
  stood_on tl c during = elim (during_split opening idle a.events works.events c (subst (λ (l : List Entry). StoodDuring opening idle l c) works.adds during)) [
    | inl before ↦
        recovers_weaker (AreFirst opening a.opened_book a.groups ts) (AreFirst opening b.opened_book b.groups (ts ++ t ∷ us)) opening [] c
        (λ xs h. first_here (ts ++ t ∷ us) xs (first_more opening a.opened_book a.groups ts (t ∷ us) xs h)) (through.stood tl c before)
    | inr since ↦
        (let k = during_next opening a.keeping.order g (machine_of a.keeping) works.events c works.stretch.mine works.stretch.turns (rests_now tells opening ts a through g) grew_start
        (subst (λ (m : Machine). StoodDuring opening m works.events c) through.run.leads since) in
        record {
          groups = k.0;
          of = next_first tl k.0 (subst (λ (m : Machine). IsNext a.keeping.order g m.roll k.0) works.stretch.leads k.1);
          has = λ n none. absurd none;
          is = k.2;
        })
  ]

  order_on : IsTrue tells → AreFirst opening b.opened_book b.groups (ts ++ t ∷ us) b.keeping.order
  order_on tl = elim come.1 [
    | inl before ↦ next_first tl b.keeping.order (inl before.0)
    | inr behind ↦ next_first tl b.keeping.order (inr (settled_opened (phase_at r g) behind.1, behind.0))
  ]

  -- the run ends with this turn
  pub ended_on : {A : Type 0} (end : Result A Stop) → ((IsErrOf end (stops.Tree trees.Failed) → ⊥) → is_shut (standing_at b g).phase ≡ true) → HasEnded tells opening (ts ++ t ∷ us) b end
  ended_on end shut = record {
    stood = stood_on;
    crash = λ tl c stands. record {
      groups = committed r c;
      of = next_first tl (committed r c) (committed_next opening a.keeping.order g r c come.0 come.1 stands);
      has = λ n there.
          subst (λ (l : List ℕ). Has l n) (sym (map-append number r.order (groups (group_at r) (others r c)))) (has-append_left (map number r.order) (map number (groups (group_at r) (others r c))) n there);
      is = (stands.recovers, one_gate opening g r c come.0 stands);
    };
    order = order_on;
    shut = λ healthy h. elim (cases_eq h g) [
      | inl same ↦ subst (λ (n : ℕ). is_shut (standing_at b n).phase ≡ true) (sym same) (shut healthy)
      | inr other ↦ (ap (λ (s : Standing). is_shut s.phase) (works.others h other) ∙ shut_now tells opening ts a through h)
    ];
  }

  rest_but : (h : ℕ) → (Has (numbers (ts ++ t ∷ [])) h → ⊥) → (h ≡ g → ⊥) × (Has (numbers ts) h → ⊥)
  rest_but h not = (
    (λ same. not (subst (λ (l : List ℕ). Has l h) (sym (numbers_then ts (t ∷ []))) (has-append_right (numbers ts) (g ∷ []) h (inl (sym same))))),
    (λ has. not (subst (λ (l : List ℕ). Has l h) (sym (numbers_then ts (t ∷ []))) (has-append_left (numbers ts) (g ∷ []) h has))),
  )

  rest_on : (h : ℕ) → (Has (numbers (ts ++ t ∷ [])) h → ⊥) → standing_at b h ≡ resting
  rest_on h not = let k = rest_but h not in works.others h k.0 ∙ through.rest h k.1

  -- no later group has begun
  pub rest_behind : (n : ℕ) → length ts < n → (h : ℕ) → (Has (take n (numbers (ts ++ t ∷ us))) h → ⊥) → standing_at b h ≡ resting
  rest_behind n lt h not = rest_on h (λ has.
      let whole : numbers (ts ++ t ∷ us) ≡ numbers (ts ++ t ∷ []) ++ numbers us = ap numbers (sym (append_assoc ts (t ∷ []) us)) ∙ numbers_then (ts ++ t ∷ []) us in
      let long = length-map (ts ++ t ∷ []) (λ (u : Turn). u.group) ∙ length-append ts (t ∷ []) in
      not (subst (λ (l : List ℕ). Has (take n l) h) (sym whole) (has_take (numbers (ts ++ t ∷ [])) (numbers us) n h (omega (arith, long, lt)) has)))

  -- why it ended, where it did
  pub cause_on : {A : Type 0} (end : Result A Stop) (history : List ℕ) → IfErr end (λ e. IsOfGroup e → history ≡ numbers ts) → IfErr end (StopsChanges tells (stood_at opening a) a.book a.groups (changes_of t) g)
      → IfErr end (StopsBehind tells opening b.opened_book b.groups (ts ++ t ∷ us) (length history))
  cause_on (Ok x) history early cause = tt
  cause_on (Err e) history early cause = elim (of_group_or_not e) [
    | inl is ↦
        subst (λ (n : ℕ). StopsBehind tells opening b.opened_book b.groups (ts ++ t ∷ us) n e) (sym (ap length (early is) ∙ length-map ts (λ (u : Turn). u.group)))
        (stops_behind tells opening b.opened_book b.groups ts us t e (subst (λ (k : Book). StopsChanges tells (left_all opening ts) (settled_all ts k) b.groups (changes_of t) g e) (sym works.opened_book)
        (subst (λ (l : List SiteGroup). StopsChanges tells (left_all opening ts) (settled_all ts a.opened_book) l (changes_of t) g e) (sym works.groups)
        (stops_same tells (stood_at opening a) (left_all opening ts) a.book (settled_all ts a.opened_book) a.groups (changes_of t) g e (outside_now tells opening ts a through) through.owners cause))))
    | inr not ↦ plain_behind tells opening b.opened_book b.groups (ts ++ t ∷ us) (length history) e not
  ]

-- the site is through with one turn more
module _ {T S : Type 0} (tells : Bool) (opening : Map) (ts : List Turn) (t : Turn) (a b : SiteValue T S) (through : IsThrough tells opening ts a) (new : Has (numbers ts) t.group → ⊥) (works : Works t.group a b)
    (let_in : IsTrue tells → was_opened (standing_at b t.group).phase ≡ true → IsAdmitted (stood_at opening a) a.book a.groups (changes_of t) t.group (group_in b t.group))
    (at : IsAt b.keeping t.group phases.Told) (group : group_in b t.group ≡ group_for t) (settled : HasSettled a.book b.book (parts_in (changes_of t))) where
  order_through : b.keeping.order ≡ map group_for (ts ++ t ∷ [])
  order_through = elim (come tells opening ts [] t a b through new works let_in).1 [
    | inl before ↦ absurd (cc (before.1, ap is_settled at.phase))
    | inr behind ↦
        (behind.0
        ∙ (ap (λ (l : List Group). l ++ group_in b t.group ∷ []) through.order
        ∙ (ap (λ (x : Group). map group_for ts ++ x ∷ []) group ∙ sym (groups_push ts t))))
  ]

  told_through : (h : ℕ) → Has (numbers (ts ++ t ∷ [])) h → (standing_at b h).phase ≡ Told
  told_through h has = elim (has-append_cases (numbers ts) (t.group ∷ []) h (subst (λ (l : List ℕ). Has l h) (numbers_then ts (t ∷ [])) has)) [
    | inl before ↦ (ap (λ (s : Standing). s.phase) (works.others h (λ same. new (subst (λ (n : ℕ). Has (numbers ts) n) same before))) ∙ through.told h before)
    | inr here ↦ elim here [ inl same ↦ subst (λ (n : ℕ). (standing_at b n).phase ≡ Told) same at.phase | inr none ↦ absurd none ]
  ]

  pub through_on : IsThrough tells opening (ts ++ t ∷ []) b
  through_on = record {
    run = run_on t.group a b works through.run;
    going = at.running.1;
    order = order_through;
    told = told_through;
    rest = rest_on tells opening ts [] t a b through new works let_in;
    unwished = λ h not. let k = rest_but tells opening ts [] t a b through new works let_in h not in works.wishes.others h k.0 ∙ through.unwished h k.1;
    owners = owners_push ts t b.opened_book a.book b.book (subst (λ (k : Book). HasOwnersOf (settled_all ts k) a.book) (sym works.opened_book) through.owners) settled;
    let_in = λ tl. subst (λ (k : Book). AreLetIn opening k b.groups (ts ++ t ∷ [])) (sym works.opened_book)
        (subst (λ (l : List SiteGroup). AreLetIn opening a.opened_book l (ts ++ t ∷ [])) (sym works.groups) (may_now tells opening ts [] t a b through new works let_in tl (ap was_opened at.phase)));
    stood = stood_on tells opening ts [] t a b through new works let_in;
  }

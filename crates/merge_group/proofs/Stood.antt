-- What a crash commits while one group of a site goes its way, and no gate of another is open.
use Rattle.std.proofs.Common.{◌≡◌, ◌⊎◌, ◌++◌, ◌∙◌, ℕ, Bool, true, false, not, List, [], ◌∷◌, filter, inl, inr, refl, sym, ap, subst, append-nil, arith}
use Rattle.std.specs.List.{AllByRecursion}
use Rattle.std.proofs.lemmas.Bool.{cases_eq, cond-false, cond-true}
use Rattle.basics.specs.Members.{Has}
use Rattle.basics.proofs.Membership.{has-append_right, has-filter_back}
use Rattle.file_tree.specs.Disk.{Map}
use Rattle.merge_journal.specs.Names.{gate_path}
use Rattle.merge_journal.specs.Open.{IsRising, open_groups}
use Rattle.merge_journal.proofs.Opened.{open_groups_rise}
use Rattle.merge_journal.specs.Group.{Group, applied, groups}
use Rattle.merge_journal.proofs.Forms.{has_groups}
use Rattle.merge_core.specs.Event.{Abandon, Acknowledge, Begin, Claim, CloseGate, Event, OpenGate, PlacePath, PutRecord, PutStage, PutToken, RemovePath, SyncClosed, SyncGate, SyncPlaced, SyncSealed, answered, begun}
use Rattle.merge_core.specs.Phase.{Phase, Idle, Building, Recorded, Marked, Sealed, Claimed, GatePut, Open, Placed, GateTaken, Done, Told, Abandoned, Redo, Redone, Odd, Emptied, is_settled, may_end, was_opened}
use Rattle.merge_core.specs.Roll.{Machine, Roll, Standing, RecoversCommitted, committed, group_at, others, phase_at}
use Rattle.merge_core.specs.Trail.{Entry, machine_after}
use Rattle.merge_core.proofs.Standings.{set_here}
use Rattle.merge_site.specs.Site.{StoodDuring}
use Rattle.merge_group.specs.Working.{AreInTurn, IsInTurn, group_of_event, is_shut}
use Rattle.recovery.specs.Found.{HasTooManyGates}
use Rattle.recovery.specs.Promise.{RecoversTo}
use Rattle.recovery.proofs.Gates.{gates_within}
use Rattle.basics.proofs.Tests.{none_is_not_some}
use Rattle.merge_group.proofs.Rest.{shut_owed}
use Rattle.merge_core.proofs.Images.{settled_opened}
use Rattle.merge_core.proofs.Stays.{Stays, stays_then}
use Rattle.merge_group.proofs.Went.{begun_stays, stays_along}
use Rattle.merge_group.proofs.Worked.{keeps_group, order_answered, order_begun, others_answered, others_begun, same_answered, same_begun, settles}

-- ---- what is open of a map

-- a rising list all of whose kept members are one number keeps it once, or nothing
kept_step : (test : ℕ → Bool) (g k : ℕ) (ns : List ℕ) (b : Bool) → test k ≡ b → IsRising (k ∷ ns) → ((n : ℕ) → Has (filter test (k ∷ ns)) n → n ≡ g) → (((n : ℕ) → Has (filter test ns) n → n ≡ g) → (filter test ns ≡ []) ⊎ (filter test ns ≡ g ∷ []))
    → (filter test (k ∷ ns) ≡ []) ⊎ (filter test (k ∷ ns) ≡ g ∷ [])
kept_step test g k ns false e rising only rest =
    let is : filter test (k ∷ ns) ≡ filter test ns = cond-false (test k) (k ∷ filter test ns) (filter test ns) e in
    elim (rest (λ n has. only n (subst (λ (l : List ℕ). Has l n) (sym is) has))) [
      | inl none ↦ inl (is ∙ none)
      | inr one ↦ inr (is ∙ one)
    ]
kept_step test g k ns true e rising only rest =
    let is : filter test (k ∷ ns) ≡ k ∷ filter test ns = cond-true (test k) (k ∷ filter test ns) (filter test ns) e in
    let here = only k (subst (λ (l : List ℕ). Has l k) (sym is) (inl refl)) in
    elim (rest (λ n has. only n (subst (λ (l : List ℕ). Has l n) (sym is) (inr has)))) [
      | inl none ↦ inr (is ∙ (ap (λ (l : List ℕ). k ∷ l) none ∙ ap (λ (n : ℕ). n ∷ []) here))
      | inr one ↦
          (let there = has-filter_back test ns g (subst (λ (l : List ℕ). Has l g) (sym one) (inl refl)) in
          let less = rising.0 g there.0 in
          absurd (omega (arith, less, here)))
    ]

kept_one : (test : ℕ → Bool) (g : ℕ) (ns : List ℕ) → IsRising ns → ((n : ℕ) → Has (filter test ns) n → n ≡ g) → (filter test ns ≡ []) ⊎ (filter test ns ≡ g ∷ [])
kept_one test g [] rising only = inl refl
kept_one test g (k ∷ ns) rising only = kept_step test g k ns (test k) refl rising only (kept_one test g ns rising.1)

-- ---- what is committed of a roll

-- no gate of another group stands
abbrev pub Rests : ℕ → Roll → Type 0
Rests g r = (h : ℕ) → (h ≡ g → ⊥) → is_shut (phase_at r h) ≡ true

-- a group that was opened and whose gate doesn't stand is settled
shut_settled : (p : Phase) → is_shut p ≡ true → was_opened p ≡ true → is_settled p ≡ true
shut_settled Idle e o = absurd (cc o)
shut_settled Building e o = absurd (cc o)
shut_settled Recorded e o = absurd (cc o)
shut_settled Marked e o = absurd (cc o)
shut_settled Sealed e o = absurd (cc o)
shut_settled Claimed e o = absurd (cc o)
shut_settled GatePut e o = absurd (cc e)
shut_settled Open e o = absurd (cc e)
shut_settled Placed e o = absurd (cc e)
shut_settled GateTaken e o = absurd (cc e)
shut_settled Done e o = refl
shut_settled Told e o = refl
shut_settled Abandoned e o = absurd (cc o)
shut_settled Redo e o = absurd (cc e)
shut_settled Redone e o = absurd (cc e)
shut_settled Odd e o = absurd (cc o)
shut_settled Emptied e o = absurd (cc e)

-- recovery takes what a crash leaves where one gate stands at most
pub one_gate : (opening : Map) (g : ℕ) (r : Roll) (c : Map) → Rests g r → RecoversCommitted opening r c → HasTooManyGates c → ⊥
one_gate opening g r c rests stands = gates_within c (g ∷ []) (λ h none. absurd none, tt) (omega arith) (λ h small some. elim (cases_eq h g) [
  | inl same ↦ inl (sym same)
  | inr other ↦ absurd (none_is_not_some (c (gate_path h)) (stands.gates h small (shut_owed (opening (gate_path h)) (phase_at r h) (rests h other))) some)
])

-- the order is this, or the group is settled and has come behind it
abbrev pub Grew : List Group → ℕ → Roll → Type 0
Grew xs g r =
    ((r.order ≡ xs) × (is_settled (phase_at r g) ≡ false)) ⊎ ((r.order ≡ xs ++ group_at r g ∷ []) × (is_settled (phase_at r g) ≡ true))

-- these groups, or these and one whose gate was opened
abbrev pub IsNext : List Group → ℕ → Roll → List Group → Type 0
IsNext xs g r ys = (ys ≡ xs) ⊎ ((was_opened (phase_at r g) ≡ true) × (ys ≡ xs ++ group_at r g ∷ []))

open_unsettled : (r : Roll) (c : Map) (n : ℕ) → Has (others r c) n → is_settled (phase_at r n) ≡ false
open_unsettled r c n has = unset (is_settled (phase_at r n)) (has-filter_back (λ g. not (is_settled (phase_at r g))) (open_groups c) n has).1 where
  unset : (b : Bool) → not b ≡ true → b ≡ false
  unset true e = absurd (cc e)
  unset false e = refl

open_opened : (opening : Map) (r : Roll) (c : Map) (n : ℕ) → RecoversCommitted opening r c → Has (others r c) n → was_opened (phase_at r n) ≡ true
open_opened opening r c n stands has =
    (stands.opened (group_at r n) (has-append_right r.order (groups (group_at r) (others r c)) (group_at r n) (has_groups (group_at r) (others r c) n has))).0

others_one : (opening : Map) (g : ℕ) (r : Roll) (c : Map) → Rests g r → RecoversCommitted opening r c → (others r c ≡ []) ⊎ (others r c ≡ g ∷ [])
others_one opening g r c rests stands =
    kept_one (λ h. not (is_settled (phase_at r h))) g (open_groups c) (open_groups_rise c) (λ n has. elim (cases_eq n g) [
      | inl same ↦ same
      | inr other ↦ absurd (cc (shut_settled (phase_at r n) (rests n other) (open_opened opening r c n stands has), open_unsettled r c n has))
    ])

-- a crash commits the order from before, or the group behind it
pub committed_next : (opening : Map) (xs : List Group) (g : ℕ) (r : Roll) (c : Map) → Rests g r → Grew xs g r → RecoversCommitted opening r c → IsNext xs g r (committed r c)
committed_next opening xs g r c rests grew stands = elim (others_one opening g r c rests stands) [
  | inl none ↦
      (let is : committed r c ≡ r.order = ap (λ (l : List ℕ). r.order ++ groups (group_at r) l) none ∙ append-nil r.order in
      elim grew [
        | inl before ↦ inl (is ∙ before.0)
        | inr behind ↦ inr (settled_opened (phase_at r g) behind.1, is ∙ behind.0)
      ])
  | inr one ↦
      (let there : Has (others r c) g = subst (λ (l : List ℕ). Has l g) (sym one) (inl refl) in
      elim grew [
        | inl before ↦
            inr (open_opened opening r c g stands there, ap (λ (l : List ℕ). r.order ++ groups (group_at r) l) one ∙ ap (λ (l : List Group). l ++ group_at r g ∷ []) before.0)
        | inr behind ↦ absurd (cc (open_unsettled r c g there, behind.1))
      ])
]

-- where no gate stands, a crash commits the order
pub committed_rests : (opening : Map) (r : Roll) (c : Map) → ((g : ℕ) → Rests g r) → RecoversCommitted opening r c → committed r c ≡ r.order
committed_rests opening r c rests stands = elim (others_one opening 0 r c (rests 0) stands) [
  | inl none ↦ (ap (λ (l : List ℕ). r.order ++ groups (group_at r) l) none ∙ append-nil r.order)
  | inr one ↦
      (let there : Has (others r c) 0 = subst (λ (l : List ℕ). Has l 0) (sym one) (inl refl) in
      absurd (cc (shut_settled (phase_at r 0) (rests 1 0 (λ e. cc e)) (open_opened opening r c 0 stands there), open_unsettled r c 0 there)))
]

-- ---- along the events of a group

grew_still : (xs : List Group) (g : ℕ) (r r' : Roll) → r'.order ≡ r.order → is_settled (phase_at r' g) ≡ is_settled (phase_at r g) → (is_settled (phase_at r g) ≡ true → group_at r' g ≡ group_at r g) → Grew xs g r → Grew xs g r'
grew_still xs g r r' order same group (inl before) = inl (order ∙ before.0, same ∙ before.1)
grew_still xs g r r' order same group (inr behind) = inr (order ∙ (behind.0 ∙ ap (λ (x : Group). xs ++ x ∷ []) (sym (group behind.1))), same ∙ behind.1)

ends_unsettled : (p : Phase) → may_end p ≡ true → is_settled p ≡ false
ends_unsettled Idle e = refl
ends_unsettled Building e = refl
ends_unsettled Recorded e = refl
ends_unsettled Marked e = refl
ends_unsettled Sealed e = refl
ends_unsettled Claimed e = refl
ends_unsettled GatePut e = refl
ends_unsettled Open e = refl
ends_unsettled Placed e = absurd (cc e)
ends_unsettled GateTaken e = absurd (cc e)
ends_unsettled Done e = absurd (cc e)
ends_unsettled Told e = absurd (cc e)
ends_unsettled Abandoned e = refl
ends_unsettled Redo e = absurd (cc e)
ends_unsettled Redone e = absurd (cc e)
ends_unsettled Odd e = refl
ends_unsettled Emptied e = refl

settled_begun : (m : Machine) (e : Event) → IsInTurn m e → is_settled (phase_at (begun m e).roll (group_of_event e)) ≡ is_settled (phase_at m.roll (group_of_event e))
settled_begun m (Begin g) a = refl
settled_begun m (PutStage g p o) a = ap (λ (s : Standing). is_settled s.phase) (set_here m.roll g _)
settled_begun m (PutRecord g removals) a = ap (λ (s : Standing). is_settled s.phase) (set_here m.roll g _)
settled_begun m (PutToken g) a = ap (λ (s : Standing). is_settled s.phase) (set_here m.roll g _)
settled_begun m (SyncSealed g) a = refl
settled_begun m (Claim g) a = refl
settled_begun m (OpenGate g) a = ap (λ (s : Standing). is_settled s.phase) (set_here m.roll g _) ∙ sym (ap is_settled a)
settled_begun m (SyncGate g) a = refl
settled_begun m (PlacePath g) a = ap (λ (s : Standing). is_settled s.phase) (set_here m.roll g _)
settled_begun m (RemovePath g) a = ap (λ (s : Standing). is_settled s.phase) (set_here m.roll g _)
settled_begun m (SyncPlaced g) a = refl
settled_begun m (CloseGate g) a = ap (λ (s : Standing). is_settled s.phase) (set_here m.roll g _) ∙ sym (ap is_settled a)
settled_begun m (SyncClosed g) a = refl
settled_begun m (Acknowledge g) a = refl
settled_begun m (Abandon g) a = refl

grew_begun : (xs : List Group) (m : Machine) (e : Event) → IsInTurn m e → Grew xs (group_of_event e) m.roll → Grew xs (group_of_event e) (begun m e).roll
grew_begun xs m e a = grew_still xs (group_of_event e) m.roll (begun m e).roll (order_begun m e) (settled_begun m e a) (λ settled. same_begun m e)

-- an event of a group that isn't settled and doesn't get so
unsettled_kept : (xs : List Group) (m : Machine) (e : Event) → settles e ≡ false → is_settled (phase_at m.roll (group_of_event e)) ≡ false → is_settled (phase_at (answered m e true).roll (group_of_event e)) ≡ false
    → Grew xs (group_of_event e) m.roll → Grew xs (group_of_event e) (answered m e true).roll
unsettled_kept xs m e other old new =
    grew_still xs (group_of_event e) m.roll (answered m e true).roll (order_answered m e true other) (new ∙ sym old) (λ settled. absurd (cc (settled, old)))

-- an event of a settled group that leaves it so
settled_kept : (xs : List Group) (m : Machine) (e : Event) → settles e ≡ false → keeps_group e ≡ true → is_settled (phase_at (answered m e true).roll (group_of_event e)) ≡ is_settled (phase_at m.roll (group_of_event e))
    → Grew xs (group_of_event e) m.roll → Grew xs (group_of_event e) (answered m e true).roll
settled_kept xs m e other keeps same =
    grew_still xs (group_of_event e) m.roll (answered m e true).roll (order_answered m e true other) same (λ settled. same_answered m e true keeps)

grew_done : (xs : List Group) (m : Machine) (e : Event) → IsInTurn m e → Grew xs (group_of_event e) m.roll → Grew xs (group_of_event e) (answered m e true).roll
grew_done xs m (Begin g) a h = unsettled_kept xs m (Begin g) refl (ap is_settled a) (ap (λ (s : Standing). is_settled s.phase) (set_here m.roll g _)) h
grew_done xs m (PutStage g p o) a h = unsettled_kept xs m (PutStage g p o) refl (ap is_settled a) (ap (λ (s : Standing). is_settled s.phase) (set_here m.roll g _) ∙ ap is_settled a) h
grew_done xs m (PutRecord g removals) a h = unsettled_kept xs m (PutRecord g removals) refl (ap is_settled a) (ap (λ (s : Standing). is_settled s.phase) (set_here m.roll g _)) h
grew_done xs m (PutToken g) a h = unsettled_kept xs m (PutToken g) refl (ap is_settled a) (ap (λ (s : Standing). is_settled s.phase) (set_here m.roll g _)) h
grew_done xs m (SyncSealed g) a h = unsettled_kept xs m (SyncSealed g) refl (ap is_settled a) (ap (λ (s : Standing). is_settled s.phase) (set_here m.roll g _)) h
grew_done xs m (Claim g) a h = unsettled_kept xs m (Claim g) refl (ap is_settled a) (ap (λ (s : Standing). is_settled s.phase) (set_here m.roll g _)) h
grew_done xs m (OpenGate g) a h = unsettled_kept xs m (OpenGate g) refl (ap is_settled a) (ap (λ (s : Standing). is_settled s.phase) (set_here m.roll g _)) h
grew_done xs m (SyncGate g) a h = unsettled_kept xs m (SyncGate g) refl (ap is_settled a) (ap (λ (s : Standing). is_settled s.phase) (set_here m.roll g _)) h
grew_done xs m (PlacePath g) a h = unsettled_kept xs m (PlacePath g) refl (ap is_settled a) (ap (λ (s : Standing). is_settled s.phase) (set_here m.roll g _) ∙ ap is_settled a) h
grew_done xs m (RemovePath g) a h = unsettled_kept xs m (RemovePath g) refl (ap is_settled a) (ap (λ (s : Standing). is_settled s.phase) (set_here m.roll g _) ∙ ap is_settled a) h
grew_done xs m (SyncPlaced g) a (inl before) = inr (
  ap (λ (l : List Group). l ++ group_at m.roll g ∷ []) before.0 ∙ ap (λ (x : Group). xs ++ x ∷ []) (sym (same_answered m (SyncPlaced g) true refl)),
  ap (λ (s : Standing). is_settled s.phase) (set_here m.roll g _),
)
grew_done xs m (SyncPlaced g) a (inr behind) = absurd (cc (ap is_settled a, behind.1))
grew_done xs m (CloseGate g) a h = settled_kept xs m (CloseGate g) refl refl (ap (λ (s : Standing). is_settled s.phase) (set_here m.roll g _) ∙ sym (ap is_settled a)) h
grew_done xs m (SyncClosed g) a h = settled_kept xs m (SyncClosed g) refl refl (ap (λ (s : Standing). is_settled s.phase) (set_here m.roll g _) ∙ sym (ap is_settled a)) h
grew_done xs m (Acknowledge g) a h = settled_kept xs m (Acknowledge g) refl refl (ap (λ (s : Standing). is_settled s.phase) (set_here m.roll g _) ∙ sym (ap is_settled a)) h
grew_done xs m (Abandon g) a h = unsettled_kept xs m (Abandon g) refl (ends_unsettled (phase_at m.roll g) a) (ap (λ (s : Standing). is_settled s.phase) (set_here m.roll g _)) h

grew_answered : (xs : List Group) (m : Machine) (e : Event) (ok : Bool) → IsInTurn m e → Grew xs (group_of_event e) m.roll → Grew xs (group_of_event e) (answered m e ok).roll
grew_answered xs m e true a h = grew_done xs m e a h
grew_answered xs m e false a h = grew_begun xs m e a h

rests_on : (g : ℕ) (r r' : Roll) → ((h : ℕ) → (h ≡ g → ⊥) → r'.standing h ≡ r.standing h) → Rests g r → Rests g r'
rests_on g r r' same rests h other = ap (λ (s : Standing). is_shut s.phase) (same h other) ∙ rests h other

-- the group of an event that has come so far
abbrev Come : List Group → ℕ → Machine → Type 0
Come xs g m = Rests g m.roll × Grew xs g m.roll

come_begun : (xs : List Group) (g : ℕ) (m : Machine) (e : Event) → group_of_event e ≡ g → IsInTurn m e → Come xs g m → Come xs g (begun m e)
come_begun xs g m e mine a =
    subst (λ (k : ℕ). Come xs k m → Come xs k (begun m e)) mine (λ h. (rests_on (group_of_event e) m.roll (begun m e).roll (others_begun m e) h.0, grew_begun xs m e a h.1))

come_answered : (xs : List Group) (g : ℕ) (m : Machine) (e : Event) (ok : Bool) → group_of_event e ≡ g → IsInTurn m e → Come xs g m → Come xs g (answered m e ok)
come_answered xs g m e ok mine a =
    subst (λ (k : ℕ). Come xs k m → Come xs k (answered m e ok)) mine (λ h. (rests_on (group_of_event e) m.roll (answered m e ok).roll (others_answered m e ok) h.0, grew_answered xs m e ok a h.1))

-- what holds of a group behind its events
pub come_along : (xs : List Group) (g : ℕ) (m : Machine) (es : List Entry) → AllByRecursion (λ (e : Entry). group_of_event e.0 ≡ g) es → AreInTurn m es → Rests g m.roll → Grew xs g m.roll
    → Rests g (machine_after m es).roll × Grew xs g (machine_after m es).roll
come_along xs g m [] mine turns rests grew = (rests, grew)
come_along xs g m (e ∷ es) mine turns rests grew =
    let next = come_answered xs g m e.0 e.1 mine.0 turns.0 (rests, grew) in
    come_along xs g (answered m e.0 e.1) es mine.1 turns.1 next.0 next.1

-- that of which recovery makes the opening with these groups, or these and one that is open in the end
abbrev pub RecoversNext : Map → List Group → ℕ → Roll → Map → Type 0
RecoversNext opening xs g end c = (ys : List Group) × IsNext xs g end ys × RecoversTo c (applied opening ys)

next_stays : (xs : List Group) (g : ℕ) (r end : Roll) (ys : List Group) → Stays r end → IsNext xs g r ys → IsNext xs g end ys
next_stays xs g r end ys stays (inl before) = inl before
next_stays xs g r end ys stays (inr behind) =
    let k = stays g behind.0 in
    inr (k.0, behind.1 ∙ ap (λ (x : Group). xs ++ x ∷ []) (sym k.1))

stands_next : (opening : Map) (xs : List Group) (g : ℕ) (r end : Roll) (c : Map) → Stays r end → Rests g r → Grew xs g r → RecoversCommitted opening r c → RecoversNext opening xs g end c
stands_next opening xs g r end c stays rests grew stands = (committed r c, next_stays xs g r end (committed r c) stays (committed_next opening xs g r c rests grew stands), (stands.recovers, one_gate opening g r c rests stands))

-- a crash while a group goes its way
pub during_next : (opening : Map) (xs : List Group) (g : ℕ) (m : Machine) (es : List Entry) (c : Map) → AllByRecursion (λ (e : Entry). group_of_event e.0 ≡ g) es → AreInTurn m es → Rests g m.roll → Grew xs g m.roll → StoodDuring opening m es c
    → RecoversNext opening xs g (machine_after m es).roll c
during_next opening xs g m [] c mine turns rests grew stood = stands_next opening xs g m.roll m.roll c (λ h o. (o, refl)) rests grew stood
during_next opening xs g m (e ∷ es) c mine turns rests grew (inl stood) =
    let next = answered m e.0 e.1 in
    let k = come_begun xs g m e.0 mine.0 turns.0 (rests, grew) in
    stands_next opening xs g (begun m e.0).roll (machine_after next es).roll c (stays_then (begun m e.0).roll next.roll (machine_after next es).roll (begun_stays m e.0 e.1 turns.0) (stays_along next es turns.1)) k.0 k.1 stood
during_next opening xs g m (e ∷ es) c mine turns rests grew (inr later) =
    let k = come_answered xs g m e.0 e.1 mine.0 turns.0 (rests, grew) in
    during_next opening xs g (answered m e.0 e.1) es c mine.1 turns.1 k.0 k.1 later

-- a crash during some events and then others was during the ones or the others
pub during_split : (opening : Map) (m : Machine) (es fs : List Entry) (c : Map) → StoodDuring opening m (es ++ fs) c → StoodDuring opening m es c ⊎ StoodDuring opening (machine_after m es) fs c
during_split opening m [] fs c stood = inr stood
during_split opening m (e ∷ es) fs c (inl stood) = inl (inl stood)
during_split opening m (e ∷ es) fs c (inr later) = elim (during_split opening (answered m e.0 e.1) es fs c later) [
  | inl before ↦ inl (inr before)
  | inr behind ↦ inr behind
]

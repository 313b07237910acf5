-- What a crash leaves while groups are merged by a site, and what the tree holds at the end.
use Rattle.std.proofs.Common.{◌≡◌, ℕ, Bool, true, false, List, [], ◌∷◌, refl, sym, ap, ◌∙◌, inl, inr}
use Rattle.std.proofs.lemmas.Bool.{cases_Bool}
use Rattle.merge_core.specs.Event.{Abandon, Acknowledge, Begin, Claim, CloseGate, Event, OpenGate, PlacePath, PutRecord, PutStage, PutToken, RemovePath, SyncClosed, SyncGate, SyncPlaced, SyncSealed, answered, begun, done}
use Rattle.merge_core.specs.Phase.{Phase, Idle, Building, Recorded, Marked, Sealed, Claimed, GatePut, Open, Placed, GateTaken, Done, Told, Abandoned, Redo, Redone, Odd, Emptied, may_end, was_opened}
use Rattle.merge_core.specs.Roll.{Machine, Roll, Standing, group_at, phase_at, set}
use Rattle.merge_core.specs.Trail.{Entry, machine_after}
use Rattle.merge_core.proofs.Standings.{by_group}
use Rattle.merge_core.proofs.Stays.{Stays, on_stays, shut_stays, stays_then}
use Rattle.merge_group.specs.Working.{AreInTurn, IsInTurn}

pub not_opened : (p : Phase) → may_end p ≡ true → was_opened p ≡ false
not_opened Idle e = refl
not_opened Building e = refl
not_opened Recorded e = refl
not_opened Marked e = refl
not_opened Sealed e = refl
not_opened Claimed e = refl
not_opened GatePut e = absurd (cc e)
not_opened Open e = absurd (cc e)
not_opened Placed e = absurd (cc e)
not_opened GateTaken e = absurd (cc e)
not_opened Done e = absurd (cc e)
not_opened Told e = absurd (cc e)
not_opened Abandoned e = refl
not_opened Redo e = absurd (cc e)
not_opened Redone e = absurd (cc e)
not_opened Odd e = refl
not_opened Emptied e = absurd (cc e)

stays_done : (m : Machine) (e : Event) → IsInTurn m e → Stays m.roll (done m e).roll
stays_done m (Begin g) a = shut_stays m.roll g _ m.roll.order Idle a refl
stays_done m (PutStage g p o) a = shut_stays m.roll g _ m.roll.order Building a refl
stays_done m (PutRecord g removals) a = shut_stays m.roll g _ m.roll.order Building a refl
stays_done m (PutToken g) a = shut_stays m.roll g _ m.roll.order Recorded a refl
stays_done m (SyncSealed g) a = shut_stays m.roll g _ m.roll.order Marked a refl
stays_done m (Claim g) a = shut_stays m.roll g _ m.roll.order Sealed a refl
stays_done m (OpenGate g) a = shut_stays m.roll g _ m.roll.order Claimed a refl
stays_done m (SyncGate g) a = on_stays m.roll g _ m.roll.order (λ o. (refl, refl))
stays_done m (PlacePath g) a = on_stays m.roll g _ m.roll.order (λ o. (o, refl))
stays_done m (RemovePath g) a = on_stays m.roll g _ m.roll.order (λ o. (o, refl))
stays_done m (SyncPlaced g) a = on_stays m.roll g _ m.roll.order (λ o. (refl, refl))
stays_done m (CloseGate g) a = on_stays m.roll g _ m.roll.order (λ o. (refl, refl))
stays_done m (SyncClosed g) a = on_stays m.roll g _ m.roll.order (λ o. (refl, refl))
stays_done m (Acknowledge g) a = on_stays m.roll g _ m.roll.order (λ o. (refl, refl))
stays_done m (Abandon g) a = shut_stays m.roll g _ m.roll.order (phase_at m.roll g) refl (not_opened (phase_at m.roll g) a)

stays_begun : (m : Machine) (e : Event) → IsInTurn m e → Stays m.roll (begun m e).roll
stays_begun m (Begin g) a = λ h o. (o, refl)
stays_begun m (PutStage g p o) a = on_stays m.roll g _ m.roll.order (λ o. (o, refl))
stays_begun m (PutRecord g removals) a = on_stays m.roll g _ m.roll.order (λ o. (o, refl))
stays_begun m (PutToken g) a = on_stays m.roll g _ m.roll.order (λ o. (o, refl))
stays_begun m (SyncSealed g) a = λ h o. (o, refl)
stays_begun m (Claim g) a = λ h o. (o, refl)
stays_begun m (OpenGate g) a = shut_stays m.roll g _ m.roll.order Claimed a refl
stays_begun m (SyncGate g) a = λ h o. (o, refl)
stays_begun m (PlacePath g) a = on_stays m.roll g _ m.roll.order (λ o. (o, refl))
stays_begun m (RemovePath g) a = on_stays m.roll g _ m.roll.order (λ o. (o, refl))
stays_begun m (SyncPlaced g) a = λ h o. (o, refl)
stays_begun m (CloseGate g) a = on_stays m.roll g _ m.roll.order (λ o. (refl, refl))
stays_begun m (SyncClosed g) a = λ h o. (o, refl)
stays_begun m (Acknowledge g) a = λ h o. (o, refl)
stays_begun m (Abandon g) a = λ h o. (o, refl)

stays_answered : (m : Machine) (e : Event) (ok : Bool) → IsInTurn m e → Stays m.roll (answered m e ok).roll
stays_answered m e true a = stays_done m e a
stays_answered m e false a = stays_begun m e a

-- what opens a gate does so from the beginning of its call
same_shut : (r : Roll) (g : ℕ) (s : Standing) (h : ℕ) → s.phase ≡ phase_at r g → was_opened (phase_at r h) ≡ false → was_opened (phase_at (set r g s) h) ≡ true → ⊥
same_shut r g s h phase shut opened =
    cc (by_group (λ i x. was_opened (phase_at r i) ≡ false → was_opened x.phase ≡ false) r g s (λ e. ap was_opened phase ∙ e) (λ i ne e. e) h shut, opened)

opens_begun : (m : Machine) (e : Event) (ok : Bool) (h : ℕ) → IsInTurn m e → was_opened (phase_at m.roll h) ≡ false → was_opened (phase_at (begun m e).roll h) ≡ true → (answered m e ok).roll ≡ (begun m e).roll
opens_begun m e false h a shut opened = refl
opens_begun m (OpenGate g) true h a shut opened = refl
opens_begun m (CloseGate g) true h a shut opened = refl
opens_begun m (PutStage g p o) true h a shut opened = absurd (same_shut m.roll g _ h refl shut opened)
opens_begun m (PutRecord g removals) true h a shut opened = absurd (same_shut m.roll g _ h refl shut opened)
opens_begun m (PutToken g) true h a shut opened = absurd (same_shut m.roll g _ h refl shut opened)
opens_begun m (PlacePath g) true h a shut opened = absurd (same_shut m.roll g _ h refl shut opened)
opens_begun m (RemovePath g) true h a shut opened = absurd (same_shut m.roll g _ h refl shut opened)
opens_begun m (Begin g) true h a shut opened = absurd (cc (shut, opened))
opens_begun m (SyncSealed g) true h a shut opened = absurd (cc (shut, opened))
opens_begun m (Claim g) true h a shut opened = absurd (cc (shut, opened))
opens_begun m (SyncGate g) true h a shut opened = absurd (cc (shut, opened))
opens_begun m (SyncPlaced g) true h a shut opened = absurd (cc (shut, opened))
opens_begun m (SyncClosed g) true h a shut opened = absurd (cc (shut, opened))
opens_begun m (Acknowledge g) true h a shut opened = absurd (cc (shut, opened))
opens_begun m (Abandon g) true h a shut opened = absurd (cc (shut, opened))

pub begun_stays : (m : Machine) (e : Event) (ok : Bool) → IsInTurn m e → Stays (begun m e).roll (answered m e ok).roll
begun_stays m e ok a h opened = elim (cases_Bool (was_opened (phase_at m.roll h))) [
  | inl was ↦ (let one = stays_answered m e ok a h was in let two = stays_begun m e a h was in (one.0, one.1 ∙ sym two.1))
  | inr shut ↦ (let same = opens_begun m e ok h a shut opened in (ap (λ (r : Roll). was_opened (phase_at r h)) same ∙ opened, ap (λ (r : Roll). group_at r h) same))
]

pub stays_along : (m : Machine) (es : List Entry) → AreInTurn m es → Stays m.roll (machine_after m es).roll
stays_along m [] all = λ h o. (o, refl)
stays_along m (e ∷ es) all = stays_then m.roll (answered m e.0 e.1).roll (machine_after (answered m e.0 e.1) es).roll (stays_answered m e.0 e.1 all.0) (stays_along (answered m e.0 e.1) es all.1)

-- A group whose gate was put stays such a group, and does what it did, whatever comes.
use Rattle.std.proofs.Common.{◌≡◌, ◌++◌, ◌∷◌, ℕ, Bool, true, false, [], List, refl, sym, ap, ◌∙◌}
use Rattle.file_tree.specs.Disk.{Story}
use Rattle.merge_journal.specs.Group.{Group}
use Rattle.merge_core.specs.Event.{Abandon, Acknowledge, Admits, Begin, Claim, CloseGate, Event, OpenGate, PlacePath, PutRecord, PutStage, PutToken, RemovePath, SyncClosed, SyncGate, SyncPlaced, SyncSealed, answered, begun}
use Rattle.merge_core.specs.Order.{IsListed}
use Rattle.merge_core.specs.Phase.{Phase, Idle, Building, Recorded, Marked, Sealed, Claimed, GatePut, Open, Placed, GateTaken, Done, Told, Abandoned, is_settled, may_end, was_opened}
use Rattle.merge_core.specs.Roll.{Machine, Roll, Standing, group_at, group_of, phase_at, set}
use Rattle.merge_core.specs.Trail.{Entry, Happens, machine_after}
use Rattle.merge_core.proofs.Standings.{by_group, listed_set, set_with}
use Rattle.merge_core.proofs.Stays.{Stays, on_stays, same_stays, shut_stays, stays_then}

-- two standings of one group
two_stay : (r : Roll) (g : ℕ) (s t : Standing) (order : List Group) → (was_opened s.phase ≡ true → (was_opened t.phase ≡ true) × (group_of g t ≡ group_of g s)) → Stays (set r g s) (set_with r g t order)
two_stay r g s t order here = by_group (λ h x. was_opened x.phase ≡ true → (was_opened (phase_at (set r g t) h) ≡ true) × (group_at (set r g t) h ≡ group_of h x)) r g s
    (by_group (λ h y. h ≡ g → was_opened s.phase ≡ true → (was_opened y.phase ≡ true) × (group_of h y ≡ group_of h s)) r g t (λ same. here) (λ h ne same. absurd (ne same)) g refl)
    (λ h ne. by_group (λ j y. (j ≡ g → ⊥) → was_opened (phase_at r j) ≡ true → (was_opened y.phase ≡ true) × (group_of j y ≡ group_at r j)) r g t (λ other. absurd (other refl)) (λ j away other o. (o, refl)) h ne)

-- an event begins
pub begun_stays : (m : Machine) (e : Event) → Admits m e → Stays m.roll (begun m e).roll
begun_stays m (Begin g) a = same_stays m.roll
begun_stays m (PutStage g p x) a = shut_stays m.roll g _ m.roll.order Building a.0 refl
begun_stays m (PutRecord g removals) a = shut_stays m.roll g _ m.roll.order Building a.0 refl
begun_stays m (PutToken g) a = shut_stays m.roll g _ m.roll.order Recorded a refl
begun_stays m (SyncSealed g) a = same_stays m.roll
begun_stays m (Claim g) a = same_stays m.roll
begun_stays m (OpenGate g) a = shut_stays m.roll g _ m.roll.order Claimed a refl
begun_stays m (SyncGate g) a = same_stays m.roll
begun_stays m (PlacePath g) a = on_stays m.roll g _ m.roll.order (λ o. (o, refl))
begun_stays m (RemovePath g) a = on_stays m.roll g _ m.roll.order (λ o. (o, refl))
begun_stays m (SyncPlaced g) a = same_stays m.roll
begun_stays m (CloseGate g) a = on_stays m.roll g _ m.roll.order (λ o. (refl, refl))
begun_stays m (SyncClosed g) a = same_stays m.roll
begun_stays m (Acknowledge g) a = same_stays m.roll
begun_stays m (Abandon g) a = same_stays m.roll

ends_shut : (p : Phase) → may_end p ≡ true → was_opened p ≡ true → ⊥
ends_shut Building e o = cc o
ends_shut Recorded e o = cc o
ends_shut Marked e o = cc o
ends_shut Sealed e o = cc o
ends_shut Idle e o = cc e
ends_shut Claimed e o = cc e
ends_shut GatePut e o = cc e
ends_shut Open e o = cc e
ends_shut Placed e o = cc e
ends_shut GateTaken e o = cc e
ends_shut Done e o = cc e
ends_shut Told e o = cc e
ends_shut Abandoned e o = cc e
ends_shut p e o = cc e

-- and is answered
pub answer_stays : (m : Machine) (e : Event) (ok : Bool) → Admits m e → Stays (begun m e).roll (answered m e ok).roll
answer_stays m e false a = same_stays (begun m e).roll
answer_stays m (Begin g) true a = shut_stays m.roll g _ m.roll.order Idle a.1 refl
answer_stays m (PutStage g p x) true a = two_stay m.roll g _ _ m.roll.order (λ o. let k = sym o ∙ ap was_opened a.0 in absurd (cc k))
answer_stays m (PutRecord g removals) true a = two_stay m.roll g _ _ m.roll.order (λ o. let k = sym o ∙ ap was_opened a.0 in absurd (cc k))
answer_stays m (PutToken g) true a = two_stay m.roll g _ _ m.roll.order (λ o. let k = sym o ∙ ap was_opened a in absurd (cc k))
answer_stays m (SyncSealed g) true a = shut_stays m.roll g _ m.roll.order Marked a refl
answer_stays m (Claim g) true a = shut_stays m.roll g _ m.roll.order Sealed a.0 refl
answer_stays m (OpenGate g) true a = same_stays (begun m (OpenGate g)).roll
answer_stays m (SyncGate g) true a = on_stays m.roll g _ m.roll.order (λ o. (refl, refl))
answer_stays m (PlacePath g) true a = two_stay m.roll g _ _ m.roll.order (λ o. (o, refl))
answer_stays m (RemovePath g) true a = two_stay m.roll g _ _ m.roll.order (λ o. (o, refl))
answer_stays m (SyncPlaced g) true a = on_stays m.roll g _ (m.roll.order ++ group_at m.roll g ∷ []) (λ o. (refl, refl))
answer_stays m (CloseGate g) true a = same_stays (begun m (CloseGate g)).roll
answer_stays m (SyncClosed g) true a = on_stays m.roll g _ m.roll.order (λ o. (refl, refl))
answer_stays m (Acknowledge g) true a = on_stays m.roll g _ m.roll.order (λ o. (refl, refl))
answer_stays m (Abandon g) true a = on_stays m.roll g _ m.roll.order (λ o. absurd (ends_shut (phase_at m.roll g) a o))

-- and so with all events of a run
pub run_stays : (m : Machine) (old new : Story) (es : List Entry) → Happens m old es new → Stays m.roll (machine_after m es).roll
run_stays m old new [] h = same_stays m.roll
run_stays m old new (e ∷ es) h =
    stays_then m.roll (begun m e.0).roll (machine_after (answered m e.0 e.1) es).roll (begun_stays m e.0 h.2)
    (stays_then (begun m e.0).roll (answered m e.0 e.1).roll (machine_after (answered m e.0 e.1) es).roll (answer_stays m e.0 e.1 h.2)
    (run_stays (answered m e.0 e.1) h.0 new es h.4))

-- the order has just the settled groups also while an event is under way
pub begun_listed : (m : Machine) (e : Event) → Admits m e → IsListed m.roll → IsListed (begun m e).roll
begun_listed m (Begin g) a listed = listed
begun_listed m (PutStage g p x) a listed = listed_set m.roll g _ listed refl (λ o. refl)
begun_listed m (PutRecord g removals) a listed = listed_set m.roll g _ listed refl (λ o. refl)
begun_listed m (PutToken g) a listed = listed_set m.roll g _ listed refl (λ o. refl)
begun_listed m (SyncSealed g) a listed = listed
begun_listed m (Claim g) a listed = listed
begun_listed m (OpenGate g) a listed = listed_set m.roll g _ listed (sym (ap is_settled a)) (λ o. absurd (cc o))
begun_listed m (SyncGate g) a listed = listed
begun_listed m (PlacePath g) a listed = listed_set m.roll g _ listed refl (λ o. refl)
begun_listed m (RemovePath g) a listed = listed_set m.roll g _ listed refl (λ o. refl)
begun_listed m (SyncPlaced g) a listed = listed
begun_listed m (CloseGate g) a listed = listed_set m.roll g _ listed (sym (ap is_settled a)) (λ o. refl)
begun_listed m (SyncClosed g) a listed = listed
begun_listed m (Acknowledge g) a listed = listed
begun_listed m (Abandon g) a listed = listed

-- No event makes an open group change more paths than its record has.
use Rattle.std.proofs.Common.{◌≡◌, ◌<◌, ◌∙◌, ℕ, Bool, true, Ok, Err, Result, length, sym, subst, arith}
use Rattle.std.specs.Prelude.{is_ok, IsErrOf, OnOk, ⊤}
use Rattle.merge_core.specs.Event.{Abandon, Acknowledge, Begin, Claim, CloseGate, Event, OpenGate, PlacePath, PutRecord, PutStage, PutToken, RemovePath, SyncClosed, SyncGate, SyncPlaced, SyncSealed, done}
use Rattle.merge_core.specs.CoreValue.{machine_of}
use Rattle.merge_core.specs.Phase.{Building}
use Rattle.merge_core.specs.Roll.{Machine, phase_at}
use Rattle.merge_core.proofs.Standings.{by_group}
use Rattle.merge_site.specs.Site.{SiteValue, Adds}
use Rattle.ask_disk.specs.Three.{AreThree, IsWithin}

-- what an event needs, so that its group stays within its record
abbrev pub Turn : Machine → Event → Type 0
Turn m (PutStage g p o) = phase_at m.roll g ≡ Building
Turn m (PlacePath g) = (m.roll.standing g).placed < length (m.roll.standing g).placements
Turn m (RemovePath g) = (m.roll.standing g).removed < length (m.roll.standing g).removals
Turn m e = ⊤

within_done : (m : Machine) (e : Event) → Turn m e → ((g : ℕ) → IsWithin (m.roll.standing g)) → (h : ℕ) → IsWithin ((done m e).roll.standing h)
within_done m (Begin g) turn all h = by_group (λ i x. IsWithin x) m.roll g _ (λ e. absurd (cc e)) (λ i ne. all i) h
within_done m (PutStage g p o) turn all h = by_group (λ i x. IsWithin x) m.roll g _ (λ e. absurd (cc (sym turn ∙ e))) (λ i ne. all i) h
within_done m (PutRecord g removals) turn all h = by_group (λ i x. IsWithin x) m.roll g _ (λ e. absurd (cc e)) (λ i ne. all i) h
within_done m (PutToken g) turn all h = by_group (λ i x. IsWithin x) m.roll g _ (λ e. absurd (cc e)) (λ i ne. all i) h
within_done m (SyncSealed g) turn all h = by_group (λ i x. IsWithin x) m.roll g _ (λ e. absurd (cc e)) (λ i ne. all i) h
within_done m (Claim g) turn all h = by_group (λ i x. IsWithin x) m.roll g _ (λ e. absurd (cc e)) (λ i ne. all i) h
within_done m (OpenGate g) turn all h = by_group (λ i x. IsWithin x) m.roll g _ (λ e. absurd (cc e)) (λ i ne. all i) h
within_done m (SyncGate g) turn all h = by_group (λ i x. IsWithin x) m.roll g _ (λ e. (omega arith, omega arith)) (λ i ne. all i) h
within_done m (PlacePath g) turn all h = by_group (λ i x. IsWithin x) m.roll g _ (λ e. (omega (arith, turn), (all g e).1)) (λ i ne. all i) h
within_done m (RemovePath g) turn all h = by_group (λ i x. IsWithin x) m.roll g _ (λ e. ((all g e).0, omega (arith, turn))) (λ i ne. all i) h
within_done m (SyncPlaced g) turn all h = by_group (λ i x. IsWithin x) m.roll g _ (λ e. absurd (cc e)) (λ i ne. all i) h
within_done m (CloseGate g) turn all h = by_group (λ i x. IsWithin x) m.roll g _ (λ e. absurd (cc e)) (λ i ne. all i) h
within_done m (SyncClosed g) turn all h = by_group (λ i x. IsWithin x) m.roll g _ (λ e. absurd (cc e)) (λ i ne. all i) h
within_done m (Acknowledge g) turn all h = by_group (λ i x. IsWithin x) m.roll g _ (λ e. absurd (cc e)) (λ i ne. all i) h
within_done m (Abandon g) turn all h = by_group (λ i x. IsWithin x) m.roll g _ (λ e. absurd (cc e)) (λ i ne. all i) h

-- three groups are behind an event what they were before it
pub three_on : {T S : Type 0} (old new : SiteValue T S) (e : Event) → AreThree old.keeping → Turn (machine_of old.keeping) e → Adds old new e true → AreThree new.keeping
three_on old new e three turn adds = record {
  three = adds.count ∙ three.three;
  within = λ h. subst (λ (m : Machine). IsWithin (m.roll.standing h)) (sym adds.machine) (within_done (machine_of old.keeping) e turn three.within h);
}

-- the same, by whether the event answered Ok
pub three_if : {T S : Type 0} (old new : SiteValue T S) (e : Event) (ok : Bool) → AreThree old.keeping → Turn (machine_of old.keeping) e → Adds old new e ok → ok ≡ true → AreThree new.keeping
three_if old new e ok three turn adds is = three_on old new e three turn (subst (λ (b : Bool). Adds old new e b) is adds)

-- what holds of an answer of Ok, where it is one
pub on_ok : {A E : Type 0} (r : Result A E) (P : Type 0) → OnOk r P → is_ok r ≡ true → P
on_ok (Ok x) P holds is = holds
on_ok (Err e) P holds is = absurd (cc is)

pub no_error : {A E : Type 0} (r : Result A E) (e : E) → is_ok r ≡ true → IsErrOf r e → ⊥
no_error (Ok x) e is wrong = cc wrong
no_error (Err x) e is wrong = absurd (cc is)

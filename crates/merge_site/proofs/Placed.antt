-- What each group places behind an event.
use Rattle.std.proofs.Common.{◌≡◌, ℕ, Bool, true, false, [], refl, sym}
use Rattle.merge_core.specs.Event.{Abandon, Acknowledge, Admits, Begin, Claim, CloseGate, Event, OpenGate, PlacePath, PutRecord, PutStage, PutToken, RemovePath, SyncClosed, SyncGate, SyncPlaced, SyncSealed, answered}
use Rattle.merge_core.specs.Phase.{Idle}
use Rattle.merge_core.specs.Roll.{Machine, Roll, Standing, phase_at, set}
use Rattle.merge_core.proofs.Standings.{by_group}
use Rattle.merge_site.specs.Site.{is_stage}

-- the standing places what it placed, and nothing where the group hasn't begun
abbrev pub IsPlacedAs : Roll → ℕ → Standing → Type 0
IsPlacedAs r h x = (x.placements ≡ (r.standing h).placements) × (x.phase ≡ Idle → x.placements ≡ [])

module _ (m : Machine) (fresh : (h : ℕ) → phase_at m.roll h ≡ Idle → (m.roll.standing h).placements ≡ []) where
  set_placed : (g : ℕ) (s : Standing) → IsPlacedAs m.roll g s → (h : ℕ) → IsPlacedAs m.roll h ((set m.roll g s).standing h)
  set_placed g s here = by_group (IsPlacedAs m.roll) m.roll g s here (λ h other. (refl, fresh h))

  -- no other event adds a placement
  pub placed_same : (e : Event) (ok : Bool) → Admits m e → is_stage e ≡ false → (h : ℕ) → IsPlacedAs m.roll h ((answered m e ok).roll.standing h)
  placed_same (PutStage g p o) ok a none h = absurd (cc none)
  placed_same (Begin g) true a none h = set_placed g _ (sym (fresh g a.1), λ e. refl) h
  placed_same (PutRecord g removals) true a none h = set_placed g _ (refl, λ e. absurd (cc e)) h
  placed_same (PutToken g) true a none h = set_placed g _ (refl, λ e. absurd (cc e)) h
  placed_same (SyncSealed g) true a none h = set_placed g _ (refl, λ e. absurd (cc e)) h
  placed_same (Claim g) true a none h = set_placed g _ (refl, λ e. absurd (cc e)) h
  placed_same (OpenGate g) true a none h = set_placed g _ (refl, λ e. absurd (cc e)) h
  placed_same (SyncGate g) true a none h = set_placed g _ (refl, λ e. absurd (cc e)) h
  placed_same (PlacePath g) true a none h = set_placed g _ (refl, fresh g) h
  placed_same (RemovePath g) true a none h = set_placed g _ (refl, fresh g) h
  placed_same (SyncPlaced g) true a none h = set_placed g _ (refl, λ e. absurd (cc e)) h
  placed_same (CloseGate g) true a none h = set_placed g _ (refl, λ e. absurd (cc e)) h
  placed_same (SyncClosed g) true a none h = set_placed g _ (refl, λ e. absurd (cc e)) h
  placed_same (Acknowledge g) true a none h = set_placed g _ (refl, λ e. absurd (cc e)) h
  placed_same (Abandon g) true a none h = set_placed g _ (refl, λ e. absurd (cc e)) h
  placed_same (PutRecord g removals) false a none h = set_placed g _ (refl, fresh g) h
  placed_same (PutToken g) false a none h = set_placed g _ (refl, fresh g) h
  placed_same (OpenGate g) false a none h = set_placed g _ (refl, λ e. absurd (cc e)) h
  placed_same (PlacePath g) false a none h = set_placed g _ (refl, fresh g) h
  placed_same (RemovePath g) false a none h = set_placed g _ (refl, fresh g) h
  placed_same (CloseGate g) false a none h = set_placed g _ (refl, λ e. absurd (cc e)) h
  placed_same (Begin g) false a none h = (refl, fresh h)
  placed_same (SyncSealed g) false a none h = (refl, fresh h)
  placed_same (Claim g) false a none h = (refl, fresh h)
  placed_same (SyncGate g) false a none h = (refl, fresh h)
  placed_same (SyncPlaced g) false a none h = (refl, fresh h)
  placed_same (SyncClosed g) false a none h = (refl, fresh h)
  placed_same (Acknowledge g) false a none h = (refl, fresh h)
  placed_same (Abandon g) false a none h = (refl, fresh h)

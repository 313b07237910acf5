-- An event of a group, and stretches of them.
use Rattle.std.proofs.Common.{◌≡◌, ◌<◌, ◌++◌, inl, inr, ℕ, Bool, true, false, List, [], ◌∷◌, refl, sym, ap, subst, ◌∙◌, length, append-nil, append_assoc}
use Rattle.std.specs.List.{AllByRecursion}
use Rattle.std.proofs.lemmas.List.{get_or-set_other, length-set}
use Rattle.file_tree.specs.ObjectValue.{ObjectValue}
use Rattle.merge_record.specs.declared.record.Placement.{Placement}
use Rattle.owner_book.specs.declared.wish.Wish.{Wish}
use Rattle.merge_core.specs.Core.{standing_in}
use Rattle.merge_core.specs.Event.{Abandon, Acknowledge, Begin, Claim, CloseGate, Event, OpenGate, PlacePath, PutRecord, PutStage, PutToken, RemovePath, SyncClosed, SyncGate, SyncPlaced, SyncSealed, answered, begun, done}
use Rattle.merge_core.specs.CoreValue.{CoreValue, machine_of}
use Rattle.merge_core.specs.Steps.{IsDueFor, IsPhaseFor, IsTaken, event_of}
use Rattle.merge_core.specs.declared.step.Step.{Step}
use Rattle.merge_core.specs.declared.step.Step.TheVariants as steps
use Rattle.merge_core.specs.Payloads.{IsAt, IsRunning}
use Rattle.merge_core.specs.Phases.{phase_of}
use Rattle.merge_core.specs.Phase as pure
use Rattle.merge_core.specs.Phase.{may_end}
use Rattle.merge_core.specs.Roll.{Machine, Roll, Standing, group_of, idle, phase_at, set}
use Rattle.merge_core.specs.Trail.{Entry, machine_after}
use Rattle.merge_core.specs.declared.phase.Phase.{Phase}
use Rattle.merge_core.proofs.Standings.{by_group, set_here}
use Rattle.merge_site.specs.Booking.{wishes_at, with_wish}
use Rattle.merge_site.specs.Site.{SiteValue, Adds, KeepsHistory, is_stage}
use Rattle.merge_group.specs.Working.{AreInTurn, IsInTurn, IsRun, KeepsWishes, Stretch, Works, group_in, group_of_event, is_staged, standing_at}

apart : (r : Roll) (g : ℕ) (s : Standing) (h : ℕ) → (h ≡ g → ⊥) → (set r g s).standing h ≡ r.standing h
apart r g s h = by_group (λ i x. (i ≡ g → ⊥) → x ≡ r.standing i) r g s (λ ne. absurd (ne refl)) (λ i ne same. refl) h

others_done : (m : Machine) (e : Event) (h : ℕ) → (h ≡ group_of_event e → ⊥) → (done m e).roll.standing h ≡ m.roll.standing h
others_done m (Begin g) h ne = apart m.roll g _ h ne
others_done m (PutStage g p o) h ne = apart m.roll g _ h ne
others_done m (PutRecord g removals) h ne = apart m.roll g _ h ne
others_done m (PutToken g) h ne = apart m.roll g _ h ne
others_done m (SyncSealed g) h ne = apart m.roll g _ h ne
others_done m (Claim g) h ne = apart m.roll g _ h ne
others_done m (OpenGate g) h ne = apart m.roll g _ h ne
others_done m (SyncGate g) h ne = apart m.roll g _ h ne
others_done m (PlacePath g) h ne = apart m.roll g _ h ne
others_done m (RemovePath g) h ne = apart m.roll g _ h ne
others_done m (SyncPlaced g) h ne = apart m.roll g _ h ne
others_done m (CloseGate g) h ne = apart m.roll g _ h ne
others_done m (SyncClosed g) h ne = apart m.roll g _ h ne
others_done m (Acknowledge g) h ne = apart m.roll g _ h ne
others_done m (Abandon g) h ne = apart m.roll g _ h ne

pub others_begun : (m : Machine) (e : Event) (h : ℕ) → (h ≡ group_of_event e → ⊥) → (begun m e).roll.standing h ≡ m.roll.standing h
others_begun m (Begin g) h ne = refl
others_begun m (PutStage g p o) h ne = apart m.roll g _ h ne
others_begun m (PutRecord g removals) h ne = apart m.roll g _ h ne
others_begun m (PutToken g) h ne = apart m.roll g _ h ne
others_begun m (SyncSealed g) h ne = refl
others_begun m (Claim g) h ne = refl
others_begun m (OpenGate g) h ne = apart m.roll g _ h ne
others_begun m (SyncGate g) h ne = refl
others_begun m (PlacePath g) h ne = apart m.roll g _ h ne
others_begun m (RemovePath g) h ne = apart m.roll g _ h ne
others_begun m (SyncPlaced g) h ne = refl
others_begun m (CloseGate g) h ne = apart m.roll g _ h ne
others_begun m (SyncClosed g) h ne = refl
others_begun m (Acknowledge g) h ne = refl
others_begun m (Abandon g) h ne = refl

pub others_answered : (m : Machine) (e : Event) (ok : Bool) (h : ℕ) → (h ≡ group_of_event e → ⊥) → (answered m e ok).roll.standing h ≡ m.roll.standing h
others_answered m e true h ne = others_done m e h ne
others_answered m e false h ne = others_begun m e h ne

-- ---- what is wished

-- a stretch of one event more
turns_then : (m : Machine) (es fs : List Entry) → AreInTurn m es → AreInTurn (machine_after m es) fs → AreInTurn m (es ++ fs)
turns_then m [] fs all more = more
turns_then m (e ∷ es) fs all more = (all.0, turns_then (answered m e.0 e.1) es fs all.1 more)

pub after_then : (m : Machine) (es fs : List Entry) → machine_after m (es ++ fs) ≡ machine_after (machine_after m es) fs
after_then m [] fs = refl
after_then m (e ∷ es) fs = after_then (answered m e.0 e.1) es fs

mine_then : (g : ℕ) (es fs : List Entry) → AllByRecursion (λ (e : Entry). group_of_event e.0 ≡ g) es → AllByRecursion (λ (e : Entry). group_of_event e.0 ≡ g) fs → AllByRecursion (λ (e : Entry). group_of_event e.0 ≡ g) (es ++ fs)
mine_then g [] fs all more = more
mine_then g (e ∷ es) fs all more = (all.0, mine_then g es fs all.1 more)

pub stretch_then : (g : ℕ) (a b c : Machine) (es fs : List Entry) → Stretch g a es b → Stretch g b fs c → Stretch g a (es ++ fs) c
stretch_then g a b c es fs first second = record {
  mine = mine_then g es fs first.mine second.mine;
  turns = turns_then a es fs first.turns (subst (λ (m : Machine). AreInTurn m fs) (sym first.leads) second.turns);
  leads = after_then a es fs ∙ (ap (λ (m : Machine). machine_after m fs) first.leads ∙ second.leads);
}

staged_done : (m : Machine) (e : Event) → IsInTurn m e → is_staged (phase_at m.roll (group_of_event e)) ≡ true → is_staged (phase_at (done m e).roll (group_of_event e)) ≡ true
staged_done m (Begin g) a k = absurd (cc (ap is_staged a, k))
staged_done m (PutStage g p o) a k = absurd (cc (ap is_staged a, k))
staged_done m (PutRecord g removals) a k = absurd (cc (ap is_staged a, k))
staged_done m (PutToken g) a k = ap (λ (s : Standing). is_staged s.phase) (set_here m.roll g _)
staged_done m (SyncSealed g) a k = ap (λ (s : Standing). is_staged s.phase) (set_here m.roll g _)
staged_done m (Claim g) a k = ap (λ (s : Standing). is_staged s.phase) (set_here m.roll g _)
staged_done m (OpenGate g) a k = ap (λ (s : Standing). is_staged s.phase) (set_here m.roll g _)
staged_done m (SyncGate g) a k = ap (λ (s : Standing). is_staged s.phase) (set_here m.roll g _)
staged_done m (PlacePath g) a k = ap (λ (s : Standing). is_staged s.phase) (set_here m.roll g _) ∙ k
staged_done m (RemovePath g) a k = ap (λ (s : Standing). is_staged s.phase) (set_here m.roll g _) ∙ k
staged_done m (SyncPlaced g) a k = ap (λ (s : Standing). is_staged s.phase) (set_here m.roll g _)
staged_done m (CloseGate g) a k = ap (λ (s : Standing). is_staged s.phase) (set_here m.roll g _)
staged_done m (SyncClosed g) a k = ap (λ (s : Standing). is_staged s.phase) (set_here m.roll g _)
staged_done m (Acknowledge g) a k = ap (λ (s : Standing). is_staged s.phase) (set_here m.roll g _)
staged_done m (Abandon g) a k = ap (λ (s : Standing). is_staged s.phase) (set_here m.roll g _)

staged_begun : (m : Machine) (e : Event) → is_staged (phase_at m.roll (group_of_event e)) ≡ true → is_staged (phase_at (begun m e).roll (group_of_event e)) ≡ true
staged_begun m (Begin g) k = k
staged_begun m (PutStage g p o) k = ap (λ (s : Standing). is_staged s.phase) (set_here m.roll g _) ∙ k
staged_begun m (PutRecord g removals) k = ap (λ (s : Standing). is_staged s.phase) (set_here m.roll g _) ∙ k
staged_begun m (PutToken g) k = ap (λ (s : Standing). is_staged s.phase) (set_here m.roll g _) ∙ k
staged_begun m (SyncSealed g) k = k
staged_begun m (Claim g) k = k
staged_begun m (OpenGate g) k = ap (λ (s : Standing). is_staged s.phase) (set_here m.roll g _)
staged_begun m (SyncGate g) k = k
staged_begun m (PlacePath g) k = ap (λ (s : Standing). is_staged s.phase) (set_here m.roll g _) ∙ k
staged_begun m (RemovePath g) k = ap (λ (s : Standing). is_staged s.phase) (set_here m.roll g _) ∙ k
staged_begun m (SyncPlaced g) k = k
staged_begun m (CloseGate g) k = ap (λ (s : Standing). is_staged s.phase) (set_here m.roll g _)
staged_begun m (SyncClosed g) k = k
staged_begun m (Acknowledge g) k = k
staged_begun m (Abandon g) k = k

staged_answered : (m : Machine) (e : Event) (ok : Bool) → IsInTurn m e → is_staged (phase_at m.roll (group_of_event e)) ≡ true → is_staged (phase_at (answered m e ok).roll (group_of_event e)) ≡ true
staged_answered m e true a k = staged_done m e a k
staged_answered m e false a k = staged_begun m e k

-- an event that leaves the wishes as they are
wishes_kept : {T S : Type 0} (old new : SiteValue T S) (e : Event) (ok : Bool) → Adds old new e ok → IsInTurn (machine_of old.keeping) e → new.wishes ≡ old.wishes → KeepsWishes (group_of_event e) old new
wishes_kept old new e ok adds admits same = record {
  rows = ap length same;
  others = λ h ne. ap (λ (l : List (List Wish)). wishes_at l h) same;
  mine = λ k. (ap (λ (m : Machine). is_staged (phase_at m.roll (group_of_event e))) adds.machine ∙ staged_answered (machine_of old.keeping) e ok admits k, ap (λ (l : List (List Wish)). wishes_at l (group_of_event e)) same);
}

-- one wish more of a group that is being built
wishes_more : {T S : Type 0} (old new : SiteValue T S) (g : ℕ) (w : Wish) → is_staged (standing_at old g).phase ≡ false → new.wishes ≡ with_wish old.wishes g w → KeepsWishes g old new
wishes_more old new g w none is = record {
  rows = ap length is ∙ length-set old.wishes g (wishes_at old.wishes g ++ w ∷ []);
  others = λ h ne. ap (λ (l : List (List Wish)). wishes_at l h) is ∙ get_or-set_other old.wishes g h (wishes_at old.wishes g ++ w ∷ []) [] ne;
  mine = λ k. absurd (cc (none, k));
}

-- an event of a group is a stretch of it
stretched : {T S : Type 0} (old new : SiteValue T S) (e : Event) (ok : Bool) → Adds old new e ok → IsInTurn (machine_of old.keeping) e → KeepsWishes (group_of_event e) old new → Works (group_of_event e) old new
stretched old new e ok adds admits wishes = record {
  events = (e, ok) ∷ [];
  adds = adds.events;
  stretch = record { mine = (refl, tt); turns = (admits, tt); leads = sym adds.machine };
  others = λ h ne. ap (λ (m : Machine). m.roll.standing h) adds.machine ∙ others_answered (machine_of old.keeping) e ok h ne;
  count = adds.count;
  wishes = wishes;
  groups = adds.groups;
  opened_book = adds.opened_book;
  opened = adds.opened;
}

pub worked : {T S : Type 0} (old new : SiteValue T S) (e : Event) (ok : Bool) → Adds old new e ok → IsInTurn (machine_of old.keeping) e → is_stage e ≡ false → Works (group_of_event e) old new
worked old new e ok adds admits other = stretched old new e ok adds admits (wishes_kept old new e ok adds admits (adds.wishes other))

-- .. and so is a stage, with the wish that comes with it
pub worked_stage : {T S : Type 0} (old new : SiteValue T S) (g : ℕ) (p : Placement) (o : ObjectValue) (w : Wish) → Adds old new (PutStage g p o) true → IsInTurn (machine_of old.keeping) (PutStage g p o) → new.wishes ≡ with_wish old.wishes g w
    → Works g old new
worked_stage old new g p o w adds admits is = stretched old new (PutStage g p o) true adds admits (wishes_more old new g w (ap is_staged admits) is)

pub worked_failed : {T S : Type 0} (old new : SiteValue T S) (g : ℕ) (p : Placement) (o : ObjectValue) → Adds old new (PutStage g p o) false → IsInTurn (machine_of old.keeping) (PutStage g p o) → new.wishes ≡ old.wishes → Works g old new
worked_failed old new g p o adds admits same = stretched old new (PutStage g p o) false adds admits (wishes_kept old new (PutStage g p o) false adds admits same)

same_wishes : {T S : Type 0} (g : ℕ) (old new : SiteValue T S) → new.wishes ≡ old.wishes → new.keeping ≡ old.keeping → KeepsWishes g old new
same_wishes g old new same still = record {
  rows = ap length same;
  others = λ h ne. ap (λ (l : List (List Wish)). wishes_at l h) same;
  mine = λ k. (ap (λ (x : CoreValue). is_staged (standing_in x.standings g).phase) still ∙ k, ap (λ (l : List (List Wish)). wishes_at l g) same);
}

pub works_same : {T S : Type 0} (g : ℕ) (old new : SiteValue T S) → KeepsHistory old new → Works g old new
works_same g old new kept = record {
  events = [];
  adds = kept.events ∙ sym (append-nil old.events);
  stretch = record { mine = tt; turns = tt; leads = ap machine_of (sym kept.keeping) };
  others = λ h ne. ap (λ k. standing_in k.standings h) kept.keeping;
  count = ap (λ k. length k.standings) kept.keeping;
  wishes = same_wishes g old new kept.wishes kept.keeping;
  groups = kept.groups;
  opened_book = kept.opened_book;
  opened = kept.opened;
}

pub works_start : {T S : Type 0} (g : ℕ) (a : SiteValue T S) → Works g a a
works_start g a = record {
  events = [];
  adds = sym (append-nil a.events);
  stretch = record { mine = tt; turns = tt; leads = refl };
  others = λ h ne. refl;
  count = refl;
  wishes = same_wishes g a a refl refl;
  groups = refl;
  opened_book = refl;
  opened = refl;
}

wishes_then : {T S : Type 0} (g : ℕ) (a b c : SiteValue T S) → KeepsWishes g a b → KeepsWishes g b c → KeepsWishes g a c
wishes_then g a b c first second = record {
  rows = second.rows ∙ first.rows;
  others = λ h ne. second.others h ne ∙ first.others h ne;
  mine = λ k. let one = first.mine k in let two = second.mine one.0 in (two.0, two.1 ∙ one.1);
}

pub works_then : {T S : Type 0} (g : ℕ) (a b c : SiteValue T S) → Works g a b → Works g b c → Works g a c
works_then g a b c first second = record {
  events = first.events ++ second.events;
  adds = second.adds ∙ (ap (λ (l : List Entry). l ++ second.events) first.adds ∙ append_assoc a.events first.events second.events);
  stretch = stretch_then g (machine_of a.keeping) (machine_of b.keeping) (machine_of c.keeping) first.events second.events first.stretch second.stretch;
  others = λ h ne. second.others h ne ∙ first.others h ne;
  count = second.count ∙ first.count;
  wishes = wishes_then g a b c first.wishes second.wishes;
  groups = second.groups ∙ first.groups;
  opened_book = second.opened_book ∙ first.opened_book;
  opened = second.opened ∙ first.opened;
}

-- a stretch goes on where a run is
pub run_on : {T S : Type 0} (g : ℕ) (a b : SiteValue T S) → Works g a b → IsRun a → IsRun b
run_on g a b works r = record {
  leads = ap (machine_after idle) works.adds ∙ (after_then idle a.events works.events ∙ (ap (λ (m : Machine). machine_after m works.events) r.leads ∙ works.stretch.leads));
  turns = subst (λ (l : List Entry). AreInTurn idle l) (sym works.adds) (turns_then idle a.events works.events r.turns (subst (λ (m : Machine). AreInTurn m works.events) (sym r.leads) works.stretch.turns));
}

-- the standing of a group behind an event that answered Ok
pub standing_after : {T S : Type 0} (old new : SiteValue T S) (g : ℕ) (e : Event) (s : Standing) → Adds old new e true → (done (machine_of old.keeping) e).roll.standing g ≡ s → standing_at new g ≡ s
standing_after old new g e s adds is = ap (λ (m : Machine). m.roll.standing g) adds.machine ∙ is

-- the group is in another phase behind the event
pub at_after : {T S : Type 0} (old new : SiteValue T S) (g : ℕ) (e : Event) (p : Phase) (s : Standing) → Adds old new e true → IsRunning old.keeping g → (done (machine_of old.keeping) e).stopped ≡ old.keeping.stopped
    → (done (machine_of old.keeping) e).roll.standing g ≡ s → s.phase ≡ phase_of p → IsAt new.keeping g p
at_after old new g e p s adds running going is phase = record {
  running = (subst (λ (n : ℕ). g < n) (sym adds.count) running.0, ap (λ (m : Machine). m.stopped) adds.machine ∙ (going ∙ running.1));
  phase = ap (λ (x : Standing). x.phase) (standing_after old new g e s adds is) ∙ phase;
}

-- ---- what each event leaves as it was

-- the event changes neither the group's paths nor its objects
abbrev pub keeps_group : Event → Bool
keeps_group (Begin g) = false
keeps_group (PutStage g p o) = false
keeps_group (PutRecord g removals) = false
keeps_group e = true

same_done : (m : Machine) (e : Event) → keeps_group e ≡ true → group_of (group_of_event e) ((done m e).roll.standing (group_of_event e)) ≡ group_of (group_of_event e) (m.roll.standing (group_of_event e))
same_done m (Begin g) k = absurd (cc k)
same_done m (PutStage g p o) k = absurd (cc k)
same_done m (PutRecord g removals) k = absurd (cc k)
same_done m (PutToken g) k = ap (group_of g) (set_here m.roll g _)
same_done m (SyncSealed g) k = ap (group_of g) (set_here m.roll g _)
same_done m (Claim g) k = ap (group_of g) (set_here m.roll g _)
same_done m (OpenGate g) k = ap (group_of g) (set_here m.roll g _)
same_done m (SyncGate g) k = ap (group_of g) (set_here m.roll g _)
same_done m (PlacePath g) k = ap (group_of g) (set_here m.roll g _)
same_done m (RemovePath g) k = ap (group_of g) (set_here m.roll g _)
same_done m (SyncPlaced g) k = ap (group_of g) (set_here m.roll g _)
same_done m (CloseGate g) k = ap (group_of g) (set_here m.roll g _)
same_done m (SyncClosed g) k = ap (group_of g) (set_here m.roll g _)
same_done m (Acknowledge g) k = ap (group_of g) (set_here m.roll g _)
same_done m (Abandon g) k = ap (group_of g) (set_here m.roll g _)

pub same_begun : (m : Machine) (e : Event) → group_of (group_of_event e) ((begun m e).roll.standing (group_of_event e)) ≡ group_of (group_of_event e) (m.roll.standing (group_of_event e))
same_begun m (Begin g) = refl
same_begun m (PutStage g p o) = ap (group_of g) (set_here m.roll g _)
same_begun m (PutRecord g removals) = ap (group_of g) (set_here m.roll g _)
same_begun m (PutToken g) = ap (group_of g) (set_here m.roll g _)
same_begun m (SyncSealed g) = refl
same_begun m (Claim g) = refl
same_begun m (OpenGate g) = ap (group_of g) (set_here m.roll g _)
same_begun m (SyncGate g) = refl
same_begun m (PlacePath g) = ap (group_of g) (set_here m.roll g _)
same_begun m (RemovePath g) = ap (group_of g) (set_here m.roll g _)
same_begun m (SyncPlaced g) = refl
same_begun m (CloseGate g) = ap (group_of g) (set_here m.roll g _)
same_begun m (SyncClosed g) = refl
same_begun m (Acknowledge g) = refl
same_begun m (Abandon g) = refl

pub same_answered : (m : Machine) (e : Event) (ok : Bool) → keeps_group e ≡ true → group_of (group_of_event e) ((answered m e ok).roll.standing (group_of_event e)) ≡ group_of (group_of_event e) (m.roll.standing (group_of_event e))
same_answered m e true k = same_done m e k
same_answered m e false k = same_begun m e

pub group_kept : {T S : Type 0} (old new : SiteValue T S) (e : Event) (ok : Bool) → Adds old new e ok → keeps_group e ≡ true → group_in new (group_of_event e) ≡ group_in old (group_of_event e)
group_kept old new e ok adds k = ap (λ (m : Machine). group_of (group_of_event e) (m.roll.standing (group_of_event e))) adds.machine ∙ same_answered (machine_of old.keeping) e ok k

-- the event brings its group into the order, where it answers Ok
abbrev pub settles : Event → Bool
settles (SyncPlaced g) = true
settles e = false

order_done : (m : Machine) (e : Event) → settles e ≡ false → (done m e).roll.order ≡ m.roll.order
order_done m (Begin g) k = refl
order_done m (PutStage g p o) k = refl
order_done m (PutRecord g removals) k = refl
order_done m (PutToken g) k = refl
order_done m (SyncSealed g) k = refl
order_done m (Claim g) k = refl
order_done m (OpenGate g) k = refl
order_done m (SyncGate g) k = refl
order_done m (PlacePath g) k = refl
order_done m (RemovePath g) k = refl
order_done m (SyncPlaced g) k = absurd (cc k)
order_done m (CloseGate g) k = refl
order_done m (SyncClosed g) k = refl
order_done m (Acknowledge g) k = refl
order_done m (Abandon g) k = refl

pub order_begun : (m : Machine) (e : Event) → (begun m e).roll.order ≡ m.roll.order
order_begun m (Begin g) = refl
order_begun m (PutStage g p o) = refl
order_begun m (PutRecord g removals) = refl
order_begun m (PutToken g) = refl
order_begun m (SyncSealed g) = refl
order_begun m (Claim g) = refl
order_begun m (OpenGate g) = refl
order_begun m (SyncGate g) = refl
order_begun m (PlacePath g) = refl
order_begun m (RemovePath g) = refl
order_begun m (SyncPlaced g) = refl
order_begun m (CloseGate g) = refl
order_begun m (SyncClosed g) = refl
order_begun m (Acknowledge g) = refl
order_begun m (Abandon g) = refl

pub order_answered : (m : Machine) (e : Event) (ok : Bool) → settles e ≡ false → (answered m e ok).roll.order ≡ m.roll.order
order_answered m e true k = order_done m e k
order_answered m e false k = order_begun m e

pub order_kept : {T S : Type 0} (old new : SiteValue T S) (e : Event) (ok : Bool) → Adds old new e ok → settles e ≡ false → new.keeping.order ≡ old.keeping.order
order_kept old new e ok adds k = ap (λ (m : Machine). m.roll.order) adds.machine ∙ order_answered (machine_of old.keeping) e ok k

-- ---- until a group is sealed it may end

abbrev phase_here : Machine → ℕ → pure.Phase
phase_here m g = (m.roll.standing g).phase

-- an event of a group whose gate was not opened
abbrev pub is_early : Event → Bool
is_early (PutStage g p o) = true
is_early (PutRecord g removals) = true
is_early (PutToken g) = true
is_early (SyncSealed g) = true
is_early e = false

early_answered : (m : Machine) (e : Event) (ok : Bool) → IsInTurn m e → is_early e ≡ true → may_end (phase_here (answered m e ok) (group_of_event e)) ≡ true
early_answered m (PutStage g p o) true a k = ap (λ (s : Standing). may_end s.phase) (set_here m.roll g _) ∙ ap may_end a
early_answered m (PutStage g p o) false a k = ap (λ (s : Standing). may_end s.phase) (set_here m.roll g _) ∙ ap may_end a
early_answered m (PutRecord g removals) true a k = ap (λ (s : Standing). may_end s.phase) (set_here m.roll g _)
early_answered m (PutRecord g removals) false a k = ap (λ (s : Standing). may_end s.phase) (set_here m.roll g _) ∙ ap may_end a
early_answered m (PutToken g) true a k = ap (λ (s : Standing). may_end s.phase) (set_here m.roll g _)
early_answered m (PutToken g) false a k = ap (λ (s : Standing). may_end s.phase) (set_here m.roll g _) ∙ ap may_end a
early_answered m (SyncSealed g) true a k = ap (λ (s : Standing). may_end s.phase) (set_here m.roll g _)
early_answered m (SyncSealed g) false a k = ap may_end a
early_answered m (Begin g) ok a k = absurd (cc k)
early_answered m (Claim g) ok a k = absurd (cc k)
early_answered m (OpenGate g) ok a k = absurd (cc k)
early_answered m (SyncGate g) ok a k = absurd (cc k)
early_answered m (PlacePath g) ok a k = absurd (cc k)
early_answered m (RemovePath g) ok a k = absurd (cc k)
early_answered m (SyncPlaced g) ok a k = absurd (cc k)
early_answered m (CloseGate g) ok a k = absurd (cc k)
early_answered m (SyncClosed g) ok a k = absurd (cc k)
early_answered m (Acknowledge g) ok a k = absurd (cc k)
early_answered m (Abandon g) ok a k = absurd (cc k)

pub early_on : {T S : Type 0} (old new : SiteValue T S) (e : Event) (ok : Bool) → Adds old new e ok → IsInTurn (machine_of old.keeping) e → is_early e ≡ true → may_end (standing_at new (group_of_event e)).phase ≡ true
early_on old new e ok adds admits k = ap (λ (m : Machine). may_end (phase_here m (group_of_event e))) adds.machine ∙ early_answered (machine_of old.keeping) e ok admits k

-- ---- the events of a group by what each makes of its standing

-- a step that is taken is a stretch of its group
pub step_worked : {T S : Type 0} (old new : SiteValue T S) (g : ℕ) (s : Step) (ok : Bool) → IsTaken old.keeping g s → Adds old new (event_of g s) ok → Works g old new
step_worked old new g steps.Begin ok taken adds = worked old new (Begin g) ok adds taken.phase refl
step_worked old new g steps.PutToken ok taken adds = worked old new (PutToken g) ok adds taken.phase refl
step_worked old new g steps.SyncSealed ok taken adds = worked old new (SyncSealed g) ok adds taken.phase refl
step_worked old new g steps.OpenGate ok taken adds = worked old new (OpenGate g) ok adds taken.phase refl
step_worked old new g steps.SyncGate ok taken adds = worked old new (SyncGate g) ok adds taken.phase refl
step_worked old new g steps.PlacePath ok taken adds = worked old new (PlacePath g) ok adds taken.phase refl
step_worked old new g steps.RemovePath ok taken adds = worked old new (RemovePath g) ok adds taken.phase refl
step_worked old new g steps.SyncPlaced ok taken adds = worked old new (SyncPlaced g) ok adds taken.phase refl
step_worked old new g steps.CloseGate ok taken adds = worked old new (CloseGate g) ok adds taken.phase refl
step_worked old new g steps.SyncClosed ok taken adds = worked old new (SyncClosed g) ok adds taken.phase refl
step_worked old new g steps.Acknowledge ok taken adds = worked old new (Acknowledge g) ok adds taken.phase refl
step_worked old new g steps.Abandon ok taken adds = worked old new (Abandon g) ok adds taken.phase refl

-- a group that stands at a phase may take the step that asks for it
pub taken_at : (k : CoreValue) (g : ℕ) (s : Step) (p : Phase) → IsAt k g p → IsPhaseFor s (phase_of p) → IsDueFor s (standing_in k.standings g) → IsTaken k g s
taken_at k g s p at phase due = record {
  comes = (at.running.0, inl at.running.1);
  phase = subst (λ (x : pure.Phase). IsPhaseFor s x) (sym at.phase) phase;
  due = due;
}

-- a group that may begin runs
pub runs_if_taken : (k : CoreValue) (g : ℕ) → IsTaken k g steps.Begin → IsRunning k g
runs_if_taken k g taken = (taken.comes.0, elim taken.comes.1 [ inl e ↦ e | inr a ↦ absurd (cc a) ])

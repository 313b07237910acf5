-- What is owned along a stretch of one group: its own paths are settled where it is done, and no others.
use Rattle.std.proofs.Common.{◌≡◌, ◌⊎◌, ◌++◌, ◌∙◌, ℕ, Bool, true, false, List, [], ◌∷◌, Option, inl, inr, refl, ap, subst, sym, append_assoc}
use Rattle.std.specs.List.{AllByRecursion}
use Rattle.basics.specs.Members.{Has}
use Rattle.merge_record.specs.declared.record.OwnerKey.{OwnerKey}
use Rattle.owner_book.specs.Book.{Book, HasOwnersOf, HasSettled, ClaimValue, owner_in, settled_owner}
use Rattle.owner_book.specs.declared.wish.Wish.{Wish}
use Rattle.merge_core.specs.Event.{Abandon, Acknowledge, Begin, Claim, CloseGate, Event, OpenGate, PlacePath, PutRecord, PutStage, PutToken, RemovePath, SyncClosed, SyncGate, SyncPlaced, SyncSealed, answered}
use Rattle.merge_core.specs.CoreValue.{machine_of}
use Rattle.merge_core.specs.Phase.{Phase, Idle, Building, Recorded, Marked, Sealed, Claimed, GatePut, Open, Placed, GateTaken, Done, Told, Abandoned, Redo, Redone, Odd, Emptied, may_end}
use Rattle.merge_core.specs.Roll.{Machine, Standing, phase_at}
use Rattle.merge_core.specs.Trail.{Entry, machine_after}
use Rattle.merge_core.proofs.Standings.{set_here}
use Rattle.merge_site.specs.Booking.{IsBooked, done_by, groups_of, is_over, parts_of, settled_by, wishes_at}
use Rattle.merge_site.specs.Site.{SiteValue}
use Rattle.merge_group.specs.Working.{AreInTurn, IsInTurn, Works, group_of_event, standing_at}

-- what some events of a group made done: nothing, or the group, which wasn't done before
abbrev Over : ℕ → Machine → Machine → List ℕ → Type 0
Over g old new done =
    ((done ≡ []) × (is_over (phase_at new.roll g) ≡ is_over (phase_at old.roll g)))
    ⊎ ((done ≡ g ∷ []) × (is_over (phase_at old.roll g) ≡ false) × (is_over (phase_at new.roll g) ≡ true))

ends_open : (p : Phase) → may_end p ≡ true → is_over p ≡ false
ends_open Idle e = absurd (cc e)
ends_open Building e = refl
ends_open Recorded e = refl
ends_open Marked e = refl
ends_open Sealed e = refl
ends_open Claimed e = absurd (cc e)
ends_open GatePut e = absurd (cc e)
ends_open Open e = absurd (cc e)
ends_open Placed e = absurd (cc e)
ends_open GateTaken e = absurd (cc e)
ends_open Done e = absurd (cc e)
ends_open Told e = absurd (cc e)
ends_open Abandoned e = absurd (cc e)
ends_open Redo e = absurd (cc e)
ends_open Redone e = absurd (cc e)
ends_open Odd e = absurd (cc e)
ends_open Emptied e = absurd (cc e)

over_answered : (m : Machine) (e : Event) (ok : Bool) → IsInTurn m e → Over (group_of_event e) m (answered m e ok) (done_by e ok)
over_answered m (Begin g) true a = inl (refl, ap (λ (s : Standing). is_over s.phase) (set_here m.roll g _) ∙ sym (ap is_over a))
over_answered m (PutStage g p o) true a = inl (refl, ap (λ (s : Standing). is_over s.phase) (set_here m.roll g _))
over_answered m (PutRecord g removals) true a = inl (refl, ap (λ (s : Standing). is_over s.phase) (set_here m.roll g _) ∙ sym (ap is_over a))
over_answered m (PutToken g) true a = inl (refl, ap (λ (s : Standing). is_over s.phase) (set_here m.roll g _) ∙ sym (ap is_over a))
over_answered m (SyncSealed g) true a = inl (refl, ap (λ (s : Standing). is_over s.phase) (set_here m.roll g _) ∙ sym (ap is_over a))
over_answered m (Claim g) true a = inl (refl, ap (λ (s : Standing). is_over s.phase) (set_here m.roll g _) ∙ sym (ap is_over a))
over_answered m (OpenGate g) true a = inl (refl, ap (λ (s : Standing). is_over s.phase) (set_here m.roll g _) ∙ sym (ap is_over a))
over_answered m (SyncGate g) true a = inl (refl, ap (λ (s : Standing). is_over s.phase) (set_here m.roll g _) ∙ sym (ap is_over a))
over_answered m (PlacePath g) true a = inl (refl, ap (λ (s : Standing). is_over s.phase) (set_here m.roll g _))
over_answered m (RemovePath g) true a = inl (refl, ap (λ (s : Standing). is_over s.phase) (set_here m.roll g _))
over_answered m (SyncPlaced g) true a = inl (refl, ap (λ (s : Standing). is_over s.phase) (set_here m.roll g _) ∙ sym (ap is_over a))
over_answered m (CloseGate g) true a = inl (refl, ap (λ (s : Standing). is_over s.phase) (set_here m.roll g _) ∙ sym (ap is_over a))
over_answered m (SyncClosed g) true a = inr (refl, ap is_over a, ap (λ (s : Standing). is_over s.phase) (set_here m.roll g _))
over_answered m (Acknowledge g) true a = inl (refl, ap (λ (s : Standing). is_over s.phase) (set_here m.roll g _) ∙ sym (ap is_over a))
over_answered m (Abandon g) true a = inl (refl, ap (λ (s : Standing). is_over s.phase) (set_here m.roll g _) ∙ sym (ends_open (phase_at m.roll g) a))
over_answered m (Begin g) false a = inl (refl, refl)
over_answered m (PutStage g p o) false a = inl (refl, ap (λ (s : Standing). is_over s.phase) (set_here m.roll g _))
over_answered m (PutRecord g removals) false a = inl (refl, ap (λ (s : Standing). is_over s.phase) (set_here m.roll g _))
over_answered m (PutToken g) false a = inl (refl, ap (λ (s : Standing). is_over s.phase) (set_here m.roll g _))
over_answered m (SyncSealed g) false a = inl (refl, refl)
over_answered m (Claim g) false a = inl (refl, refl)
over_answered m (OpenGate g) false a = inl (refl, ap (λ (s : Standing). is_over s.phase) (set_here m.roll g _) ∙ sym (ap is_over a))
over_answered m (SyncGate g) false a = inl (refl, refl)
over_answered m (PlacePath g) false a = inl (refl, ap (λ (s : Standing). is_over s.phase) (set_here m.roll g _))
over_answered m (RemovePath g) false a = inl (refl, ap (λ (s : Standing). is_over s.phase) (set_here m.roll g _))
over_answered m (SyncPlaced g) false a = inl (refl, refl)
over_answered m (CloseGate g) false a = inl (refl, ap (λ (s : Standing). is_over s.phase) (set_here m.roll g _) ∙ sym (ap is_over a))
over_answered m (SyncClosed g) false a = inl (refl, refl)
over_answered m (Acknowledge g) false a = inl (refl, refl)
over_answered m (Abandon g) false a = inl (refl, refl)

over_then : (g : ℕ) (a b c : Machine) (xs ys : List ℕ) → Over g a b xs → Over g b c ys → Over g a c (xs ++ ys)
over_then g a b c xs ys (inl one) (inl two) = inl (ap (λ (l : List ℕ). l ++ ys) one.0 ∙ two.0, two.1 ∙ one.1)
over_then g a b c xs ys (inl one) (inr two) = inr (ap (λ (l : List ℕ). l ++ ys) one.0 ∙ two.0, sym one.1 ∙ two.1, two.2)
over_then g a b c xs ys (inr one) (inl two) = inr (ap (λ (l : List ℕ). l ++ ys) one.0 ∙ ap (λ (l : List ℕ). g ∷ l) two.0, one.1, two.1 ∙ one.2)
over_then g a b c xs ys (inr one) (inr two) = absurd (cc (one.2, two.1))

over_along : (g : ℕ) (m : Machine) (es : List Entry) → AllByRecursion (λ (e : Entry). group_of_event e.0 ≡ g) es → AreInTurn m es → Over g m (machine_after m es) (groups_of done_by es)
over_along g m [] mine turns = inl (refl, refl)
over_along g m (e ∷ es) mine turns =
    let next = answered m e.0 e.1 in
    over_then g m next (machine_after next es) (done_by e.0 e.1) (groups_of done_by es) (subst (λ (k : ℕ). Over k m next (done_by e.0 e.1)) mine.0 (over_answered m e.0 e.1 turns.0)) (over_along g next es mine.1 turns.1)

groups_then : (f : Event → Bool → List ℕ) (es fs : List Entry) → groups_of f (es ++ fs) ≡ groups_of f es ++ groups_of f fs
groups_then f [] fs = refl
groups_then f (e ∷ es) fs = ap (λ (l : List ℕ). f e.0 e.1 ++ l) (groups_then f es fs) ∙ sym (append_assoc (f e.0 e.1) (groups_of f es) (groups_of f fs))

-- what a stretch of a group made done
over_works : {T S : Type 0} (g : ℕ) (a b : SiteValue T S) (works : Works g a b) → Over g (machine_of a.keeping) (machine_of b.keeping) (groups_of done_by works.events)
over_works g a b works =
    subst (λ (m : Machine). Over g (machine_of a.keeping) m (groups_of done_by works.events)) works.stretch.leads (over_along g (machine_of a.keeping) works.events works.stretch.mine works.stretch.turns)

-- ---- owners

settled_same : (f h : ℕ → ClaimValue) (gs : List ℕ) (q : List ℕ) (o : Option OwnerKey) → ((g : ℕ) → Has gs g → f g ≡ h g) → settled_by f gs q o ≡ settled_by h gs q o
settled_same f h [] q o same = refl
settled_same f h (g ∷ gs) q o same =
    ap (λ (p : ClaimValue). settled_by f gs q (settled_owner p q o)) (same g (inl refl)) ∙ settled_same f h gs q (settled_owner (h g) q o) (λ k has. same k (inr has))

settled_then : (f : ℕ → ClaimValue) (gs hs : List ℕ) (q : List ℕ) (o : Option OwnerKey) → settled_by f (gs ++ hs) q o ≡ settled_by f hs q (settled_by f gs q o)
settled_then f [] hs q o = refl
settled_then f (g ∷ gs) hs q o = settled_then f gs hs q (settled_owner (f g) q o)

parts_same : {T S : Type 0} (g h : ℕ) (a b : SiteValue T S) → Works g a b → (h ≡ g → ⊥) → parts_of b.keeping b.wishes h ≡ parts_of a.keeping a.wishes h
parts_same g h a b works ne =
    ap (λ (l : List Wish). record { placed = l; removed = (standing_at b h).removals }) (works.wishes.others h ne)
    ∙ ap (λ (s : Standing). record { placed = wishes_at a.wishes h; removed = s.removals }) (works.others h ne)

-- the owners behind a stretch: those from before, and what is done since is settled over them
owners_on : {T S : Type 0} (g : ℕ) (a b : SiteValue T S) (works : Works g a b) → IsBooked a.keeping a.events a.wishes a.opened_book a.book → IsBooked b.keeping b.events b.wishes b.opened_book b.book → is_over (standing_at a g).phase ≡ false
    → (q : List ℕ) → owner_in b.book.owned q ≡ settled_by (parts_of b.keeping b.wishes) (groups_of done_by works.events) q (owner_in a.book.owned q)
owners_on g a b works old new not q =
    let before = groups_of done_by a.events in
    let parts = parts_of b.keeping b.wishes in
    let since = groups_of done_by works.events in
    new.owners q
    ∙ (ap (λ (l : List ℕ). settled_by parts l q (owner_in b.opened_book.owned q)) (ap (groups_of done_by) works.adds ∙ groups_then done_by a.events works.events)
    ∙ (settled_then parts before since q (owner_in b.opened_book.owned q)
    ∙ ap (settled_by parts since q)
    (ap (λ (k : Book). settled_by parts before q (owner_in k.owned q)) works.opened_book
    ∙ (settled_same parts (parts_of a.keeping a.wishes) before q (owner_in a.opened_book.owned q)
    (λ h has. parts_same g h a b works (λ same. cc (ap (λ (n : ℕ). is_over (standing_at a n).phase) same, old.over h has, not)))
    ∙ sym (old.owners q)))))

none_done : {T S : Type 0} (g : ℕ) (a b : SiteValue T S) (works : Works g a b) → is_over (standing_at b g).phase ≡ false → groups_of done_by works.events ≡ []
none_done g a b works still = elim (over_works g a b works) [ inl none ↦ none.0 | inr done ↦ absurd (cc (done.2, still)) ]

one_done : {T S : Type 0} (g : ℕ) (a b : SiteValue T S) (works : Works g a b) → is_over (standing_at a g).phase ≡ false → is_over (standing_at b g).phase ≡ true → groups_of done_by works.events ≡ g ∷ []
one_done g a b works not done = elim (over_works g a b works) [ inl none ↦ absurd (cc (none.1, not, done)) | inr is ↦ is.0 ]

-- a group that isn't done owns nothing new
pub owners_same : {T S : Type 0} (g : ℕ) (a b : SiteValue T S) → Works g a b → IsBooked a.keeping a.events a.wishes a.opened_book a.book → IsBooked b.keeping b.events b.wishes b.opened_book b.book
    → is_over (standing_at a g).phase ≡ false → is_over (standing_at b g).phase ≡ false → HasOwnersOf a.book b.book
owners_same g a b works old new not still q =
    owners_on g a b works old new not q ∙ ap (λ (l : List ℕ). settled_by (parts_of b.keeping b.wishes) l q (owner_in a.book.owned q)) (none_done g a b works still)

-- one that is done by then has its claim settled
pub owners_settled : {T S : Type 0} (g : ℕ) (a b : SiteValue T S) (ws : List Wish) (rs : List (List ℕ)) → Works g a b → IsBooked a.keeping a.events a.wishes a.opened_book a.book → IsBooked b.keeping b.events b.wishes b.opened_book b.book
    → is_over (standing_at a g).phase ≡ false → is_over (standing_at b g).phase ≡ true → wishes_at b.wishes g ≡ ws → (standing_at b g).removals ≡ rs → HasSettled a.book b.book (record { placed = ws; removed = rs })
owners_settled g a b ws rs works old new not done wished gone q =
    owners_on g a b works old new not q
    ∙ (ap (λ (l : List ℕ). settled_by (parts_of b.keeping b.wishes) l q (owner_in a.book.owned q)) (one_done g a b works not done)
    ∙ (ap (λ (l : List Wish). settled_owner (record { placed = l; removed = (standing_at b g).removals }) q (owner_in a.book.owned q)) wished
    ∙ ap (λ (l : List (List ℕ)). settled_owner (record { placed = ws; removed = l }) q (owner_in a.book.owned q)) gone))

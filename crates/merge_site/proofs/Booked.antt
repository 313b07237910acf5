-- The book goes along with the groups' events.
use Rattle.std.proofs.Common.{◌≡◌, ◌⊎◌, ◌<◌, ◌++◌, ◌||◌, ◌==◌, ◌∷◌, ◌∙◌, ℕ, zero, suc, Bool, true, false, not, cond, List, [], Option, Some, None, ap, inl, inr, refl, subst, sym, length, map, is_some, append_assoc, append-nil}
use Rattle.std.specs.Prelude.{bytes_eq, replicate, slice_set}
use Rattle.std.proofs.lemmas.List.{get_or-set_same, map_push}
use Rattle.std.proofs.lemmas.Bool.{cases_Bool, cases_eq, cond-false, cond-true, eq-eqb, false≢true, ne_eqb, or_left, or_parts, or_right}
use Rattle.std.proofs.Math.Bool.{or_comm}
use Rattle.basics.specs.Members.{Has}
use Rattle.file_tree.specs.ObjectValue.{ObjectValue}
use Rattle.merge_journal.specs.Judging.{are_free, path_of}
use Rattle.file_tree.specs.PathSets.{is_in}
use Rattle.merge_record.specs.declared.record.OwnerKey.{OwnerKey}
use Rattle.merge_record.specs.declared.record.Placement.{Placement}
use Rattle.file_tree.proofs.PathSets.{is_in-append}
use Rattle.owner_book.specs.Book as books
use Rattle.owner_book.specs.Book.{AreDisjoint, Book, ChangesClaim, HasOwnersOf, HasSettled, IsClaimedBy, ClaimValue, claim_in, has, is_wished, key_in, owner_in, settled_owner}
use Rattle.owner_book.specs.declared.wish.Wish.{Wish}
use Rattle.merge_journal.specs.Group.{covers}
use Rattle.merge_core.specs.Core.{standing_in}
use Rattle.merge_core.specs.Event.{Abandon, Acknowledge, Admits, Begin, Claim, CloseGate, Event, OpenGate, PlacePath, PutRecord, PutStage, PutToken, RemovePath, SyncClosed, SyncGate, SyncPlaced, SyncSealed, answered}
use Rattle.merge_core.specs.CoreValue.{CoreValue, at_rest, machine_of}
use Rattle.merge_core.specs.Payloads.{IsApart}
use Rattle.merge_core.specs.Phase.{Phase, Idle, Building, Recorded, Marked, Sealed, Claimed, GatePut, Open, Placed, GateTaken, Done, Told, Abandoned, Redo, Redone, Odd, Emptied, is_live, may_end}
use Rattle.merge_core.specs.Roll.{Machine, Roll, Standing, group_at, phase_at, resting, set}
use Rattle.merge_core.specs.Trail as trails
use Rattle.merge_core.proofs.Standings.{by_group}
use Rattle.merge_site.specs.Booking.{IsBooked, claim_of, done_by, groups_of, is_over, parts_of, settled_by, wishes_at, with_wish}
use Rattle.merge_site.specs.Claiming.{record_paths}
use Rattle.merge_site.specs.Site.{AreFresh}
use Rattle.merge_site.proofs.Kept.{each_kept}

-- ---- what events leave as it was

-- the event moves no claim, and no group wishes more by it
abbrev pub keeps_book : Event → Bool → Bool
keeps_book (PutStage g p o) ok = not ok
keeps_book (Claim g) ok = not ok
keeps_book (SyncClosed g) ok = not ok
keeps_book e ok = true

-- the standing is as it was to the book: what it places, whether it is under way, what it claims or
-- has left, and that it is over
pub record IsBookedAs (r : Roll) (h : ℕ) (x : Standing) : Type 0 where
  pub placements : x.placements ≡ (r.standing h).placements
  pub live : is_live x.phase ≡ is_live (r.standing h).phase
  pub removals : is_live (r.standing h).phase || is_over (r.standing h).phase ≡ true → x.removals ≡ (r.standing h).removals
  pub over : is_over (r.standing h).phase ≡ true → is_over x.phase ≡ true

-- a group that may be given up claims nothing, and isn't over
quiet_end : (p : Phase) → may_end p ≡ true → is_live p || is_over p ≡ false
quiet_end Building e = refl
quiet_end Recorded e = refl
quiet_end Marked e = refl
quiet_end Sealed e = refl
quiet_end Idle e = absurd (false≢true e)
quiet_end Claimed e = absurd (false≢true e)
quiet_end GatePut e = absurd (false≢true e)
quiet_end Open e = absurd (false≢true e)
quiet_end Placed e = absurd (false≢true e)
quiet_end GateTaken e = absurd (false≢true e)
quiet_end Done e = absurd (false≢true e)
quiet_end Told e = absurd (false≢true e)
quiet_end Abandoned e = absurd (false≢true e)
quiet_end Redo e = absurd (false≢true e)
quiet_end Redone e = absurd (false≢true e)
quiet_end Odd e = absurd (false≢true e)
quiet_end Emptied e = absurd (false≢true e)

module _ (m : Machine) (fresh : (h : ℕ) → phase_at m.roll h ≡ Idle → (m.roll.standing h).placements ≡ []) where
  same_as : (h : ℕ) → IsBookedAs m.roll h (m.roll.standing h)
  same_as h = record { placements = refl; live = refl; removals = λ e. refl; over = λ e. e }

  set_as : (g : ℕ) (s : Standing) → IsBookedAs m.roll g s → (h : ℕ) → IsBookedAs m.roll h ((set m.roll g s).standing h)
  set_as g s here = by_group (IsBookedAs m.roll) m.roll g s here (λ h other. same_as h)

  -- a group that claims nothing and isn't over, before and behind
  rests_as : (g : ℕ) (s : Standing) (p : Phase) → phase_at m.roll g ≡ p → is_live p || is_over p ≡ false → s.placements ≡ (m.roll.standing g).placements → is_live s.phase ≡ false → IsBookedAs m.roll g s
  rests_as g s p at rests placements live =
      let none = or_parts (is_live p) (is_over p) rests in
      record {
        placements = placements;
        live = live ∙ (sym none.0 ∙ ap is_live (sym at));
        removals = λ e. absurd (false≢true (sym (ap (λ (x : Phase). is_live x || is_over x) at ∙ rests) ∙ e));
        over = λ e. absurd (false≢true (sym (ap is_over at ∙ none.1) ∙ e));
      }

  -- a group that is under way before and behind, or over both times
  goes_as : (g : ℕ) (s : Standing) (p : Phase) → phase_at m.roll g ≡ p → is_live s.phase ≡ is_live p → (is_over p ≡ true → is_over s.phase ≡ true) → s.placements ≡ (m.roll.standing g).placements → s.removals ≡ (m.roll.standing g).removals → IsBookedAs m.roll g s
  goes_as g s p at live over placements removals = record {
    placements = placements;
    live = live ∙ ap is_live (sym at);
    removals = λ e. removals;
    over = λ e. over (sym (ap is_over at) ∙ e);
  }

  pub booked_same : (e : Event) (ok : Bool) → Admits m e → keeps_book e ok ≡ true → (h : ℕ) → IsBookedAs m.roll h ((answered m e ok).roll.standing h)
  booked_same (PutStage g p o) true a keeps h = absurd (false≢true keeps)
  booked_same (Claim g) true a keeps h = absurd (false≢true keeps)
  booked_same (SyncClosed g) true a keeps h = absurd (false≢true keeps)
  booked_same (Begin g) true a keeps h = set_as g _ (rests_as g _ Idle a.1 refl (sym (fresh g a.1)) refl) h
  booked_same (PutRecord g removals) true a keeps h = set_as g _ (rests_as g _ Building a.0 refl refl refl) h
  booked_same (PutToken g) true a keeps h = set_as g _ (rests_as g _ Recorded a refl refl refl) h
  booked_same (SyncSealed g) true a keeps h = set_as g _ (rests_as g _ Marked a refl refl refl) h
  booked_same (OpenGate g) true a keeps h = set_as g _ (goes_as g _ Claimed a refl (λ e. absurd (false≢true e)) refl refl) h
  booked_same (SyncGate g) true a keeps h = set_as g _ (goes_as g _ GatePut a refl (λ e. absurd (false≢true e)) refl refl) h
  booked_same (PlacePath g) true a keeps h = set_as g _ (record { placements = refl; live = refl; removals = λ e. refl; over = λ e. e }) h
  booked_same (RemovePath g) true a keeps h = set_as g _ (record { placements = refl; live = refl; removals = λ e. refl; over = λ e. e }) h
  booked_same (SyncPlaced g) true a keeps h = set_as g _ (goes_as g _ Open a.0 refl (λ e. absurd (false≢true e)) refl refl) h
  booked_same (CloseGate g) true a keeps h = set_as g _ (goes_as g _ Placed a refl (λ e. absurd (false≢true e)) refl refl) h
  booked_same (Acknowledge g) true a keeps h = set_as g _ (goes_as g _ Done a refl (λ e. refl) refl refl) h
  booked_same (Abandon g) true a keeps h = set_as g _ (rests_as g _ (phase_at m.roll g) refl (quiet_end (phase_at m.roll g) a) refl refl) h
  booked_same (PutStage g p o) false a keeps h = set_as g _ (record { placements = refl; live = refl; removals = λ e. refl; over = λ e. e }) h
  booked_same (PutRecord g removals) false a keeps h = set_as g _ (record { placements = refl; live = refl; removals = λ e. refl; over = λ e. e }) h
  booked_same (PutToken g) false a keeps h = set_as g _ (record { placements = refl; live = refl; removals = λ e. refl; over = λ e. e }) h
  booked_same (OpenGate g) false a keeps h = set_as g _ (goes_as g _ Claimed a refl (λ e. absurd (false≢true e)) refl refl) h
  booked_same (PlacePath g) false a keeps h = set_as g _ (record { placements = refl; live = refl; removals = λ e. refl; over = λ e. e }) h
  booked_same (RemovePath g) false a keeps h = set_as g _ (record { placements = refl; live = refl; removals = λ e. refl; over = λ e. e }) h
  booked_same (CloseGate g) false a keeps h = set_as g _ (goes_as g _ Placed a refl (λ e. absurd (false≢true e)) refl refl) h
  booked_same (Begin g) false a keeps h = same_as h
  booked_same (SyncSealed g) false a keeps h = same_as h
  booked_same (Claim g) false a keeps h = same_as h
  booked_same (SyncGate g) false a keeps h = same_as h
  booked_same (SyncPlaced g) false a keeps h = same_as h
  booked_same (SyncClosed g) false a keeps h = same_as h
  booked_same (Acknowledge g) false a keeps h = same_as h
  booked_same (Abandon g) false a keeps h = same_as h

-- ---- lists of groups

pub groups_push : (f : Event → Bool → List ℕ) (es : List trails.Entry) (e : Event) (ok : Bool) → groups_of f (es ++ (e, ok) ∷ []) ≡ groups_of f es ++ f e ok
groups_push f [] e ok = append-nil (f e ok)
groups_push f (x ∷ es) e ok = ap (λ (l : List ℕ). f x.0 x.1 ++ l) (groups_push f es e ok) ∙ sym (append_assoc (f x.0 x.1) (groups_of f es) (f e ok))

none_done : (e : Event) (ok : Bool) → keeps_book e ok ≡ true → done_by e ok ≡ []
none_done (SyncClosed g) true keeps = absurd (false≢true keeps)
none_done (SyncClosed g) false keeps = refl
none_done (PutStage g p o) ok keeps = refl
none_done (Claim g) ok keeps = refl
none_done (Begin g) ok keeps = refl
none_done (PutRecord g removals) ok keeps = refl
none_done (PutToken g) ok keeps = refl
none_done (SyncSealed g) ok keeps = refl
none_done (OpenGate g) ok keeps = refl
none_done (SyncGate g) ok keeps = refl
none_done (PlacePath g) ok keeps = refl
none_done (RemovePath g) ok keeps = refl
none_done (SyncPlaced g) ok keeps = refl
none_done (CloseGate g) ok keeps = refl
none_done (Acknowledge g) ok keeps = refl
none_done (Abandon g) ok keeps = refl

done_same : (es : List trails.Entry) (e : Event) (ok : Bool) → done_by e ok ≡ [] → groups_of done_by (es ++ (e, ok) ∷ []) ≡ groups_of done_by es
done_same es e ok none = groups_push done_by es e ok ∙ (ap (λ (l : List ℕ). groups_of done_by es ++ l) none ∙ append-nil (groups_of done_by es))

-- ---- settled claims

settled_same : (f f' : ℕ → ClaimValue) (gs : List ℕ) (q : List ℕ) (o : Option OwnerKey) → ((g : ℕ) → Has gs g → f' g ≡ f g) → settled_by f' gs q o ≡ settled_by f gs q o
settled_same f f' [] q o same = refl
settled_same f f' (g ∷ gs) q o same =
    settled_same f f' gs q (settled_owner (f' g) q o) (λ h has. same h (inr has)) ∙ ap (λ (c : ClaimValue). settled_by f gs q (settled_owner c q o)) (same g (inl refl))

settled_push : (f : ℕ → ClaimValue) (gs : List ℕ) (g : ℕ) (q : List ℕ) (o : Option OwnerKey) → settled_by f (gs ++ g ∷ []) q o ≡ settled_owner (f g) q (settled_by f gs q o)
settled_push f [] g q o = refl
settled_push f (h ∷ gs) g q o = settled_push f gs g q (settled_owner (f h) q o)

-- ---- one event more

abbrev parts_with : List Wish → List (List ℕ) → ClaimValue
parts_with w rs = record { placed = w; removed = rs }

abbrev some_parts : List Wish → List (List ℕ) → Option ClaimValue
some_parts w rs = Some (parts_with w rs)

abbrev with_parts : List (List Wish) → ℕ → List (List ℕ) → ClaimValue
with_parts ws g removals = record { placed = wishes_at ws g; removed = removals }

-- an event that moves no claim
pub booked_on : (k k' : CoreValue) (es es' : List trails.Entry) (ws : List (List Wish)) (o b : Book) (e : Event) (ok : Bool) → keeps_book e ok ≡ true → AreFresh k → IsBooked k es ws o b → Admits (machine_of k) e
    → machine_of k' ≡ answered (machine_of k) e ok → length k'.standings ≡ length k.standings → es' ≡ es ++ (e, ok) ∷ [] → IsBooked k' es' ws o b
booked_on k k' es es' ws o b e ok keeps fresh booked admits goes count log =
    let each : (h : ℕ) → IsBookedAs (machine_of k).roll h (standing_in k'.standings h) = each_kept k k' e ok (IsBookedAs (machine_of k).roll) goes (booked_same (machine_of k) fresh e ok admits keeps) in
    let gone : groups_of done_by es' ≡ groups_of done_by es = ap (groups_of done_by) log ∙ done_same es e ok (none_done e ok keeps) in
    let over : (g : ℕ) → Has (groups_of done_by es') g → is_over (standing_in k.standings g).phase ≡ true = λ g has. booked.over g (subst (λ (l : List ℕ). Has l g) gone has) in
    record {
      rows = booked.rows ∙ sym count;
      paths = λ g. booked.paths g ∙ ap (map path_of) (sym (each g).placements);
      claims = λ g. booked.claims g ∙ claim_same (standing_in k.standings g).phase (standing_in k'.standings g).phase (wishes_at ws g) (standing_in k.standings g).removals (standing_in k'.standings g).removals (each g).live (λ live. (each g).removals (or_left _ _ live));
      over = λ g has. (each g).over (over g has);
      owners = λ q.
          booked.owners q ∙ (ap (λ (l : List ℕ). settled_by (parts_of k ws) l q (owner_in o.owned q)) (sym gone)
          ∙ sym (settled_same (parts_of k ws) (parts_of k' ws) (groups_of done_by es') q (owner_in o.owned q) (λ g has. ap (with_parts ws g) ((each g).removals (or_right _ _ (over g has))))));
    }
  where
    claim_same : (p p' : Phase) (w : List Wish) (rs rs' : List (List ℕ)) → is_live p' ≡ is_live p → (is_live p ≡ true → rs' ≡ rs) → cond (is_live p) (some_parts w rs) None ≡ cond (is_live p') (some_parts w rs') None
    claim_same p p' w rs rs' live same = elim (cases_Bool (is_live p)) [
      | inl yes' ↦ cond-true (is_live p) _ _ yes' ∙ (ap (some_parts w) (sym (same yes')) ∙ sym (cond-true (is_live p') _ _ (live ∙ yes')))
      | inr no' ↦ cond-false (is_live p) _ _ no' ∙ sym (cond-false (is_live p') _ _ (live ∙ no'))
    ]

-- ---- a wish more

at_other : (ws : List (List Wish)) (g h : ℕ) (w : List Wish) → (h ≡ g → ⊥) → wishes_at (slice_set ws g w) h ≡ wishes_at ws h
at_other [] g h w other = refl
at_other (x ∷ ws) zero zero w other = absurd (other refl)
at_other (x ∷ ws) zero (suc h) w other = refl
at_other (x ∷ ws) (suc g) zero w other = refl
at_other (x ∷ ws) (suc g) (suc h) w other = at_other ws g h w (λ e. other (ap suc e))

pub set_count : (ws : List (List Wish)) (g : ℕ) (w : List Wish) → length (slice_set ws g w) ≡ length ws
set_count [] g w = refl
set_count (x ∷ ws) zero w = refl
set_count (x ∷ ws) (suc g) w = ap suc (set_count ws g w)

-- what the standings of a stage are to the book: those of other groups are as they were
pub record IsStagedAs (k : CoreValue) (g : ℕ) (p : Placement) (h : ℕ) (x : Standing) : Type 0 where
  pub here : h ≡ g → (x.phase ≡ Building) × (x.placements ≡ (standing_in k.standings g).placements ++ p ∷ [])
  pub there : (h ≡ g → ⊥) → x ≡ standing_in k.standings h

pub staged_as : (k k' : CoreValue) (g : ℕ) (p : Placement) (o : ObjectValue) → (standing_in k.standings g).phase ≡ Building → machine_of k' ≡ answered (machine_of k) (PutStage g p o) true → (h : ℕ) → IsStagedAs k g p h (standing_in k'.standings h)
staged_as k k' g p o building goes =
    each_kept k k' (PutStage g p o) true (IsStagedAs k g p) goes
    (by_group (IsStagedAs k g p) (machine_of k).roll g _
    (record { here = λ e. (building, refl); there = λ other. absurd (other refl) })
    (λ h other. record { here = λ e. absurd (other e); there = λ e. refl }))

pub booked_stage : (k k' : CoreValue) (es es' : List trails.Entry) (ws : List (List Wish)) (o b : Book) (g : ℕ) (p : Placement) (t : ObjectValue) (w : Wish) → w.path ≡ p.path → IsBooked k es ws o b → g < length k.standings
    → (standing_in k.standings g).phase ≡ Building → machine_of k' ≡ answered (machine_of k) (PutStage g p t) true → length k'.standings ≡ length k.standings → es' ≡ es ++ (PutStage g p t, true) ∷ [] → IsBooked k' es' (with_wish ws g w) o b
booked_stage k k' es es' ws o b g p t w path booked lt building goes count log =
    let each = staged_as k k' g p t building goes in
    let gone : groups_of done_by es' ≡ groups_of done_by es = ap (groups_of done_by) log ∙ done_same es (PutStage g p t) true refl in
    record {
      rows = set_count ws g (wishes_at ws g ++ w ∷ []) ∙ (booked.rows ∙ sym count);
      paths = paths each;
      claims = λ h. booked.claims h ∙ claims each h;
      over = λ h has. over each h (booked.over h (subst (λ (l : List ℕ). Has l h) gone has));
      owners = λ q.
          booked.owners q ∙ (ap (λ (l : List ℕ). settled_by (parts_of k ws) l q (owner_in o.owned q)) (sym gone)
          ∙ sym (settled_same (parts_of k ws) (parts_of k' (with_wish ws g w)) (groups_of done_by es') q (owner_in o.owned q) (λ h has. parts each h (booked.over h (subst (λ (l : List ℕ). Has l h) gone has)))));
    }
  where
    not_over : (h : ℕ) → is_over (standing_in k.standings h).phase ≡ true → h ≡ g → ⊥
    not_over h over e = false≢true (sym (ap is_over building) ∙ subst (λ (x : ℕ). is_over (standing_in k.standings x).phase ≡ true) e over)

    paths : ((h : ℕ) → IsStagedAs k g p h (standing_in k'.standings h)) → (h : ℕ) → map books.path_of (wishes_at (with_wish ws g w) h) ≡ map path_of (standing_in k'.standings h).placements
    paths each h = elim (cases_eq h g) [
      | inl e ↦
          ap (λ (x : ℕ). map books.path_of (wishes_at (with_wish ws g w) x)) e
          ∙ (ap (map books.path_of) (get_or-set_same ws g (wishes_at ws g ++ w ∷ []) [] (subst (λ (n : ℕ). g < n) (sym booked.rows) lt))
          ∙ (map_push books.path_of (wishes_at ws g) w
          ∙ (ap (λ (l : List (List ℕ)). l ++ w.path ∷ []) (booked.paths g)
          ∙ (ap (λ (x : List ℕ). map path_of (standing_in k.standings g).placements ++ x ∷ []) path
          ∙ (sym (map_push path_of (standing_in k.standings g).placements p) ∙ ap (map path_of) (sym ((each h).here e).1))))))
      | inr other ↦ ap (map books.path_of) (at_other ws g h (wishes_at ws g ++ w ∷ []) other) ∙ (booked.paths h ∙ ap (λ (x : Standing). map path_of x.placements) (sym ((each h).there other)))
    ]

    claims : ((h : ℕ) → IsStagedAs k g p h (standing_in k'.standings h)) → (h : ℕ) → claim_of k ws h ≡ claim_of k' (with_wish ws g w) h
    claims each h = elim (cases_eq h g) [
      | inl e ↦
          cond-false (is_live (standing_in k.standings h).phase) _ _ (ap (λ (x : ℕ). is_live (standing_in k.standings x).phase) e ∙ ap is_live building)
          ∙ sym (cond-false (is_live (standing_in k'.standings h).phase) _ _ (ap is_live ((each h).here e).0))
      | inr other ↦
          ap (λ (l : List Wish). cond (is_live (standing_in k.standings h).phase) (some_parts l (standing_in k.standings h).removals) None) (sym (at_other ws g h (wishes_at ws g ++ w ∷ []) other))
          ∙ ap (λ (x : Standing). cond (is_live x.phase) (some_parts (wishes_at (with_wish ws g w) h) x.removals) None) (sym ((each h).there other))
    ]

    over : ((h : ℕ) → IsStagedAs k g p h (standing_in k'.standings h)) → (h : ℕ) → is_over (standing_in k.standings h).phase ≡ true → is_over (standing_in k'.standings h).phase ≡ true
    over each h is = ap (λ (x : Standing). is_over x.phase) ((each h).there (not_over h is)) ∙ is

    parts : ((h : ℕ) → IsStagedAs k g p h (standing_in k'.standings h)) → (h : ℕ) → is_over (standing_in k.standings h).phase ≡ true → parts_of k' (with_wish ws g w) h ≡ parts_of k ws h
    parts each h is =
        ap (λ (x : Standing). with_parts (with_wish ws g w) h x.removals) ((each h).there (not_over h is))
        ∙ ap (λ (l : List Wish). parts_with l (standing_in k.standings h).removals) (at_other ws g h (wishes_at ws g ++ w ∷ []) (not_over h is))

-- ---- a claim, and its end

-- the standings of a claim or of its end: one group is in another phase
pub record IsMovedAs (k : CoreValue) (g : ℕ) (p : Phase) (h : ℕ) (x : Standing) : Type 0 where
  pub placements : x.placements ≡ (standing_in k.standings h).placements
  pub removals : x.removals ≡ (standing_in k.standings h).removals
  pub here : h ≡ g → x.phase ≡ p
  pub there : (h ≡ g → ⊥) → x.phase ≡ (standing_in k.standings h).phase

moved_as : (k k' : CoreValue) (g : ℕ) (e : Event) (p : Phase) (s : Standing) → machine_of k' ≡ answered (machine_of k) e true → (answered (machine_of k) e true).roll.standing ≡ (set (machine_of k).roll g s).standing
    → s.phase ≡ p → s.placements ≡ (standing_in k.standings g).placements → s.removals ≡ (standing_in k.standings g).removals → (h : ℕ) → IsMovedAs k g p h (standing_in k'.standings h)
moved_as k k' g e p s goes is phase placements removals =
    each_kept k k' e true (IsMovedAs k g p) goes (λ h. subst (λ (f : ℕ → Standing). IsMovedAs k g p h (f h)) (sym is)
    (by_group (IsMovedAs k g p) (machine_of k).roll g s
    (record { placements = placements; removals = removals; here = λ e. phase; there = λ other. absurd (other refl) })
    (λ i other. record { placements = refl; removals = refl; here = λ e. absurd (other e); there = λ e. refl }) h))

parts_same : (k k' : CoreValue) (ws : List (List Wish)) (g : ℕ) (p : Phase) → ((h : ℕ) → IsMovedAs k g p h (standing_in k'.standings h)) → (h : ℕ) → parts_of k' ws h ≡ parts_of k ws h
parts_same k k' ws g p each h = ap (with_parts ws h) (each h).removals

claims_moved : (k k' : CoreValue) (ws : List (List Wish)) (b b' : Book) (g : ℕ) (p : Phase) → ((h : ℕ) → claim_in b.claims h ≡ claim_of k ws h) → ((h : ℕ) → IsMovedAs k g p h (standing_in k'.standings h))
    → ChangesClaim b b' g (cond (is_live p) (Some (parts_of k ws g)) None) → (h : ℕ) → claim_in b'.claims h ≡ claim_of k' ws h
claims_moved k k' ws b b' g p claims each changes h = elim (cases_eq h g) [
  | inl e ↦
      changes h
      ∙ (cond-true (g == h) _ _ (eq-eqb g h (sym e))
      ∙ (ap (λ (x : ℕ). cond (is_live p) (Some (parts_of k ws x)) None) (sym e)
      ∙ (ap (λ (c : ClaimValue). cond (is_live p) (Some c) None) (sym (parts_same k k' ws g p each h))
      ∙ ap (λ (x : Phase). cond (is_live x) (Some (parts_of k' ws h)) None) (sym ((each h).here e)))))
  | inr other ↦
      changes h
      ∙ (cond-false (g == h) _ _ (ne_eqb g h (λ e. other (sym e)))
      ∙ (claims h
      ∙ (ap (λ (c : ClaimValue). cond (is_live (standing_in k.standings h).phase) (Some c) None) (sym (parts_same k k' ws g p each h))
      ∙ ap (λ (x : Phase). cond (is_live x) (Some (parts_of k' ws h)) None) (sym ((each h).there other)))))
]

pub booked_claim : (k k' : CoreValue) (es es' : List trails.Entry) (ws : List (List Wish)) (o b b' : Book) (g : ℕ) → IsBooked k es ws o b → (standing_in k.standings g).phase ≡ Sealed → machine_of k' ≡ answered (machine_of k) (Claim g) true
    → length k'.standings ≡ length k.standings → es' ≡ es ++ (Claim g, true) ∷ [] → HasOwnersOf b b' → ChangesClaim b b' g (Some (parts_of k ws g)) → IsBooked k' es' ws o b'
booked_claim k k' es es' ws o b b' g booked sealed goes count log owners changes =
    let each = moved_as k k' g (Claim g) Claimed _ goes refl refl refl refl in
    let gone : groups_of done_by es' ≡ groups_of done_by es = ap (groups_of done_by) log ∙ done_same es (Claim g) true refl in
    record {
      rows = booked.rows ∙ sym count;
      paths = λ h. booked.paths h ∙ ap (map path_of) (sym (each h).placements);
      claims = claims_moved k k' ws b b' g Claimed booked.claims each changes;
      over = λ h has. over each h (booked.over h (subst (λ (l : List ℕ). Has l h) gone has));
      owners = λ q.
          owners q ∙ (booked.owners q ∙ (ap (λ (l : List ℕ). settled_by (parts_of k ws) l q (owner_in o.owned q)) (sym gone)
          ∙ sym (settled_same (parts_of k ws) (parts_of k' ws) (groups_of done_by es') q (owner_in o.owned q) (λ h has. parts_same k k' ws g Claimed each h))));
    }
  where
    over : ((h : ℕ) → IsMovedAs k g Claimed h (standing_in k'.standings h)) → (h : ℕ) → is_over (standing_in k.standings h).phase ≡ true → is_over (standing_in k'.standings h).phase ≡ true
    over each h is = elim (cases_eq h g) [
      | inl e ↦ absurd (false≢true (sym (ap is_over sealed) ∙ subst (λ (x : ℕ). is_over (standing_in k.standings x).phase ≡ true) e is))
      | inr other ↦ ap is_over ((each h).there other) ∙ is
    ]

has_last : (gs : List ℕ) (g h : ℕ) → Has (gs ++ g ∷ []) h → Has gs h ⊎ (h ≡ g)
has_last [] g h (inl e) = inr (sym e)
has_last [] g h (inr e) = absurd e
has_last (x ∷ gs) g h (inl e) = inl (inl e)
has_last (x ∷ gs) g h (inr e) = elim (has_last gs g h e) [ inl old ↦ inl (inr old) | inr new ↦ inr new ]

pub booked_settle : (k k' : CoreValue) (es es' : List trails.Entry) (ws : List (List Wish)) (o b b' : Book) (g : ℕ) → IsBooked k es ws o b → (standing_in k.standings g).phase ≡ GateTaken → machine_of k' ≡ answered (machine_of k) (SyncClosed g) true
    → length k'.standings ≡ length k.standings → es' ≡ es ++ (SyncClosed g, true) ∷ [] → ((c : ClaimValue) → claim_in b.claims g ≡ Some c → HasSettled b b' c) → ChangesClaim b b' g None → IsBooked k' es' ws o b'
booked_settle k k' es es' ws o b b' g booked taken goes count log settles changes =
    let each = moved_as k k' g (SyncClosed g) Done _ goes refl refl refl refl in
    let more : groups_of done_by es' ≡ groups_of done_by es ++ g ∷ [] = ap (groups_of done_by) log ∙ groups_push done_by es (SyncClosed g) true in
    let there : claim_in b.claims g ≡ Some (parts_of k ws g) = booked.claims g ∙ cond-true (is_live (standing_in k.standings g).phase) _ _ (ap is_live taken) in
    record {
      rows = booked.rows ∙ sym count;
      paths = λ h. booked.paths h ∙ ap (map path_of) (sym (each h).placements);
      claims = claims_moved k k' ws b b' g Done booked.claims each changes;
      over = λ h has. over each h (has_last (groups_of done_by es) g h (subst (λ (l : List ℕ). Has l h) more has));
      owners = λ q.
          settles (parts_of k ws g) there q
          ∙ (ap (settled_owner (parts_of k ws g) q) (booked.owners q)
          ∙ (sym (settled_push (parts_of k ws) (groups_of done_by es) g q (owner_in o.owned q))
          ∙ (ap (λ (l : List ℕ). settled_by (parts_of k ws) l q (owner_in o.owned q)) (sym more)
          ∙ sym (settled_same (parts_of k ws) (parts_of k' ws) (groups_of done_by es') q (owner_in o.owned q) (λ h has. parts_same k k' ws g Done each h)))));
    }
  where
    over : ((h : ℕ) → IsMovedAs k g Done h (standing_in k'.standings h)) → (h : ℕ) → Has (groups_of done_by es) h ⊎ (h ≡ g) → is_over (standing_in k'.standings h).phase ≡ true
    over each h (inr e) = ap is_over ((each h).here e)
    over each h (inl has) = elim (cases_eq h g) [
      | inl e ↦ ap is_over ((each h).here e)
      | inr other ↦ ap is_over ((each h).there other) ∙ booked.over h has
    ]

-- ---- a site that was just opened

pub unwished : (n g : ℕ) → wishes_at (replicate n []) g ≡ []
unwished zero g = refl
unwished (suc n) zero = refl
unwished (suc n) (suc g) = unwished n g

-- ---- what a claim takes is apart in the machine, too

is_key : (b : Bool) (k : OwnerKey) (o : Option OwnerKey) (t : Bool) → is_some o ≡ t → is_some (cond b (Some k) o) ≡ b || t
is_key true k o t e = refl
is_key false k o t e = e

wished_path : (ws : List Wish) (q : List ℕ) → is_wished ws q ≡ is_in (map books.path_of ws) q
wished_path [] q = refl
wished_path (w ∷ ws) q = is_key (bytes_eq q w.path) w.owner (key_in ws q) (is_in (map books.path_of ws) q) (wished_path ws q)

-- a group has the paths of its claim
has_covered : (k : CoreValue) (ws : List (List Wish)) (h : ℕ) (q : List ℕ) → map books.path_of (wishes_at ws h) ≡ map path_of (standing_in k.standings h).placements → covers (group_at (machine_of k).roll h) q ≡ true → has (parts_of k ws h) q ≡ true
has_covered k ws h q paths covered =
    let s = standing_in k.standings h in
    ap (λ (b : Bool). b || is_in s.removals q) (wished_path (wishes_at ws h) q ∙ ap (λ (l : List (List ℕ)). is_in l q) paths)
    ∙ (or_comm (is_in (map path_of s.placements) q) (is_in s.removals q) ∙ (sym (is_in-append s.removals (map path_of s.placements) q) ∙ covered))

pub claim_apart : (k : CoreValue) (es : List trails.Entry) (ws : List (List Wish)) (o b b' : Book) (g : ℕ) → IsBooked k es ws o b → (standing_in k.standings g).phase ≡ Sealed → ChangesClaim b b' g (Some (parts_of k ws g)) → AreDisjoint b'
    → are_free [] (record_paths (standing_in k.standings g).removals (wishes_at ws g)) ≡ true → IsApart (machine_of k).roll g
claim_apart k es ws o b b' g booked sealed changes disjoint free = record {
  free = subst (λ (l : List (List ℕ)). are_free [] ((standing_in k.standings g).removals ++ l) ≡ true) (booked.paths g) free;
  others = λ h q live mine theirs.
      let other : g ≡ h → ⊥ = λ e. false≢true (sym (ap is_live sealed) ∙ subst (λ (x : ℕ). is_live (standing_in k.standings x).phase ≡ true) (sym e) live) in
      let here : IsClaimedBy b'.claims q g = (parts_of k ws g, changes g ∙ cond-true (g == g) _ _ (eq-eqb g g refl), has_covered k ws g q (booked.paths g) mine) in
      let there : IsClaimedBy b'.claims q h = (parts_of k ws h, changes h ∙ (cond-false (g == h) _ _ (ne_eqb g h other) ∙ (booked.claims h ∙ cond-true (is_live (standing_in k.standings h).phase) _ _ live)), has_covered k ws h q (booked.paths h) theirs) in
      other (disjoint g h q here there);
}

replicate_count : {A : Type 0} (n : ℕ) (x : A) → length (replicate n x) ≡ n
replicate_count zero x = refl
replicate_count (suc n) x = ap suc (replicate_count n x)

all_rest : (n g : ℕ) → standing_in (replicate n resting) g ≡ resting
all_rest zero g = refl
all_rest (suc n) zero = refl
all_rest (suc n) (suc g) = all_rest n g

pub opened_booked : (k : CoreValue) (n : ℕ) (ws : List (List Wish)) (b : Book) → k ≡ at_rest n → ws ≡ replicate n [] → b.claims ≡ [] → IsBooked k [] ws b b
opened_booked k n ws b rest none unclaimed =
    let each : (g : ℕ) → standing_in k.standings g ≡ resting = λ g. ap (λ (x : CoreValue). standing_in x.standings g) rest ∙ all_rest n g in
    record {
      rows = ap length none ∙ (replicate_count n [] ∙ (sym (replicate_count n resting) ∙ ap (λ (x : CoreValue). length x.standings) (sym rest)));
      paths = λ g.
          ap (λ (l : List (List Wish)). map books.path_of (wishes_at l g)) none
          ∙ (ap (map books.path_of) (unwished n g) ∙ ap (λ (s : Standing). map path_of s.placements) (sym (each g)));
      claims = λ g.
          ap (λ (cs : List (ℕ × ClaimValue)). claim_in cs g) unclaimed
          ∙ sym (cond-false (is_live (standing_in k.standings g).phase) _ _ (ap (λ (s : Standing). is_live s.phase) (each g)));
      over = λ g has. absurd has;
      owners = λ q. refl;
    }

-- the book behind the last sync of a group: it is settled where that was answered Ok
pub booked_end : (k k' : CoreValue) (es es' : List trails.Entry) (ws : List (List Wish)) (o b b' : Book) (g : ℕ) (ok : Bool) → AreFresh k → IsBooked k es ws o b → Admits (machine_of k) (SyncClosed g) → (standing_in k.standings g).phase ≡ GateTaken
    → machine_of k' ≡ answered (machine_of k) (SyncClosed g) ok → length k'.standings ≡ length k.standings → es' ≡ es ++ (SyncClosed g, ok) ∷ []
    → (ok ≡ true → (c : ClaimValue) → claim_in b.claims g ≡ Some c → HasSettled b b' c) → (ok ≡ true → ChangesClaim b b' g None) → (ok ≡ false → b' ≡ b) → IsBooked k' es' ws o b'
booked_end k k' es es' ws o b b' g true fresh booked admits taken goes count log owners claims before = booked_settle k k' es es' ws o b b' g booked taken goes count log (owners refl) (claims refl)
booked_end k k' es es' ws o b b' g false fresh booked admits taken goes count log owners claims before =
    subst (λ (x : Book). IsBooked k' es' ws o x) (sym (before refl)) (booked_on k k' es es' ws o b (SyncClosed g) false refl fresh booked admits goes count log)

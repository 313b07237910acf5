-- One open group after another is applied.
use Rattle.std.proofs.Common.{◌≡◌, ◌≤◌, ◌<◌, ◌++◌, ◌^◌, ℕ, zero, suc, true, false, length, get_or, List, [], ◌∷◌, Result, Ok, refl, sym, ap, subst, ◌∙◌, inl, inr, arith}
use Rattle.std.specs.Prelude.{IsSome, bytes_eq}
use Rattle.std.proofs.lemmas.Bool.{cases_Bool, cond-false}
use Rattle.std.proofs.lemmas.Slice.Eq.{bytes_eq-Decides}
use Rattle.basics.specs.Members.{Has}
use Rattle.basics.proofs.Membership.{has-append_cases}
use Rattle.file_tree.specs.Disk.{Disk, Map, Moves, Story}
use Rattle.file_tree.specs.Paths.{is_below}
use Rattle.merge_record.specs.RecordValue.{RecordValue}
use Rattle.merge_journal.specs.Judging.{are_free, footprint, judged, judged_all, judged_open, ◌>>=◌}
use Rattle.file_tree.specs.Fixed.{jobs}
use Rattle.merge_journal.specs.Open.{open_groups}
use Rattle.merge_journal.specs.declared.fault.JudgeFault.{JudgeFault}
use Rattle.merge_journal.proofs.Form.{bind_ok, judged_words}
use Rattle.merge_core.specs.Recovery.{Asked, Recovers, found_content, redo, with_placed, with_redone, with_removed}
use Rattle.merge_core.proofs.Redo.{form_found, judged_opens}
use Rattle.merge_core.proofs.Redone.{redone_reads}
use Rattle.merge_core.specs.Roll.{stood}
use Rattle.merge_journal.specs.Names.{stage_path}
use Rattle.std.proofs.Common.{drop}
use Rattle.merge_core.proofs.Walk.{redo_walks}
use Rattle.recovery.proofs.Places.{free_outside}
use Rattle.merge_core.proofs.Places.{placement_at}

abbrev all_good : List RecordValue → Result (List RecordValue) JudgeFault
all_good rs = Ok rs

same_records : (xs ys : List RecordValue) → all_good xs ≡ all_good ys → xs ≡ ys
same_records xs ys e = cc

-- the records that were judged good are what is found
record_found : (c : Map) (taken : List (List ℕ)) (ns : List ℕ) (rs : List RecordValue) → judged_all c taken ns ≡ Ok rs → (r : RecordValue) → Has rs r → Has ns r.group × (found_content c r.group ≡ r)
unfolding judged_all
record_found c taken [] rs h r has = absurd (subst (λ (l : List RecordValue). Has l r) (sym (same_records [] rs h)) has)
record_found c taken (k ∷ ns) rs h r has =
    let a = bind_ok (judged c taken k) (λ x. judged_all c (taken ++ footprint x) ns >>= λ xs. Ok (x ∷ xs)) rs h in
    let b = bind_ok (judged_all c (taken ++ footprint a.0) ns) (λ xs. Ok (a.0 ∷ xs)) rs a.2 in
    let form = judged_words c taken k a.0 a.1 in
    elim (subst (λ (l : List RecordValue). Has l r) (sym (same_records (a.0 ∷ b.0) rs b.2)) has) [
      | inl e ↦ (inl (sym form.number ∙ ap (λ (x : RecordValue). x.group) e), ap (found_content c) (ap (λ (x : RecordValue). x.group) (sym e) ∙ form.number) ∙ (form_found c taken k a.0 a.1 ∙ e))
      | inr later ↦ (let n = record_found c (taken ++ footprint a.0) ns b.0 b.1 r later in (inr n.0, n.1))
    ]

-- one more group
pub one_walks : (a : Map) (rs : List RecordValue) (old mid new : Story) (r : RecordValue) → judged_open a ≡ Ok rs → Has rs r → Recovers a (redo a) old mid → Asked (footprint r) mid new → Recovers a (redo a) old new
one_walks a rs old mid new r judged_is has walks asked =
    let k = record_found a [] (open_groups a) rs (judged_opens a rs judged_is) r has in
    redo_walks a rs judged_is old mid new r.group k.0 walks (subst (λ (x : RecordValue). Asked (footprint x) mid new) (sym k.1) asked)

-- the disk once these records are redone, one after the other
abbrev pub redone_by : List RecordValue → Disk → Disk
redone_by [] d = d
redone_by (r ∷ rs) d = redone_by rs (with_placed r.group 0 r.placements (with_removed r.removals d))

pub redone_step : (rs : List RecordValue) (i : ℕ) (r : RecordValue) (d : Disk) → i < length rs → r ≡ get_or rs i r → redone_by (drop (suc i) rs) (with_placed r.group 0 r.placements (with_removed r.removals d)) ≡ redone_by (drop i rs) d
redone_step [] i r d lt is = absurd (omega arith)
redone_step (x ∷ rs) zero r d lt is = ap (λ (y : RecordValue). redone_by rs (with_placed y.group 0 y.placements (with_removed y.removals d))) is
redone_step (x ∷ rs) (suc i) r d lt is = redone_step rs i r d (omega arith) is

pub redone_end : (rs : List RecordValue) (i : ℕ) (d : Disk) → length rs ≤ i → redone_by (drop i rs) d ≡ d
redone_end [] zero d le = refl
redone_end [] (suc i) d le = refl
redone_end (r ∷ rs) zero d le = absurd (omega arith)
redone_end (r ∷ rs) (suc i) d le = redone_end rs i d (omega arith)

same_redone : (c : Map) (taken : List (List ℕ)) (ns : List ℕ) (rs : List RecordValue) (d : Disk) → judged_all c taken ns ≡ Ok rs → redone_by rs d ≡ with_redone c ns d
unfolding judged_all
same_redone c taken [] rs d h = ap (λ (l : List RecordValue). redone_by l d) (sym (same_records [] rs h))
same_redone c taken (k ∷ ns) rs d h =
    let a = bind_ok (judged c taken k) (λ x. judged_all c (taken ++ footprint x) ns >>= λ xs. Ok (x ∷ xs)) rs h in
    let b = bind_ok (judged_all c (taken ++ footprint a.0) ns) (λ xs. Ok (a.0 ∷ xs)) rs a.2 in
    let form = judged_words c taken k a.0 a.1 in
    let r = found_content c k in
    let found : r ≡ a.0 = form_found c taken k a.0 a.1 in
    let d1 = with_placed k 0 r.placements (with_removed r.removals d) in
    ap (λ (l : List RecordValue). redone_by l d) (sym (same_records (a.0 ∷ b.0) rs b.2))
    ∙ (ap (redone_by b.0)
    (ap (λ (n : ℕ). with_placed n 0 a.0.placements (with_removed a.0.removals d)) form.number
    ∙ ap (λ (x : RecordValue). with_placed k 0 x.placements (with_removed x.removals d)) (sym found))
    ∙ same_redone c (taken ++ footprint a.0) ns b.0 d1 b.1)

-- once all records are redone, the disk reads as it shall
pub all_read : (a : Map) (rs : List RecordValue) (d e : Disk) → judged_open a ≡ Ok rs → ((q : List ℕ) → d.holds q ≡ a q) → e ≡ redone_by rs d → (q : List ℕ) → e.holds q ≡ stood a (redo a) q
all_read a rs d e judged_is same is q =
    ap (λ (x : Disk). x.holds q) (is ∙ same_redone a [] (open_groups a) rs d (judged_opens a rs judged_is)) ∙ redone_reads a rs (judged_opens a rs judged_is) d same q

-- below the journal's folder nothing changes
moves_below : (old new : Story) (p q : List ℕ) → is_below jobs p ≡ false → is_below jobs q ≡ true → Moves old p new → new.now.holds q ≡ old.now.holds q
moves_below old new p q out below (inl e) = ap (λ (s : Story). s.now.holds q) e
moves_below old new p q out below (inr k) = ap (λ (s : Story). s.now.holds q) k.1 ∙ cond-false (bytes_eq p q) k.0 (old.now.holds q) (elim (cases_Bool (bytes_eq p q)) [
  | inl e ↦ absurd (let same = ap (is_below jobs) ((bytes_eq-Decides p q).0 e) in cc (same, out, below))
  | inr e ↦ e
])

asked_below : (ps : List (List ℕ)) (old new : Story) (q : List ℕ) → ((p : List ℕ) → Has ps p → is_below jobs p ≡ false) → is_below jobs q ≡ true → Asked ps old new → new.now.holds q ≡ old.now.holds q
asked_below [] old new q out below e = ap (λ (s : Story). s.now.holds q) e
asked_below (p ∷ ps) old new q out below h = asked_below ps h.0 new q (λ x has. out x (inr has)) below h.2 ∙ moves_below old h.0 p q (out p (inl refl)) below h.1

pub footprint_below : (r : RecordValue) (old new : Story) (q : List ℕ) → are_free [] (footprint r) ≡ true → is_below jobs q ≡ true → Asked (footprint r) old new → new.now.holds q ≡ old.now.holds q
footprint_below r old new q free below asked = asked_below (footprint r) old new q (free_outside r free) below asked

-- each placement has an object in its stage
pub record_staged : (c : Map) (taken : List (List ℕ)) (ns : List ℕ) (rs : List RecordValue) → judged_all c taken ns ≡ Ok rs → (r : RecordValue) → Has rs r → (i : ℕ) → i < length r.placements → IsSome (c (stage_path r.group i))
unfolding judged_all
record_staged c taken [] rs h r has i lt = absurd (subst (λ (l : List RecordValue). Has l r) (sym (same_records [] rs h)) has)
record_staged c taken (k ∷ ns) rs h r has i lt =
    let a = bind_ok (judged c taken k) (λ x. judged_all c (taken ++ footprint x) ns >>= λ xs. Ok (x ∷ xs)) rs h in
    let b = bind_ok (judged_all c (taken ++ footprint a.0) ns) (λ xs. Ok (a.0 ∷ xs)) rs a.2 in
    let form = judged_words c taken k a.0 a.1 in
    elim (subst (λ (l : List RecordValue). Has l r) (sym (same_records (a.0 ∷ b.0) rs b.2)) has) [
      | inl e ↦
          let at = placement_at a.0.placements i (subst (λ (x : RecordValue). i < length x.placements) (sym e) lt) in
          subst (λ (x : RecordValue). IsSome (c (stage_path x.group i))) e
          (subst (λ (n : ℕ). IsSome (c (stage_path n i))) (sym form.number) (subst IsSome (sym (form.stages i at.0 at.1).there) refl))
      | inr later ↦ record_staged c (taken ++ footprint a.0) ns b.0 b.1 r later i lt
    ]

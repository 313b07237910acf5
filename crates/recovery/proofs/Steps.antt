-- From call to call.
use Rattle.std.proofs.Common.{◌≡◌, ◌<◌, ◌^◌, ℕ, zero, suc, false, List, [], ◌∷◌, Some, refl, ap, subst, ◌∙◌, inl, inr, arith, length, drop, get_or, map}
use Rattle.std.specs.Prelude.{bytes_eq}
use Rattle.std.proofs.lemmas.Bool.{cases_Bool, cond-false, cond-true}
use Rattle.std.proofs.lemmas.Slice.Eq.{bytes_eq-Decides}
use Rattle.basics.specs.Members.{Has}
use Rattle.file_tree.specs.Disk.{Disk, Moves, Story, write}
use Rattle.file_tree.specs.Paths.{is_below}
use Rattle.file_tree.specs.ObjectValue.{ObjectValue}
use Rattle.merge_journal.specs.Names.{record_path}
use Rattle.file_tree.specs.Fixed.{jobs}
use Rattle.merge_journal.specs.Names.Part.{Changes}
use Rattle.merge_record.specs.Spelling.{PassesLimit}
use Rattle.merge_record.specs.declared.record.Placement.{Placement}
use Rattle.merge_core.specs.Recovery.{empty_content}
use Rattle.recovery.specs.Calls.{empty_record, emptied}
use Rattle.recovery.proofs.Asked.{AskedOn, asked_step}
use Rattle.recovery.proofs.Places.{journal_apart, records_same}
use Rattle.merge_core.proofs.Keeps.{write_reads}
use Rattle.merge_core.proofs.Paths.{file_below}
use Rattle.merge_core.proofs.Redo.{empty_length}

record_at : (gs : List ℕ) (i : ℕ) (p : List ℕ) → i < length gs → p ≡ record_path (get_or gs i 0) → p ≡ get_or (map record_path gs) i p
record_at [] i p lt is = absurd (omega arith)
record_at (g ∷ gs) zero p lt is = is
record_at (g ∷ gs) (suc i) p lt is = record_at gs i p (omega arith) is

length-records : (gs : List ℕ) → length (map record_path gs) ≡ length gs
length-records [] = refl
length-records (g ∷ gs) = ap suc (length-records gs)

-- one more record
pub records_asked : (i : ℕ) (gs : List ℕ) (p : List ℕ) (old mid next : Story) → i < length gs → p ≡ record_path (get_or gs i 0) → AskedOn (map record_path gs) i old mid → Moves mid p next → AskedOn (map record_path gs) (suc i) old next
records_asked i gs p old mid next lt is so_far moves = asked_step i (map record_path gs) p old mid next (omega (arith, lt, length-records gs)) (record_at gs i p lt is) so_far moves

pub emptied_step : (i : ℕ) (gs : List ℕ) (p : List ℕ) (o : ObjectValue) (d d' : Disk) → i < length gs → p ≡ record_path (get_or gs i 0) → o ≡ empty_record (get_or gs i 0) → d' ≡ write d p (Some o) → emptied (drop (suc i) gs) d' ≡ emptied (drop i gs) d
emptied_step i [] p o d d' lt at is wrote = absurd (omega arith)
emptied_step zero (g ∷ gs) p o d d' lt at is wrote = ap (emptied gs) (wrote ∙ (ap (λ (q : List ℕ). write d q (Some o)) at ∙ ap (λ (x : ObjectValue). write d (record_path g) (Some x)) is))
emptied_step (suc i) (g ∷ gs) p o d d' lt at is wrote = emptied_step i gs p o d d' (omega arith) at is wrote

-- ---- the records once they are put

pub emptied_outside : (gs : List ℕ) (d : Disk) (q : List ℕ) → is_below jobs q ≡ false → (emptied gs d).holds q ≡ d.holds q
emptied_outside [] d q out = refl
emptied_outside (g ∷ gs) d q out =
    emptied_outside gs (write d (record_path g) (Some (empty_record g))) q out
    ∙ write_reads d (record_path g) q (Some (empty_record g)) (d.holds q) (inr (journal_apart (record_path g) q (file_below g Changes) out, refl))

emptied_stays : (gs : List ℕ) (d : Disk) (h : ℕ) → h < 2 ^ 32 → ((g : ℕ) → Has gs g → g < 2 ^ 32) → d.holds (record_path h) ≡ Some (empty_record h) → (emptied gs d).holds (record_path h) ≡ Some (empty_record h)
emptied_stays [] d h hs small e = e
emptied_stays (g ∷ gs) d h hs small e =
    emptied_stays gs (write d (record_path g) (Some (empty_record g))) h hs (λ k has. small k (inr has))
    (elim (cases_Bool (bytes_eq (record_path g) (record_path h))) [
      | inl is ↦
          let same = records_same g h (small g (inl refl)) hs ((bytes_eq-Decides (record_path g) (record_path h)).0 is) in
          cond-true (bytes_eq (record_path g) (record_path h)) (Some (empty_record g)) (d.holds (record_path h)) is ∙ ap (λ (n : ℕ). Some (empty_record n)) same
      | inr not_it ↦ cond-false (bytes_eq (record_path g) (record_path h)) (Some (empty_record g)) (d.holds (record_path h)) not_it ∙ e
    ])

pub emptied_has : (gs : List ℕ) (d : Disk) (h : ℕ) → h < 2 ^ 32 → ((g : ℕ) → Has gs g → g < 2 ^ 32) → Has gs h → (emptied gs d).holds (record_path h) ≡ Some (empty_record h)
emptied_has [] d h hs small has = absurd has
emptied_has (g ∷ gs) d h hs small (inl e) =
    emptied_stays gs (write d (record_path g) (Some (empty_record g))) h hs (λ k has. small k (inr has))
    (subst (λ (n : ℕ). (write d (record_path g) (Some (empty_record g))).holds (record_path n) ≡ Some (empty_record n)) e (write_reads d (record_path g) (record_path g) (Some (empty_record g)) (Some (empty_record g)) (inl (refl, refl))))
emptied_has (g ∷ gs) d h hs small (inr k) = emptied_has gs (write d (record_path g) (Some (empty_record g))) h hs (λ k has. small k (inr has)) k

-- ---- a record without paths passes no limit

no_limit : (g : ℕ) → PassesLimit (empty_content g) → ⊥
no_limit g (inl lt) = omega (arith, empty_length g, lt)
no_limit g (inr (inl lt)) = omega (arith, lt)
no_limit g (inr (inr any)) = omega (arith, any.1)

pub empty_passes : (g : ℕ) (rs : List (List ℕ)) (ps : List Placement) → rs ≡ [] → ps ≡ [] → PassesLimit (record { group = g; removals = rs; placements = ps }) → ⊥
empty_passes g rs ps no_removals no_placements passes =
    no_limit g
    (subst (λ (l : List Placement). PassesLimit (record { group = g; removals = []; placements = l })) no_placements
    (subst (λ (l : List (List ℕ)). PassesLimit (record { group = g; removals = l; placements = ps })) no_removals passes))

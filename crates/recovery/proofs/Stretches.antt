-- What is so at each moment of a stretch of recovery, whatever its calls answered.
use Rattle.std.proofs.Common.{◌≡◌, ◌⊎◌, ◌<◌, ◌^◌, ℕ, true, false, cond, List, [], Option, None, Some, Ok, inl, inr, refl, sym, ap, subst, ◌∙◌, map}
use Rattle.std.specs.Prelude.{IsSome}
use Rattle.std.proofs.lemmas.Bool.{cases_Bool, cond-false, cond-true}
use Rattle.basics.specs.Members.{Has}
use Rattle.basics.proofs.Membership.{has-map}
use Rattle.file_tree.specs.Disk.{Disk, IsImage, IsUntouched, Map, Story, Syncs, next, settled}
use Rattle.file_tree.specs.Moments.{Since}
use Rattle.file_tree.specs.Paths.{is_below}
use Rattle.file_tree.specs.ObjectValue.{ObjectValue}
use Rattle.file_tree.proofs.Moments.{since_then, since_weaker}
use Rattle.merge_journal.specs.Group.{Group, covers}
use Rattle.merge_record.specs.RecordValue.{RecordValue}
use Rattle.merge_journal.specs.Judging.{are_free, footprint, judged_open}
use Rattle.file_tree.specs.PathSets.{is_in}
use Rattle.merge_journal.specs.Names.{gate_path, record_path}
use Rattle.file_tree.specs.Fixed.{jobs}
use Rattle.merge_journal.specs.Names.Part.{Gate}
use Rattle.merge_journal.specs.Open.{is_open, open_groups}
use Rattle.file_tree.proofs.PathSets.{in_if_has}
use Rattle.merge_core.specs.Order.{IsFirm}
use Rattle.merge_core.specs.Phase.{gate_owed}
use Rattle.merge_core.specs.Recovery.{Asked, Recovers, RecoversOn, found_group, recovered, redo, redone, redone_phase, shut, with_removed}
use Rattle.merge_core.specs.Roll.{phase_at, stood}
use Rattle.merge_core.proofs.Paths.{covered_outside, live_if_working}
use Rattle.merge_core.proofs.Redo.{beginning_recovers, found_by, gates_settle, judged_opens, redo_firm, redo_recovers, redo_settles, redo_sound, redone_recovers, working_among}
use Rattle.merge_core.proofs.Walk.{first_sync, gates_walk, odd_walks, walk_start, walk_synced}
use Rattle.merge_core.proofs.Redone.{removed_reads}
use Rattle.recovery.specs.Calls.{emptied}
use Rattle.recovery.specs.Found.{AreOdd, JournalValue, IsFound}
use Rattle.recovery.specs.Phases.{IsRedone, IsShut, cleared}
use Rattle.recovery.specs.Promise.{RecoversAlike, RecoversTo}
use Rattle.recovery.proofs.Gates.{few_gates, fewer_gates}
use Rattle.recovery.proofs.Steps.{emptied_has, emptied_outside}
use Rattle.basics.proofs.Tests.{none_is_not_some}

-- ---- the open groups are applied, and the records of the odd ones are emptied

pub applied_begins : (s : Story) (rs : List RecordValue) → judged_open s.now.holds ≡ Ok rs → IsUntouched s.now → Recovers s.now.holds (redo s.now.holds) s s
applied_begins s rs form untouched =
    let a = s.now.holds in
    let j = judged_opens a rs form in
    walk_start a (redo a) s (redo_recovers a rs j) (redo_firm a rs j s.now untouched (λ q. refl))

pub odd_emptied : (a : Map) (rs : List RecordValue) (gs : List ℕ) (old mid new : Story) → judged_open a ≡ Ok rs → AreOdd a gs → Recovers a (redo a) old mid → Asked (map record_path gs) mid new → Recovers a (redo a) old new
odd_emptied a rs gs old mid new form odd walks asked =
    odd_walks a rs form old mid new gs (λ g has. let k = (odd g).0 has in (k.small, k.odd)) walks asked

pub redo_synced : (a : Map) (rs : List RecordValue) (old mid new : Story) → judged_open a ≡ Ok rs → Recovers a (redo a) old mid → Syncs mid new → Recovers a (redo a) old new
redo_synced a rs old mid new form walks = walk_synced a (redo a) old mid new (redo_recovers a rs (judged_opens a rs form)) walks

-- a path of an open group is outside the journal
own_outside : (a : Map) (rs : List RecordValue) (g : ℕ) (q : List ℕ) → judged_open a ≡ Ok rs → Has (open_groups a) g → covers (found_group a g) q ≡ true → is_below jobs q ≡ false
own_outside a rs g q form has mine =
    let j = judged_opens a rs form in
    let k = working_among a rs j g has in
    covered_outside (found_group a g) q (ap (λ (z : Group). are_free [] (footprint z.content)) (sym k.1) ∙ (redo_sound a rs j).free g (live_if_working (phase_at (redo a) g) k.0)) mine

pub redone_if_synced : (a : Map) (f : JournalValue) (s1 s2 s3 : Disk) → IsFound a f → IsFirm a (redo a) s2 → ((q : List ℕ) → s1.holds q ≡ stood a (redo a) q) → s2 ≡ emptied f.odd s1 → s3 ≡ settled s2 → IsRedone a f.gates s3
redone_if_synced a f s1 s2 s3 found firm reads put synced = record {
  records = f.records;
  form = found.records;
  gates = found.gates;
  firm = subst (λ (d : Disk). IsFirm a (redone a) d) (sym synced) (redo_settles a f.records (judged_opens a f.records found.records) s2 firm
      (λ g q has mine. ap (λ (d : Disk). d.holds q) put ∙ (emptied_outside f.odd s1 q (own_outside a f.records g q found.records has mine) ∙ reads q))
      (λ g small odd some. ap (λ (d : Disk). d.holds (record_path g)) put ∙ emptied_has f.odd s1 g small (λ h has. ((found.odd h).0 has).small) ((found.odd g).1 (record { small = small; some = some; odd = odd }))));
}

-- ---- the gates go

pub gates_begin : (a : Map) (gs : List ℕ) (s : Story) → IsRedone a gs s.now → Recovers a (redone a) s s
gates_begin a gs s k = walk_start a (redone a) s (redone_recovers a k.records (judged_opens a k.records k.form)) k.firm

pub gates_go : (a : Map) (gs : List ℕ) (s new : Story) → IsRedone a gs s.now → Asked (map gate_path gs) s new → Recovers a (redone a) s new
gates_go a gs s new k asked =
    gates_walk a k.records k.form s s new gs (λ g has. (k.gates.has g).0 has) (gates_begin a gs s k) asked

pub gates_synced : (a : Map) (gs : List ℕ) (s mid new : Story) → IsRedone a gs s.now → Recovers a (redone a) s mid → Syncs mid new → Recovers a (redone a) s new
gates_synced a gs s mid new k walks = walk_synced a (redone a) s mid new (redone_recovers a k.records (judged_opens a k.records k.form)) walks

none_is_open : (x : Option ObjectValue) → x ≡ None → is_open x ≡ true → ⊥
none_is_open None e is = cc is
none_is_open (Some o) e is = cc e

-- a gate that held nothing at first holds nothing
bare_gate : (a : Map) (d : Disk) (g : ℕ) → g < 2 ^ 32 → IsFirm a (redone a) d → a (gate_path g) ≡ None → d.holds (gate_path g) ≡ None
bare_gate a d g small firm none =
    (firm.keeps (gate_path g) None (inl (record {
      group = g;
      small = small;
      part = Gate;
      path = refl;
      owed = found_by a (λ i s. a (gate_path i) ≡ None → gate_owed (a (gate_path i)) (redone_phase s.phase) ≡ Some None)
          (λ i low is e. absurd (none_is_open (a (gate_path i)) e is)) (λ i low is some e. absurd (none_is_not_some (a (gate_path i)) e some)) (λ i bare e. refl) g none;
    }))).reads

gate_gone : (a : Map) (gs : List ℕ) (d : Disk) (g : ℕ) → IsRedone a gs d → g < 2 ^ 32 → (with_removed (map gate_path gs) d).holds (gate_path g) ≡ None
gate_gone a gs d g k small = removed_reads (map gate_path gs) d (gate_path g) ∙ go (a (gate_path g)) refl
  where
    go : (x : Option ObjectValue) → a (gate_path g) ≡ x → cond (is_in (map gate_path gs) (gate_path g)) None (d.holds (gate_path g)) ≡ None
    go None e = elim (cases_Bool (is_in (map gate_path gs) (gate_path g))) [
      | inl is ↦ cond-true (is_in (map gate_path gs) (gate_path g)) None (d.holds (gate_path g)) is
      | inr not_it ↦ cond-false (is_in (map gate_path gs) (gate_path g)) None (d.holds (gate_path g)) not_it ∙ bare_gate a d g small k.firm e
    ]
    go (Some o) e =
        cond-true (is_in (map gate_path gs) (gate_path g)) None (d.holds (gate_path g)) (in_if_has (map gate_path gs) (gate_path g) (has-map gate_path gs g ((k.gates.has g).1 (small, subst IsSome (sym e) refl))))

shut_if_firm : (a : Map) (d : Disk) → IsFirm a (shut a) d → IsShut (stood a (redo a)) d
shut_if_firm a d firm = record {
  outside = λ q out. firm.keeps q (stood a (redo a) q) (inr (record { outside = out; quiet = λ g w. absurd (cc w); stands = refl }));
  gates = λ h small. firm.keeps (gate_path h) None (inl (record { group = h; small = small; part = Gate; path = refl; owed = refl }));
}

pub shut_if_gone : (a : Map) (gs : List ℕ) (s mid new : Disk) → IsRedone a gs s → IsFirm a (redone a) mid → mid ≡ with_removed (map gate_path gs) s → new ≡ settled mid → IsShut (stood a (redo a)) new
shut_if_gone a gs s mid new k firm gone synced =
    subst (λ (d : Disk). IsShut (stood a (redo a)) d) (sym synced)
    (shut_if_firm a (settled mid) (gates_settle a k.records (judged_opens a k.records k.form) mid firm (λ g small. ap (λ (d : Disk). d.holds (gate_path g)) gone ∙ gate_gone a gs s g k small)))

-- ---- the whole

-- an image of the beginning, or one that recovers as the beginning does
abbrev pub Stays : Disk → Map → Type 0
Stays d c = IsImage d c ⊎ RecoversAlike d.holds c

-- the first sync leaves the images of the beginning
pub stays_synced : (old new : Story) → Syncs old new → Since (Stays old.now) old new
stays_synced old new syncs = since_weaker (IsImage old.now) (Stays old.now) (λ c image. inl image) old new (first_sync old new syncs)

-- what the journal was read as, it was at the beginning
abbrev pub AtRest : Story → Story → Story → Type 0
AtRest s s1 s2 = (s1 ≡ next s (settled s.now)) × (s2 ≡ s1)

pub same_holds : (s s1 s2 : Story) → AtRest s s1 s2 → s2.now.holds ≡ s.now.holds
same_holds s s1 s2 rest = ap (λ (x : Story). x.now.holds) (rest.1 ∙ rest.0)

pub still_found : (s s1 s2 : Story) (f : JournalValue) → AtRest s s1 s2 → IsFound s1.now.holds f → IsFound s.now.holds f
still_found s s1 s2 f rest found = subst (λ (m : Map). IsFound m f) (ap (λ (x : Story). x.now.holds) rest.0) found

-- what was found is taken
found_taken : (a : Map) (f : JournalValue) → IsFound a f → RecoversTo a (recovered a)
found_taken a f found = (beginning_recovers a f.records found.records, few_gates a f.gates found.gates found.few)

-- so is what has no gate more
taken_on : (a : Map) (f : JournalValue) (c : Map) → IsFound a f → RecoversOn a c → RecoversTo c (recovered a)
taken_on a f c found is = (is.recovers, fewer_gates a c f.gates found.gates found.few is.gates)

-- one more stretch
stays_taken : (d : Disk) (f : JournalValue) (old mid new : Story) → IsFound d.holds f → Since (Stays d) old mid → Since (λ c. RecoversTo c (recovered d.holds)) mid new → Since (Stays d) old new
stays_taken d f old mid new found a b =
    since_then (Stays d) old mid new a (since_weaker (λ c. RecoversTo c (recovered d.holds)) (Stays d) (λ c is. inr (recovered d.holds, found_taken d.holds f found, is)) mid new b)

pub stays_on : (d : Disk) (f : JournalValue) (old mid new : Story) → IsFound d.holds f → Since (Stays d) old mid → Since (RecoversOn d.holds) mid new → Since (Stays d) old new
stays_on d f old mid new found a b =
    stays_taken d f old mid new found a (since_weaker (RecoversOn d.holds) (λ c. RecoversTo c (recovered d.holds)) (λ c is. taken_on d.holds f c found is) mid new b)

pub stays_redone : (s s1 s2 s3 : Story) (f : JournalValue) → AtRest s s1 s2 → IsFound s.now.holds f → Recovers s2.now.holds (redo s2.now.holds) s2 s3 → Since (Stays s.now) s s3
stays_redone s s1 s2 s3 f rest found walks =
    stays_on s.now f s s2 s3 found (subst (λ (x : Story). Since (Stays s.now) s x) (sym rest.1) (stays_synced s s1 (inr rest.0)))
    (subst (λ (m : Map). Since (RecoversOn m) s2 s3) (same_holds s s1 s2 rest) walks.0)

cleared_is : (a : Map) → cleared (stood a (redo a)) ≡ recovered a
cleared_is a = refl

pub stays_cleared : (d : Disk) (f : JournalValue) (old mid new : Story) → IsFound d.holds f → Since (Stays d) old mid → Since (λ c. RecoversTo c (cleared (stood d.holds (redo d.holds)))) mid new → Since (Stays d) old new
stays_cleared d f old mid new found a b =
    stays_taken d f old mid new found a (subst (λ (m : Map). Since (λ c. RecoversTo c m) mid new) (cleared_is d.holds) b)

-- the tree at the end is the recovered one
pub recovered_at_end : (a : Map) (f : JournalValue) (d : Disk) → IsFound a f → ((q : List ℕ) → d.holds q ≡ cleared (stood a (redo a)) q) → RecoversTo a d.holds
recovered_at_end a f d found is = subst (λ (m : Map). RecoversTo a m) (λ i q. sym (is q) i) (found_taken a f found)

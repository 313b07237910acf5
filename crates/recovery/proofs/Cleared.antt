-- The journal is cleared once no gate holds anything.
use Rattle.std.proofs.Common.{◌≡◌, ◌<◌, ◌^◌, ℕ, Bool, true, false, cond, List, Option, Some, None, refl, sym, ap, subst, ◌∙◌, inl, inr}
use Rattle.std.specs.Prelude.{◌↔◌, Contains, IsSome}
use Rattle.std.proofs.lemmas.Bool.{cases_Bool, cond-false, cond-true}
use Rattle.file_tree.specs.Disk.{Disk, Map, Story, Syncs, settled, write}
use Rattle.file_tree.specs.Paths.{is_below}
use Rattle.file_tree.specs.ObjectValue.{ObjectValue}
use Rattle.file_tree.proofs.Moments.{Runs, runs_start, runs_sync}
use Rattle.file_tree.specs.PathSets.{is_in}
use Rattle.merge_journal.specs.Names.{gate_path}
use Rattle.file_tree.specs.Fixed.{jobs}
use Rattle.file_tree.proofs.PathSets.{in_if_has}
use Rattle.merge_core.specs.Recovery.{Asked, with_removed}
use Rattle.merge_core.proofs.Keeps.{fixed_write}
use Rattle.merge_core.proofs.Redone.{removed_reads}
use Rattle.recovery.specs.Phases.{IsShut, cleared}
use Rattle.recovery.specs.Promise.{RecoversTo}
use Rattle.recovery.proofs.Asked.{runs_asked}
use Rattle.recovery.proofs.Shut.{quiet_write, shut_leaves, shut_settled}
use Rattle.basics.proofs.Membership.{has-from_contains, contains-from_has}
use Rattle.basics.proofs.Tests.{none_is_not_some}

-- with no gate open, whatever stands below the journal's folder and is no gate may go
shut_below : (m : Map) (p : List ℕ) → is_below jobs p ≡ true → ((h : ℕ) → h < 2 ^ 32 → p ≡ gate_path h → ⊥) → (d : Disk) (x : Option ObjectValue) → IsShut m d → IsShut m (write d p x)
shut_below m p below none d x k = record {
  outside = quiet_write m d p x below k.outside;
  gates = λ h hs. fixed_write d p (gate_path h) x None (none h hs) (k.gates h hs);
}

-- what stands below the journal's folder
abbrev pub AreBelow : List (List ℕ) → Disk → Type 0
AreBelow ps d = (q : List ℕ) → Contains ps q ↔ ((is_below jobs q ≡ true) × IsSome (d.holds q))

pub cleared_at_end : (m : Map) (ps : List (List ℕ)) (d d' : Disk) → AreBelow ps d → IsShut m d' → d' ≡ settled (with_removed ps d) → (q : List ℕ) → d'.holds q ≡ cleared m q
cleared_at_end m ps d d' all k is q = go (is_below jobs q) refl
  where
    gone : is_below jobs q ≡ true → (x : Option ObjectValue) → d.holds q ≡ x → cond (is_in ps q) None (d.holds q) ≡ None
    gone below None e = elim (cases_Bool (is_in ps q)) [ inl has ↦ cond-true (is_in ps q) None (d.holds q) has | inr none ↦ cond-false (is_in ps q) None (d.holds q) none ∙ e ]
    gone below (Some o) e = cond-true (is_in ps q) None (d.holds q) (in_if_has ps q (has-from_contains ps q ((all q).1 (below, subst IsSome (sym e) refl))))

    go : (b : Bool) → is_below jobs q ≡ b → d'.holds q ≡ cleared m q
    go true e = ap (λ (x : Disk). x.holds q) is ∙ (removed_reads ps d q ∙ (gone e (d.holds q) refl ∙ sym (cond-true (is_below jobs q) None (m q) e)))
    go false e = (k.outside q e).reads ∙ sym (cond-false (is_below jobs q) None (m q) e)

-- what was listed below the journal's folder
pub listed : (folder : List ℕ) (items ps : List (List ℕ)) (d : Disk) → folder ≡ jobs → ps ≡ items → ((q : List ℕ) → Contains items q ↔ ((is_below folder q ≡ true) × IsSome (d.holds q))) → AreBelow ps d
listed folder items ps d is same told =
    subst (λ (l : List (List ℕ)). AreBelow l d) (sym same) (subst (λ (j : List ℕ). (q : List ℕ) → Contains items q ↔ ((is_below j q ≡ true) × IsSome (d.holds q))) is told)

abbrev pub Before : Map → Map → Type 0
Before m c = RecoversTo c (cleared m)

pub shut_begins : (m : Map) (s : Story) → IsShut m s.now → Runs (IsShut m) (Before m) s s
shut_begins m s k = runs_start (IsShut m) (Before m) (shut_leaves m) s k

pub shut_cleared : (m : Map) (ps : List (List ℕ)) (s new : Story) → AreBelow ps s.now → IsShut m s.now → Asked ps s new → Runs (IsShut m) (Before m) s new
shut_cleared m ps s new all k asked =
    runs_asked (IsShut m) (Before m) (shut_leaves m) ps s s new
    (λ p has.
    let b = (all p).0 (contains-from_has ps p has) in
    shut_below m p b.0 (λ h small e. none_is_not_some (s.now.holds (gate_path h)) (k.gates h small).reads (subst (λ (q : List ℕ). IsSome (s.now.holds q)) e b.1))) (shut_begins m s k) asked

pub shut_synced : (m : Map) (old mid new : Story) → Runs (IsShut m) (Before m) old mid → Syncs mid new → Runs (IsShut m) (Before m) old new
shut_synced m old mid new run syncs = runs_sync (IsShut m) (Before m) (shut_leaves m) old mid new (shut_settled m) run syncs

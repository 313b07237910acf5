-- With no gate open: what the disk survives, and what its images recover to.
use Rattle.std.proofs.Common.{◌≡◌, ◌<◌, ◌^◌, ℕ, Bool, true, false, cond, List, [], Option, None, refl, sym, ap, subst, ◌∙◌, arith}
use Rattle.std.proofs.lemmas.Bool.{cond-true}
use Rattle.file_tree.specs.Disk.{Disk, Fixed, IsImage, Map, settled, write}
use Rattle.file_tree.specs.Moments.{Leaves}
use Rattle.file_tree.specs.Paths.{is_below}
use Rattle.file_tree.specs.ObjectValue.{ObjectValue}
use Rattle.merge_journal.specs.Judging.{judged_all, judged_open}
use Rattle.merge_journal.specs.Names.{gate_path}
use Rattle.file_tree.specs.Fixed.{jobs}
use Rattle.merge_journal.specs.Open.{is_open, open_groups}
use Rattle.merge_journal.specs.Recovered.{IsRecovered}
use Rattle.merge_journal.proofs.Opened.{Opens, open_groups_only}
use Rattle.merge_journal.proofs.Recovery.{recovered_is}
use Rattle.merge_core.proofs.Images.{fixed_in}
use Rattle.merge_core.proofs.Keeps.{fixed_write}
use Rattle.recovery.specs.Found.{HasTooManyGates}
use Rattle.recovery.specs.Phases.{IsQuiet, IsShut, cleared}
use Rattle.recovery.specs.Promise.{RecoversTo}
use Rattle.basics.proofs.Tests.{none_is_not_some}
use Rattle.recovery.proofs.Gates.{gates_within}
use Rattle.recovery.proofs.Places.{journal_apart}

-- ---- what it survives

fixed_settled : (d : Disk) (q : List ℕ) (v : Option ObjectValue) → Fixed d q v → Fixed (settled d) q v
fixed_settled d q v f = record { untouched = refl; reads = f.reads }

pub quiet_write : (m : Map) (d : Disk) (p : List ℕ) (x : Option ObjectValue) → is_below jobs p ≡ true → IsQuiet m d → IsQuiet m (write d p x)
quiet_write m d p x below quiet q out = fixed_write d p q x (m q) (journal_apart p q below out) (quiet q out)

pub shut_settled : (m : Map) (d : Disk) → IsShut m d → IsShut m (settled d)
shut_settled m d shut = record {
  outside = λ q out. fixed_settled d q (m q) (shut.outside q out);
  gates = λ h hs. fixed_settled d (gate_path h) None (shut.gates h hs);
}

-- ---- what its images recover to

-- an image of a quiet disk, cleared, is the map cleared
cleared_alike : (m : Map) (d : Disk) (c : Map) → IsQuiet m d → IsImage d c → (q : List ℕ) → cleared c q ≡ cleared m q
cleared_alike m d c quiet image q = go (is_below jobs q) refl where
  go : (b : Bool) → is_below jobs q ≡ b → cleared c q ≡ cleared m q
  go true e = cond-true (is_below jobs q) None (c q) e ∙ sym (cond-true (is_below jobs q) None (m q) e)
  go false e = ap (λ (x : Option ObjectValue). cond (is_below jobs q) None x) (fixed_in d c q (m q) image (quiet q e))

-- with no gate open, no group is
none_open : (c : Map) → ((h : ℕ) → h < 2 ^ 32 → is_open (c (gate_path h)) ≡ false) → open_groups c ≡ []
none_open c shut = sym (open_groups_only c [] tt (λ g. (λ has. absurd has, λ (o : Opens c (2 ^ 32) g). absurd (cc (shut g o.0, o.1)))))

recovered_none : (c : Map) → open_groups c ≡ [] → IsRecovered c (cleared c)
unfolding judged_open judged_all
recovered_none c none = recovered_is c [] (ap (λ (gs : List ℕ). judged_all c [] gs) none)

-- a map without gates hasn't too many
no_gates : (c : Map) → ((h : ℕ) → h < 2 ^ 32 → c (gate_path h) ≡ None) → HasTooManyGates c → ⊥
no_gates c none = gates_within c [] tt (omega arith) (λ g small some. absurd (none_is_not_some (c (gate_path g)) (none g small) some))

pub shut_leaves : (m : Map) (d : Disk) → IsShut m d → Leaves (λ c. RecoversTo c (cleared m)) d
shut_leaves m d shut c image =
    let bare = λ (h : ℕ). λ (small : h < 2 ^ 32). fixed_in d c (gate_path h) None image (shut.gates h small) in
    let none : open_groups c ≡ [] = none_open c (λ h small. ap is_open (bare h small)) in
    (subst (λ (n : Map). IsRecovered c n) (λ i q. cleared_alike m d c shut.outside image q i) (recovered_none c none), no_gates c bare)

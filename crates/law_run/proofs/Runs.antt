-- A tree at rest recovers to itself.
use Rattle.std.proofs.Common.{◌≡◌, ◌∙◌, ℕ, Bool, true, false, List, [], None, refl, ap, subst, sym}
use Rattle.std.specs.Prelude.{if◌then◌else◌}
use Rattle.std.proofs.lemmas.Bool.{cond-true}
use Rattle.file_tree.specs.Disk.{Map, new_story}
use Rattle.file_tree.specs.Paths.{is_below}
use Rattle.merge_journal.specs.Group.{Group, applied, with_groups}
use Rattle.merge_core.proofs.Paths.{file_below}
use Rattle.merge_journal.specs.Names.{Gate}
use Rattle.file_tree.specs.Fixed.{jobs}
use Rattle.recovery.specs.Phases.{IsShut}
use Rattle.recovery.specs.Promise.{RecoversTo}
use Rattle.recovery.proofs.Shut.{shut_leaves}

rest_shut : (m : Map) → ((q : List ℕ) → is_below jobs q ≡ true → m q ≡ None) → IsShut m (new_story m).now
rest_shut m empty = record {
  outside = λ q out. record { untouched = refl; reads = refl };
  gates = λ h small. record { untouched = refl; reads = empty _ (file_below h Gate) };
}

pub applied_none : (m : Map) → ((q : List ℕ) → is_below jobs q ≡ true → m q ≡ None) → (q : List ℕ) → applied m [] q ≡ m q
applied_none m empty q = at (is_below jobs q) refl
  where
    at : (b : Bool) → is_below jobs q ≡ b → applied m [] q ≡ m q
    at true e = cond-true (is_below jobs q) None (m q) e ∙ sym (empty q e)
    at false e = ap (λ (b : Bool). if b then None else m q) e

pub rest_recovers : (m : Map) → ((q : List ℕ) → is_below jobs q ≡ true → m q ≡ None) → RecoversTo m m
rest_recovers m empty = subst (λ (n : Map). RecoversTo m n) (λ i q. applied_none m empty q i) (shut_leaves m (new_story m).now (rest_shut m empty) m (λ q e. refl))

pub applied_empty : (m : Map) (xs : List Group) (q : List ℕ) → is_below jobs q ≡ true → applied m xs q ≡ None
applied_empty m xs q e = ap (λ (b : Bool). if b then None else with_groups xs q (m q)) e

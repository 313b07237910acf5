-- A site that was just opened keeps what it promises.
use Rattle.std.proofs.Common.{◌≡◌, ◌≤◌, ◌⊎◌, ◌++◌, ◌∷◌, ◌∙◌, ℕ, zero, suc, Bool, false, List, [], Some, None, ap, inl, inr, refl, subst, sym, length, length-append, arith}
use Rattle.std.specs.Prelude.{IsTrue, replicate, slice_get}
use Rattle.file_tree.specs.Disk.{Disk, Story}
use Rattle.file_tree.specs.ObjectValue.{ObjectValue}
use Rattle.merge_journal.specs.Group.{token}
use Rattle.merge_core.specs.CoreValue.{CoreValue, at_rest, machine_of}
use Rattle.merge_core.specs.Order.{IsInOrder}
use Rattle.merge_core.specs.Roll.{Machine, Standing, idle, resting}
use Rattle.merge_core.specs.Trail.{IsAtRest}
use Rattle.merge_core.specs.Core.{standing_in}
use Rattle.merge_core.proofs.Trails.{rest_in_order}
use Rattle.merge_site.specs.declared.group.SiteGroup.{SiteGroup}
use Rattle.merge_site.specs.Site.{AreNumbered, IsHeld, IsSiteInOrder, IsPossible, JobValue, new_payload, new_payloads}

at_append : {A : Type 0} (xs : List A) (y : A) (i : ℕ) (x : A) → slice_get (xs ++ y ∷ []) i ≡ Some x → (slice_get xs i ≡ Some x) ⊎ ((i ≡ length xs) × (y ≡ x))
at_append [] y zero x e = inr (refl, cc e)
at_append [] y (suc i) x e = absurd (cc e)
at_append (z ∷ xs) y zero x e = inl e
at_append (z ∷ xs) y (suc i) x e = elim (at_append xs y i x e) [
  | inl h ↦ inl h
  | inr h ↦ inr (ap suc h.0, h.1)
]

payloads_count : (n : ℕ) → length (new_payloads n) ≡ n
payloads_count zero = refl
payloads_count (suc n) = let one = length-append (new_payloads n) (new_payload n ∷ []) in omega (arith, one, payloads_count n)

payloads_numbered : (n : ℕ) → AreNumbered (new_payloads n)
payloads_numbered zero i p at = absurd (cc at)
payloads_numbered (suc n) i p at = elim (at_append (new_payloads n) (new_payload n) i p at) [
  | inl h ↦ payloads_numbered n i p h
  | inr h ↦ (sym (ap (λ (x : JobValue). x.group) h.1) ∙ (sym (payloads_count n) ∙ sym h.0))
]

rest_count : (n : ℕ) → length (replicate n resting) ≡ n
rest_count zero = refl
rest_count (suc n) = ap suc (rest_count n)

abbrev empty : Disk
empty = record { holds = λ q. None; touched = λ q. false }

some_order : (k : CoreValue) → machine_of k ≡ idle → IsPossible k
some_order k machine = record {
  opening = λ q. None;
  disk = empty;
  order = subst (λ (m : Machine). IsInOrder (λ q. None) m empty) (sym machine) (rest_in_order (λ q. None) empty (record { untouched = λ q. refl; reads = λ q. refl; empty = λ q below. refl }));
}

held_first : (k : CoreValue) (start now : Story) → machine_of k ≡ idle → start ≡ now → IsAtRest now.now.holds now.now → IsHeld k [] start now
held_first k start now machine same rest = record {
  order = subst (λ (s : Story). IsInOrder s.now.holds (machine_of k) now.now) (sym same) (subst (λ (m : Machine). IsInOrder now.now.holds m now.now) (sym machine) (rest_in_order now.now.holds now.now rest));
  trail = sym same;
}

pub opened_kept : (tells : Bool) (k : CoreValue) (n : ℕ) (xs : List SiteGroup) (ps : List JobValue) (start now : Story) (mark : ObjectValue) → k ≡ at_rest n → machine_of k ≡ idle → ps ≡ new_payloads n → length xs ≡ n → mark ≡ token
    → start ≡ now → (IsTrue tells → IsAtRest now.now.holds now.now) → IsSiteInOrder tells k [] xs ps start now mark
opened_kept tells k n xs ps start now mark rest machine new count is same quiet =
    let all : length k.standings ≡ n = ap (λ (x : CoreValue). length x.standings) rest ∙ rest_count n in
    let each : (i : ℕ) → standing_in k.standings i ≡ resting = λ i. ap (λ (m : Machine). m.roll.standing i) machine in
    record {
      leads = sym machine;
      step = record {
        numbered = subst AreNumbered (sym new) (payloads_numbered n);
        paths = λ i p at. subst (λ (s : Standing). length s.placements ≤ p.staged) (sym (each i)) (omega arith);
        fresh = λ i e. ap (λ (s : Standing). s.placements) (each i);
        payloads_all = ap length new ∙ (payloads_count n ∙ sym all);
        groups_all = count ∙ sym all;
      };
      is_token = is;
      possible = some_order k machine;
      held = λ t. held_first k start now machine same (quiet t);
    }

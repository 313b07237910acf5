-- What a machine in order reads: the token, and the stages, which are no paths of a group.
use Rattle.std.proofs.Common.{◌≡◌, ◌⊎◌, ◌<◌, ◌∷◌, ◌^◌, ◌∙◌, ℕ, zero, suc, true, false, List, [], Option, Some, None, ap, inl, inr, refl, subst, sym, length, map, arith}
use Rattle.std.specs.Prelude.{IsSome, cond, slice_get, slice_index_or}
use Rattle.basics.proofs.Membership.{has-append_right, has-map, has-slice_get}
use Rattle.basics.proofs.Tests.{some-IsSome}
use Rattle.file_tree.specs.Disk.{Disk, Map}
use Rattle.file_tree.specs.Paths.{is_below}
use Rattle.merge_journal.specs.Group.{covers, token}
use Rattle.merge_journal.proofs.Changes.{staged_at}
use Rattle.file_tree.proofs.PathSets.{in_if_has}
use Rattle.merge_journal.specs.Judging.{footprint, path_of}
use Rattle.merge_journal.specs.Names.{stage_path, token_path}
use Rattle.file_tree.specs.Fixed.{jobs}
use Rattle.merge_journal.specs.Names.Part.{Stage, Token}
use Rattle.merge_record.specs.declared.record.Placement.{Placement}
use Rattle.merge_core.specs.Order.{IsInOrder}
use Rattle.merge_core.specs.Phase.{Claimed, Open, Phase, has_token, is_working}
use Rattle.merge_core.specs.Roll.{Machine, group_at, phase_at, some_file}
use Rattle.merge_core.proofs.Paths.{below_and_not, file_below, target_outside}

abbrev some_of : {A : Type 0} → A → Option A
some_of x = Some x

-- the token of a claimed group stands there
pub token_there : (opening : Map) (m : Machine) (d : Disk) (g : ℕ) → IsInOrder opening m d → m.stopped ≡ false → g < 2 ^ 32 → phase_at m.roll g ≡ Claimed → IsSome (d.holds (token_path g))
token_there opening m d g order going small phase =
    some-IsSome (d.holds (token_path g)) token (order.reads going g (token_path g) (Some token) (inl (record {
      small = small;
      part = Token;
      path = refl;
      reads = ap (λ (p : Phase). cond (has_token p) (Some (Some token)) None) phase;
    })))

-- so does the stage of each placement
pub stage_there : (opening : Map) (m : Machine) (d : Disk) (g i : ℕ) (p : Placement) → IsInOrder opening m d → m.stopped ≡ false → g < 2 ^ 32 → slice_get (m.roll.standing g).placements i ≡ Some p
    → IsSome (d.holds (stage_path g i))
stage_there opening m d g i p order going small at =
    let s = staged_at (m.roll.standing g).placements (m.roll.standing g).objects i p (order.firm.sound.staged g) at in
    some-IsSome (d.holds (stage_path g i)) s.0 (order.reads going g (stage_path g i) (Some s.0) (inl (record {
      small = small;
      part = Stage i;
      path = refl;
      reads = ap some_file s.1;
    })))

-- no stage is a path of an open group
pub stage_differs : (opening : Map) (m : Machine) (d : Disk) (g i : ℕ) (p : Placement) → IsInOrder opening m d → phase_at m.roll g ≡ Open → slice_get (m.roll.standing g).placements i ≡ Some p
    → stage_path g i ≡ p.path → ⊥
stage_differs opening m d g i p order phase at same =
    let s = m.roll.standing g in
    let has = has-append_right s.removals (map path_of s.placements) p.path (has-map path_of s.placements p (has-slice_get s.placements i p at)) in
    let covered : covers (group_at m.roll g) p.path ≡ true = in_if_has (footprint (group_at m.roll g).content) p.path has in
    let out = target_outside opening m.roll g p.path order.firm.sound (ap is_working phase) covered in
    below_and_not p.path (subst (λ (q : List ℕ). is_below jobs q ≡ true) same (file_below g (Stage i))) out

-- where an event may follow that is none that gives a group up, none has failed
pub runs : (m : Machine) → (m.stopped ≡ false) ⊎ (false ≡ true) → m.stopped ≡ false
runs m (inl e) = e
runs m (inr e) = absurd (cc e)

-- what stands at a place of a list
pub got : {A : Type 0} (xs : List A) (i : ℕ) (y : A) → i < length xs → y ≡ slice_index_or xs i y → slice_get xs i ≡ Some y
got [] i y lt e = absurd (omega arith)
got (x ∷ xs) zero y lt e = ap some_of (sym e)
got (x ∷ xs) (suc i) y lt e = got xs i y (omega arith) e

pub indexed : {A : Type 0} (xs : List A) (i : ℕ) (y x : A) → y ≡ slice_index_or xs i y → slice_get xs i ≡ Some x → y ≡ x
indexed [] i y x e at = absurd (cc at)
indexed (z ∷ xs) zero y x e at = e ∙ cc at
indexed (z ∷ xs) (suc i) y x e at = indexed xs i y x e at

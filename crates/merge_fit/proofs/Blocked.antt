-- What blocks a path, by its parts and by how it looks.
use Rattle.std.proofs.Common.{◌≡◌, ◌⊎◌, ◌<◌, ◌≤◌, ℕ, Bool, true, false, List, length, take, None, ap, sym, ◌∙◌, subst, inl, inr, arith}
use Rattle.std.specs.Prelude.{IsSome, is_some}
use Rattle.std.proofs.lemmas.Bool.{cases_lt, false≢true, true≢false}
use Rattle.std.proofs.lemmas.List.{length-take-le}
use Rattle.file_tree.specs.Disk.{Looks, Map}
use Rattle.file_tree.specs.Paths.{is_below}
use Rattle.file_tree.specs.declared.objects.Look.{Look}
use Rattle.file_tree.specs.declared.objects.Look.TheVariants.{Folder, Item, Nothing}
use Rattle.merge_fit.specs.Images.{HoldsPart, IsBlock, IsClear, IsFirstBlock, IsFolder, is_passed}
use Rattle.merge_fit.proofs.Parts.{above_is_part, none_above_by_parts}
use Rattle.merge_fit.proofs.Ways.{NoneBefore, part_is_above}

not_shorter : (m : Map) (held : Bool) (path r : List ℕ) (at : ℕ) → at ≤ length path → NoneBefore m path at → IsBlock m held path r → at ≤ length r
not_shorter m held path r at within none (inl (below, some)) =
    let part = above_is_part r path below in
    elim (cases_lt (length r) at) [
      | inl lt ↦ absurd (none (length r) lt (part.0, subst (λ (p : List ℕ). IsSome (m p)) (sym part.1) some))
      | inr ge ↦ ge
    ]
not_shorter m held path r at within none (inr (is, there)) = subst (λ (p : List ℕ). at ≤ length p) (sym is) within

-- the part before this place is the first that blocks
pub first_part_blocks : (m : Map) (held : Bool) (path above : List ℕ) (at : ℕ) → at < length path → NoneBefore m path at → HoldsPart m path at → above ≡ take at path → IsFirstBlock m held path above
first_part_blocks m held path above at within none holds is =
    let n : length above ≡ at = ap length is ∙ length-take-le at path (omega (arith, within)) in
    record {
      there = inl (subst (λ (p : List ℕ). is_below p path ≡ true) (sym is) (part_is_above path at within holds.0), subst (λ (p : List ℕ). IsSome (m p)) (sym is) holds.1);
      least = λ r block. subst (λ (k : ℕ). k ≤ length r) (sym n) (not_shorter m held path r at (omega (arith, within)) none block);
    }

-- a path that isn't passed is itself the first that blocks
pub first_whole_blocks : (m : Map) (held : Bool) (path q : List ℕ) (l : Look) → NoneBefore m path (length path) → q ≡ path → Looks m path l → is_passed l held ≡ false → IsFirstBlock m held path q
first_whole_blocks m held path q l none is looks not = record {
  there = inr (is, kind l looks not);
  least = λ r block. subst (λ (p : List ℕ). length p ≤ length r) (sym is) (not_shorter m held path r (length path) (omega arith) none block);
}
  where
    kind : (l : Look) → Looks m path l → is_passed l held ≡ false → ((held ≡ false) × IsSome (m path)) ⊎ IsFolder m path
    kind Nothing looks not = absurd (true≢false not)
    kind (Item k) looks not = inl (not, ap is_some looks.1)
    kind Folder looks not = inr looks

pub clear_if : (m : Map) (held : Bool) (path : List ℕ) (l : Look) → NoneBefore m path (length path) → Looks m path l → is_passed l held ≡ true → IsClear m held path
clear_if m held path l none looks passed = record {
  empty = λ free. at l looks passed free;
  no_folder = λ folder. bare l looks passed folder;
  none_above = none_above_by_parts m path none;
}
  where
    at : (l : Look) → Looks m path l → is_passed l held ≡ true → held ≡ false → m path ≡ None
    at Nothing looks passed free = looks.0
    at (Item k) looks passed free = absurd (false≢true (sym free ∙ passed))
    at Folder looks passed free = looks.0

    bare : (l : Look) → Looks m path l → is_passed l held ≡ true → IsFolder m path → ⊥
    bare Nothing looks passed folder = looks.1 folder.1
    bare (Item k) looks passed folder = false≢true (ap is_some (sym folder.0 ∙ looks.1))
    bare Folder looks passed folder = false≢true passed

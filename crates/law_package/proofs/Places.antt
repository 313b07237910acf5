-- What a group that places files puts at each path.
use Rattle.std.proofs.Common.{◌≡◌, ◌∙◌, ◌++◌, ℕ, Bool, false, List, [], ◌∷◌, Option, Some, None, inl, inr, refl, ap, map, subst, sym}
use Rattle.std.specs.Prelude.{IsSome, bytes_eq, if◌then◌else◌}
use Rattle.std.proofs.lemmas.Bool.{cases_Bool}
use Rattle.basics.specs.Members.{AreDistinct, Has}
use Rattle.basics.proofs.Membership.{has-append_left, has-map, has-map_back}
use Rattle.basics.proofs.Texts.{bytes_eq-apart, bytes_eq-same}
use Rattle.basics.proofs.Tests.{none_is_not_some}
use Rattle.file_tree.specs.Disk.{held_by}
use Rattle.file_tree.specs.ObjectValue.{ObjectValue}
use Rattle.file_tree.specs.declared.objects.Entry.{Entry}
use Rattle.merge_fit.specs.Images.{path_of}
use Rattle.merge_journal.specs.Group.{with_placements}
use Rattle.merge_journal.proofs.Changes.{placed_outside}
use Rattle.merge_journal.specs.Judging as judging
use Rattle.file_tree.specs.PathSets.{is_in}
use Rattle.merge_record.specs.declared.record.OwnerKey.{OwnerKey}
use Rattle.merge_journal.proofs.Form.{false_if_absent}
use Rattle.file_tree.proofs.PathSets.{has_if_in}
use Rattle.merge_site.specs.Staging.{placement_of}
use Rattle.vdb_law.specs.Step.{put}
use Rattle.merge_group.specs.Granted.{wishes_for}
use Rattle.merge_group.specs.Working.{object_of, placing}
use Rattle.owner_book.specs.Book as books

pub wished_paths : (k : OwnerKey) (folder : Bool) (es : List Entry) → map books.path_of (wishes_for k folder es) ≡ map path_of es
wished_paths k folder [] = refl
wished_paths k folder (e ∷ es) = ap (λ (l : List (List ℕ)). e.path ∷ l) (wished_paths k folder es)

pub placed_paths : (es : List Entry) → map judging.path_of (map placement_of es) ≡ map path_of es
placed_paths [] = refl
placed_paths (e ∷ es) = ap (λ (l : List (List ℕ)). e.path ∷ l) (placed_paths es)

-- what no file has stays as it was
absent : (es : List Entry) (q : List ℕ) → (Has (map path_of es) q → ⊥) → is_in (map judging.path_of (map placement_of es)) q ≡ false
absent es q none = false_if_absent (map judging.path_of (map placement_of es)) q _ refl (λ has. none (subst (λ (l : List (List ℕ)). Has l q) (placed_paths es) has))

untouched : (es : List Entry) (q : List ℕ) (x : Option ObjectValue) → (Has (map path_of es) q → ⊥) → with_placements (map placement_of es) (map object_of es) q x ≡ x
untouched es q x none = placed_outside (map placement_of es) (map object_of es) q x (absent es q none)

placed_at : (es : List Entry) (e : Entry) (x : Option ObjectValue) → AreDistinct (map path_of es) → Has es e → with_placements (map placement_of es) (map object_of es) e.path x ≡ Some e.object
placed_at [] e x distinct has = absurd has
placed_at (d ∷ es) e x distinct (inl same) =
    subst (λ (f : Entry). with_placements (map placement_of es) (map object_of es) f.path (if bytes_eq f.path d.path then Some d.object else x) ≡ Some f.object) same
    (untouched es d.path (if bytes_eq d.path d.path then Some d.object else x) distinct.0
    ∙ ap (λ (b : Bool). if b then Some d.object else x) (bytes_eq-same d.path))
placed_at (d ∷ es) e x distinct (inr has) = placed_at es e (if bytes_eq e.path d.path then Some d.object else x) distinct.1 has

pub put_at : (n : ℕ) (es : List Entry) (e : Entry) → AreDistinct (map path_of es) → Has es e → put (placing n es) e.path ≡ Some e.object
put_at n es e distinct has = placed_at es e None distinct has

pub put_by : (n : ℕ) (es : List Entry) (q : List ℕ) → IsSome (put (placing n es) q) → (e : Entry) × Has es e × (e.path ≡ q)
put_by n es q some = elim (cases_Bool (is_in (map judging.path_of (map placement_of es)) q)) [
  | inl e ↦ has-map_back path_of es q (subst (λ (l : List (List ℕ)). Has l q) (placed_paths es) (has_if_in _ q e))
  | inr e ↦ absurd (none_is_not_some (put (placing n es) q) (placed_outside (map placement_of es) (map object_of es) q None e) some)
]

-- ---- the map of files

pub held_at : (es : List Entry) (e : Entry) → AreDistinct (map path_of es) → Has es e → held_by es e.path ≡ Some e.object
held_at [] e distinct has = absurd has
held_at (d ∷ es) e distinct (inl same) =
    subst (λ (f : Entry). held_by (d ∷ es) f.path ≡ Some f.object) same (ap (λ (b : Bool). if b then Some d.object else held_by es d.path) (bytes_eq-same d.path))
held_at (d ∷ es) e distinct (inr has) =
    ap (λ (b : Bool). if b then Some d.object else held_by es e.path) (bytes_eq-apart e.path d.path (λ same. distinct.0 (subst (λ (p : List ℕ). Has (map path_of es) p) same (has-map path_of es e has))))
    ∙ held_at es e distinct.1 has

pub held_none : (es : List Entry) (q : List ℕ) → (Has (map path_of es) q → ⊥) → held_by es q ≡ None
held_none [] q none = refl
held_none (d ∷ es) q none =
    ap (λ (b : Bool). if b then Some d.object else held_by es q) (bytes_eq-apart q d.path (λ same. none (inl (sym same))))
    ∙ held_none es q (λ has. none (inr has))

pub distinct_back : {A : Type 0} (xs ys : List A) → AreDistinct (xs ++ ys) → AreDistinct ys
distinct_back [] ys distinct = distinct
distinct_back (x ∷ xs) ys distinct = distinct_back xs ys distinct.1

pub distinct_front : {A : Type 0} (xs ys : List A) → AreDistinct (xs ++ ys) → AreDistinct xs
distinct_front [] ys distinct = tt
distinct_front (x ∷ xs) ys distinct = ((λ has. distinct.0 (has-append_left xs ys x has)), distinct_front xs ys distinct.1)

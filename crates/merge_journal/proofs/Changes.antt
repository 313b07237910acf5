-- What groups make of what stands at a path.
use Rattle.std.proofs.Common.{◌≡◌, ℕ, zero, suc, Bool, true, false, cond, map, List, [], ◌∷◌, ◌++◌, Option, Some, None, refl, sym, ap, subst, ◌∙◌, inl, inr}
use Rattle.std.specs.Prelude.{bytes_eq, slice_get}
use Rattle.std.proofs.lemmas.Bool.{cases_Bool, cond-true, cond-false, or_parts}
use Rattle.basics.specs.Members.{Has}
use Rattle.file_tree.specs.ObjectValue.{ObjectValue}
use Rattle.merge_journal.specs.Judging.{IsStaged, path_of}
use Rattle.file_tree.specs.PathSets.{is_in}
use Rattle.merge_record.specs.declared.record.Placement.{Placement}
use Rattle.file_tree.proofs.PathSets.{is_in-append}
use Rattle.merge_journal.specs.Group.{AreStaged, Group, covers, with_group, with_groups, with_placements}
use Rattle.basics.proofs.Tests.{or_rest}

placed_covered : (ps : List Placement) (os : List ObjectValue) (q : List ℕ) (x y : Option ObjectValue) → AreStaged ps os → is_in (map path_of ps) q ≡ true → with_placements ps os q x ≡ with_placements ps os q y
placed_covered [] os q x y all h = absurd (cc h)
placed_covered (p ∷ ps) [] q x y all h = absurd all
placed_covered (p ∷ ps) (o ∷ os) q x y all h = go (bytes_eq q p.path) refl (λ rest. placed_covered ps os q x y all.1 rest) where
  go : (b : Bool) → bytes_eq q p.path ≡ b → (is_in (map path_of ps) q ≡ true → with_placements ps os q x ≡ with_placements ps os q y) → with_placements (p ∷ ps) (o ∷ os) q x ≡ with_placements (p ∷ ps) (o ∷ os) q y
  go true e further = ap (with_placements ps os q) (cond-true (bytes_eq q p.path) (Some o) x e ∙ sym (cond-true (bytes_eq q p.path) (Some o) y e))
  go false e further =
      ap (with_placements ps os q) (cond-false (bytes_eq q p.path) (Some o) x e)
      ∙ (further (or_rest (bytes_eq q p.path) (is_in (map path_of ps) q) e h) ∙ sym (ap (with_placements ps os q) (cond-false (bytes_eq q p.path) (Some o) y e)))

pub placed_outside : (ps : List Placement) (os : List ObjectValue) (q : List ℕ) (x : Option ObjectValue) → is_in (map path_of ps) q ≡ false → with_placements ps os q x ≡ x
placed_outside [] os q x h = refl
placed_outside (p ∷ ps) [] q x h = refl
placed_outside (p ∷ ps) (o ∷ os) q x h =
    let parts = or_parts (bytes_eq q p.path) (is_in (map path_of ps) q) h in
    ap (with_placements ps os q) (cond-false (bytes_eq q p.path) (Some o) x parts.0) ∙ placed_outside ps os q x parts.1

-- at its own paths a group makes the same of everything
pub covered : (g : Group) (q : List ℕ) (x y : Option ObjectValue) → AreStaged g.content.placements g.objects → covers g q ≡ true → with_group g q x ≡ with_group g q y
covered g q x y all h = go (is_in g.content.removals q) refl where
  ps : List Placement
  ps = g.content.placements

  go : (b : Bool) → is_in g.content.removals q ≡ b → with_group g q x ≡ with_group g q y
  go true e = ap (with_placements ps g.objects q) (cond-true (is_in g.content.removals q) None x e ∙ sym (cond-true (is_in g.content.removals q) None y e))
  go false e =
      placed_covered ps g.objects q (cond (is_in g.content.removals q) None x) (cond (is_in g.content.removals q) None y) all
      (or_rest (is_in g.content.removals q) (is_in (map path_of ps) q) e (sym (is_in-append g.content.removals (map path_of ps) q) ∙ h))

-- elsewhere it makes nothing new
pub outside : (g : Group) (q : List ℕ) (x : Option ObjectValue) → covers g q ≡ false → with_group g q x ≡ x
outside g q x h =
    let parts = or_parts (is_in g.content.removals q) (is_in (map path_of g.content.placements) q) (sym (is_in-append g.content.removals (map path_of g.content.placements) q) ∙ h) in
    placed_outside g.content.placements g.objects q (cond (is_in g.content.removals q) None x) parts.1 ∙ cond-false (is_in g.content.removals q) None x parts.0

-- applied to what it made, it makes the same
pub again : (g : Group) (q : List ℕ) (x : Option ObjectValue) → AreStaged g.content.placements g.objects → with_group g q (with_group g q x) ≡ with_group g q x
again g q x all = elim (cases_Bool (covers g q)) [ inl e ↦ covered g q (with_group g q x) x all e | inr e ↦ outside g q (with_group g q x) e ]

pub groups-append : (gs hs : List Group) (q : List ℕ) (x : Option ObjectValue) → with_groups (gs ++ hs) q x ≡ with_groups hs q (with_groups gs q x)
groups-append [] hs q x = refl
groups-append (g ∷ gs) hs q x = groups-append gs hs q (with_group g q x)

-- no group of the list has the path
pub groups_outside : (gs : List Group) (q : List ℕ) (x : Option ObjectValue) → ((h : Group) → Has gs h → covers h q ≡ false) → with_groups gs q x ≡ x
groups_outside [] q x none = refl
groups_outside (g ∷ gs) q x none = ap (with_groups gs q) (outside g q x (none g (inl refl))) ∙ groups_outside gs q x (λ h has. none h (inr has))

-- what one group made stays, where no other group of the list has the path
groups_stay : (gs : List Group) (g : Group) (q : List ℕ) (z : Option ObjectValue) → AreStaged g.content.placements g.objects
    → ((h : Group) → Has gs h → covers h q ≡ true → h ≡ g) → with_groups gs q (with_group g q z) ≡ with_group g q z
groups_stay [] g q z all only = refl
groups_stay (h ∷ gs) g q z all only =
    ap (with_groups gs q) (elim (cases_Bool (covers h q)) [
      | inl e ↦ subst (λ (k : Group). with_group k q (with_group g q z) ≡ with_group g q z) (sym (only h (inl refl) e)) (again g q z all)
      | inr e ↦ outside h q (with_group g q z) e
    ]) ∙ groups_stay gs g q z all (λ k has. only k (inr has))

-- at a path that one group of the list has and no other, the list makes what that group does
pub groups_one : (gs : List Group) (g : Group) (q : List ℕ) (x : Option ObjectValue) → AreStaged g.content.placements g.objects → covers g q ≡ true → Has gs g
    → ((h : Group) → Has gs h → covers h q ≡ true → h ≡ g) → with_groups gs q x ≡ with_group g q x
groups_one [] g q x all mine has only = absurd has
groups_one (h ∷ gs) g q x all mine (inl e) only =
    subst (λ (k : Group). with_groups gs q (with_group k q x) ≡ with_group g q x) (sym e) (groups_stay gs g q x all (λ k has. only k (inr has)))
groups_one (h ∷ gs) g q x all mine (inr later) only = groups_one gs g q (with_group h q x) all mine later (λ k has. only k (inr has)) ∙ covered g q (with_group h q x) x all mine

pub staged_at : (ps : List Placement) (os : List ObjectValue) (i : ℕ) (p : Placement) → AreStaged ps os → slice_get ps i ≡ Some p → (o : ObjectValue) × (slice_get os i ≡ Some o) × IsStaged (Some o) p
staged_at [] os i p all e = absurd (cc)
staged_at (x ∷ ps) [] i p all e = absurd all
staged_at (x ∷ ps) (o ∷ os) zero p all e = let same : x ≡ p = cc in (o, refl, subst (λ (y : Placement). IsStaged (Some o) y) same all.0)
staged_at (x ∷ ps) (o ∷ os) (suc i) p all e = staged_at ps os i p all.1 e

-- one more placement with its object
pub staged_more : (ps : List Placement) (os : List ObjectValue) (p : Placement) (o : ObjectValue) → AreStaged ps os → IsStaged (Some o) p → AreStaged (ps ++ p ∷ []) (os ++ o ∷ [])
staged_more [] [] p o all is = (is, tt)
staged_more [] (y ∷ os) p o all is = absurd all
staged_more (x ∷ ps) [] p o all is = absurd all
staged_more (x ∷ ps) (y ∷ os) p o all is = (all.0, staged_more ps os p o all.1 is)

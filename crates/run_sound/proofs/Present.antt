-- Which packages are there before a group of a plan that may come, and what its removals name.
use Rattle.std.proofs.Common.{◌≡◌, ◌∙◌, ◌++◌, ◌<◌, ℕ, suc, true, List, [], ◌∷◌, ap, arith, filter, length, map, not, subst, sym}
use Rattle.std.specs.Prelude.{bytes_eq, codes}
use Rattle.std.proofs.lemmas.List.{map-append}
use Rattle.std.proofs.lemmas.Slice.Eq.{bytes_eq-Decides}
use Rattle.basics.specs.Members.{AreDistinct, Has}
use Rattle.basics.proofs.Each.{all_has}
use Rattle.basics.proofs.Members.{passes_some, some_passes}
use Rattle.basics.proofs.Membership.{has-map, has-map_back}
use Rattle.std.specs.List.{AllByRecursion}
use Rattle.dep_atom.specs.Ids.{IsId, id_text}
use Rattle.dep_atom.specs.declared.package.PackageId.{PackageId}
use Rattle.dep_atom.proofs.Joined.{ComesApart}
use Rattle.pkg_state.specs.Package.{Package, line_of}
use Rattle.pkg_state.proofs.Lines.{one_on_line}
use Rattle.vdb_paths.specs.Files.{package_file_path}
use Rattle.vdb_paths.proofs.Packages.{OneSpelling, one_id}
use Rattle.plan_law.specs.Accepted.{IsAccepted}
use Rattle.plan_law.specs.Plans.{Group, Removal, WaitsForEarlier, after, clears, group_at, removed_line}
use Rattle.plan_law.proofs.There.{AreThere}
use Rattle.vdb_law.specs.Packages.{Installed, id_of}
use Rattle.law_commit.specs.Lit.{lit, packages_of}
use Rattle.law_commit.proofs.Members.{AreSame}
use Rattle.law_package.proofs.Places.{distinct_front}
use Rattle.run_files.specs.Keys.{folder_of}
use Rattle.run_files.proofs.Zips.{distinct_by}
use Rattle.run_plan.proofs.Beginnings.{below, runs_below}
use Rattle.run_sound.proofs.Alive.{AcceptedAreSound, after_push, stands_alive}

-- ids with one text are one
pub one_of_text : ComesApart → OneSpelling → (a b : PackageId) → IsId a → IsId b → id_text a ≡ id_text b → a ≡ b
unfolding package_file_path
one_of_text comes spells a b is also e = one_id comes spells a b [] [] is also (ap (λ (t : List ℕ). codes "var/db/pkg/" ++ (t ++ (47 ∷ []))) e)

abbrev lit_of : List (List ℕ) → Installed → Package
lit_of flags p = lit flags p.package_is

-- ---- who is there before the group

module _ (flags : List (List ℕ)) (plan : List Group) (start : List Package) (earlier : WaitsForEarlier plan) (ok : IsAccepted plan start) (done : List ℕ) (now : List Package) (there : AreThere plan start done now)
    (place : ℕ) (waited : (h : ℕ) → Has (group_at plan place).after h → Has done h) (undone : ¬ Has done place) (ps : List Installed) (same : AreSame now (packages_of flags ps)) where
  abbrev g : Group
  g = group_at plan place

  -- a line that a removal names is cleared
  clears_named : (r : Removal) → Has g.removals r → (line : List ℕ) → line ≡ removed_line r → clears g line ≡ true
  clears_named r has line on =
      passes_some (λ (x : Removal). bytes_eq (removed_line x) line) g.removals r has ((bytes_eq-Decides (removed_line r) line).1 (sym on))

  -- what a removal names is there, on the removed line
  pub removed_there : (r : Removal) → Has (group_at plan place).removals r → (p : Installed) × Has ps p × (id_of p ≡ r.id) × (line_of p.package_is.facts ≡ removed_line r)
  removed_there r has =
      let k = ok.present place r has in
      let alive = stands_alive plan start earlier ok done there.closed place waited undone k.0 k.1 k.2 (clears_named r has (line_of k.0.package_is.facts) k.4) in
      let here = there.all k.0 k.1 alive in
      let q = has-map_back (lit_of flags) ps k.0.package_is ((same k.0.package_is).0 here) in
      (q.0, q.1, ap (λ (y : Package). y.facts.id) q.2 ∙ k.3, ap (λ (y : Package). line_of y.facts) q.2 ∙ k.4)

  -- .. and leaves with the group
  pub named_leaves : (r : Removal) → Has (group_at plan place).removals r → (p : Installed) → line_of p.package_is.facts ≡ removed_line r → clears (group_at plan place) (line_of p.package_is.facts) ≡ true
  named_leaves r has p on = clears_named r has (line_of p.package_is.facts) on

  -- what leaves is named by a removal
  pub leaving_named : (p : Installed) → Has ps p → clears (group_at plan place) (line_of p.package_is.facts) ≡ true → (r : Removal) × Has (group_at plan place).removals r × (r.id ≡ id_of p)
  leaving_named p has e =
      let r = some_passes (λ (x : Removal). bytes_eq (removed_line x) (line_of p.package_is.facts)) g.removals e in
      let q = removed_there r.0 r.1 in
      let on : line_of q.0.package_is.facts ≡ line_of p.package_is.facts = q.3 ∙ (bytes_eq-Decides (removed_line r.0) (line_of p.package_is.facts)).0 r.2 in
      let one : lit_of flags q.0 ≡ lit_of flags p = one_on_line now (lit_of flags q.0) (lit_of flags p) there.apart
      ((same (lit_of flags q.0)).1 (has-map (lit_of flags) ps q.0 q.1)) ((same (lit_of flags p)).1 (has-map (lit_of flags) ps p has)) on in
      (r.0, r.1, sym q.2 ∙ ap (λ (y : Package). y.facts.id) one)

-- what a group brings has folders of its own
pub brings_apart : AcceptedAreSound → ComesApart → OneSpelling → (plan : List Group) (start : List Package) → WaitsForEarlier plan → IsAccepted plan start → (place : ℕ) → place < length plan
    → AllByRecursion (λ (p : Package). IsId p.facts.id) (group_at plan place).additions → AreDistinct (map folder_of (group_at plan place).additions)
brings_apart sound comes spells plan start earlier ok place less ids =
    let g = group_at plan place in
    let before = after plan start (below place) in
    let rest = filter (λ (p : Package). not (clears g (line_of p.facts))) before in
    let id : Package → PackageId = λ p. p.facts.id in
    let all = (sound plan start earlier ok).versions (below (suc place)) (runs_below plan earlier (suc place) (omega (arith, less))) in
    let here : AreDistinct (map id (g.additions ++ rest)) = subst (λ (l : List Package). AreDistinct (map id l)) (after_push plan start (below place) place) all in
    let mine = distinct_front (map id g.additions) (map id rest) (subst (λ (l : List PackageId). AreDistinct l) (map-append id g.additions rest) here) in
    distinct_by folder_of id g.additions
    (λ p r hp hr e. one_of_text comes spells p.facts.id r.facts.id (all_has (λ (x : Package). IsId x.facts.id) g.additions p ids hp) (all_has (λ (x : Package). IsId x.facts.id) g.additions r ids hr) e)
    mine

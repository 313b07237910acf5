-- A turn of a plan, over what a run before it left, is the exchange of its group.
use Rattle.std.proofs.Common.{◌≡◌, ◌∙◌, ◌==◌, ◌↔◌, ◌<◌, ℕ, zero, suc, Bool, true, List, [], ◌∷◌, Option, None, Some, ap, eq-eqb, eqb-true, length, map, refl, subst, sym}
use Rattle.std.specs.Prelude.{bytes_eq, slice_get}
use Rattle.std.specs.List.{AllByRecursion}
use Rattle.std.proofs.lemmas.Slice.Eq.{bytes_eq-Decides}
use Rattle.basics.specs.Members.{AreDistinct, Has}
use Rattle.basics.proofs.Each.{all_by_has, all_has}
use Rattle.basics.proofs.Membership.{has-append_left, has-append_right, has-map, has-map_back}
use Rattle.basics.proofs.Tests.{same_tests}
use Rattle.basics.proofs.Texts.{bytes_eq-same}
use Rattle.dep_atom.specs.Ids.{IsId, id_text}
use Rattle.dep_atom.specs.declared.package.PackageId.{PackageId}
use Rattle.dep_atom.proofs.Joined.{ComesApart}
use Rattle.file_tree.specs.Disk.{Map}
use Rattle.merge_fit.specs.Images.{path_of}
use Rattle.merge_record.specs.declared.record.OwnerKey.{OwnerKey}
use Rattle.merge_site.specs.Booking.{dying_at}
use Rattle.merge_site.specs.declared.group.SiteGroup.{SiteGroup}
use Rattle.owner_book.specs.Book.{Book}
use Rattle.owner_book.specs.Rules.{is_dying}
use Rattle.pkg_state.specs.Package.{Package, line_of}
use Rattle.vdb_paths.proofs.Packages.{OneSpelling}
use Rattle.plan_law.specs.Accepted.{IsAccepted}
use Rattle.plan_law.specs.Plans.{Group, Removal, WaitsForEarlier, group_at, no_group, removed_line}
use Rattle.plan_law.proofs.There.{AreThere}
use Rattle.basics.proofs.Members.{passes_some, some_passes}
use Rattle.vdb_law.specs.Database.{IsDatabase, folder_name}
use Rattle.vdb_law.specs.Packages.{Installed, id_of}
use Rattle.vdb_law.specs.Step.{Leaves, Owns}
use Rattle.vdb_law.proofs.Places.{one_of_rising}
use Rattle.law_commit.specs.Lit.{lit, packages_of}
use Rattle.law_commit.proofs.Members.{AreSame}
use Rattle.merge_group.specs.Granted.{MayChange}
use Rattle.merge_group.specs.Turns.{changes_of}
use Rattle.merge_group.specs.Working.{all_of}
use Rattle.merge_group.specs.declared.files.Files.{Files}
use Rattle.merge_group.specs.declared.turn.Turn.{Turn}
use Rattle.law_run.specs.Openings.{place_of}
use Rattle.law_change.specs.Changes.{IsExchange}
use Rattle.law_change.specs.Packages.{IsRemovalOf}
use Rattle.law_change.proofs.Pieces.{has-piece, has-piece_back}
use Rattle.vdb_files.specs.Recorded.{FilesAreInTheFolder, SortedRecordsAreReadBack}
use Rattle.run_files.specs.Keys.{folder_of, folders_with, key_with}
use Rattle.run_files.specs.Laws.{CanBeRecorded}
use Rattle.run_files.specs.Made.{IsNamed, leaves, package_of}
use Rattle.run_files.specs.declared.newcomer.Newcomer.{Newcomer}
use Rattle.run_files.proofs.PlaceLemmas.{one_at_a_place}
use Rattle.run_files.proofs.Zips.{distinct_by}
use Rattle.run_turns.specs.Held.{Holdings, held_for}
use Rattle.run_turns.specs.Plans.{AreSiteGroups, coming, dying_keys, is_named, key_of_id, removed_keys}
use Rattle.run_turns.specs.Turns.{IsTurnOf}
use Rattle.run_turns.specs.declared.job.Job.{Job}
use Rattle.run_sound.proofs.Placed.{Brings, added_comes, added_files, added_keys, turn_brings}
use Rattle.run_sound.proofs.Alive.{AcceptedAreSound}
use Rattle.run_sound.proofs.Present.{brings_apart, leaving_named, named_leaves, removed_there}

folders_as : (flags : List (List ℕ)) (ps : List Installed) → map folder_name ps ≡ map folder_of (packages_of flags ps)
folders_as flags [] = refl
folders_as flags (p ∷ ps) = ap (λ (l : List (List ℕ)). folder_name p ∷ l) (folders_as flags ps)

-- ---- the dying keys of a group of a site

abbrev keys_or_none : Option (List OwnerKey) → List OwnerKey
keys_or_none None = []
keys_or_none (Some ks) = ks

keys_of_group : (groups : List SiteGroup) (n : ℕ) → dying_at groups n ≡ keys_or_none (slice_get (map dying_keys groups) n)
keys_of_group [] n = refl
keys_of_group (x ∷ groups) zero = refl
keys_of_group (x ∷ groups) (suc n) = keys_of_group groups n

keys_at : (f : Group → List OwnerKey) → f no_group ≡ [] → (gs : List Group) (place : ℕ) → keys_or_none (slice_get (map f gs) place) ≡ f (group_at gs place)
keys_at f none [] place = sym none
keys_at f none (g ∷ gs) zero = refl
keys_at f none (g ∷ gs) (suc place) = keys_at f none gs place

pub dying_is : (ps : List Installed) (plan : List Group) (jobs : List Job) (groups : List SiteGroup) → AreSiteGroups ps plan jobs groups → (place : ℕ) → dying_at groups (suc place) ≡ removed_keys ps plan (group_at plan place)
dying_is ps plan jobs groups are place =
    keys_of_group groups (suc place)
    ∙ (ap (λ (l : List (List OwnerKey)). keys_or_none (slice_get l (suc place))) are.dying ∙ keys_at (removed_keys ps plan) refl plan place)

-- ---- packages that come with the plan

has_group : (plan : List Group) (place : ℕ) (p : Package) → Has (group_at plan place).additions p → Has (coming plan) p
has_group [] place p has = absurd has
has_group (g ∷ plan) zero p has = has-append_left g.additions (coming plan) p has
has_group (g ∷ plan) (suc place) p has = has-append_right g.additions (coming plan) p (has_group plan place p has)

-- what a turn of the plan has to do with the packages that are there
pub record Exchanged (flags : List (List ℕ)) (start : List Installed) (plan : List Group) (place : ℕ) (m : Map) (ps : List Installed) (dying : OwnerKey → Bool) (newcomers : List Newcomer) (t : Turn) : Type 0 where
  pub brings : Brings flags start (coming plan) newcomers t.packages.items
  pub is : IsExchange (key_with start (coming plan)) m ps dying (record { gone = leaves (group_at plan place); added = brings.added; packages = t.packages.items; removals = t.removals.items })
  pub comes : packages_of flags brings.added ≡ (group_at plan place).additions
  pub inside : (a : Installed) → Has brings.added a → Has (folders_with start (coming plan)) (folder_name a)
  pub apart : AreDistinct (map folder_of (map package_of newcomers))

module _ (flags : List (List ℕ)) (start : List Installed) (plan : List Group) (earlier : WaitsForEarlier plan) (ok : IsAccepted plan (packages_of flags start)) (done : List ℕ) (now : List Package) (at_now : AreThere plan (packages_of flags start) done now)
    (place : ℕ) (less : place < length plan) (waited : (h : ℕ) → Has (group_at plan place).after h → Has done h) (undone : ¬ Has done place) (m : Map) (ps : List Installed) (db : IsDatabase m ps) (same : AreSame now (packages_of flags ps))
    (there : (p : Installed) → Has ps p → Has (folders_with start (coming plan)) (folder_name p)) where
  abbrev folders : List (List ℕ)
  folders = folders_with start (coming plan)

  abbrev key : Installed → OwnerKey
  key = key_with start (coming plan)

  abbrev g : Group
  g = group_at plan place

  abbrev removed : (r : Removal) → Has g.removals r → (p : Installed) × Has ps p × (id_of p ≡ r.id) × (line_of p.package_is.facts ≡ removed_line r)
  removed r has = removed_there flags plan (packages_of flags start) earlier ok done now at_now place waited undone ps same r has

  -- ---- which packages go

  abbrev ks : List OwnerKey
  ks = removed_keys start plan g

  abbrev is_its : Installed → OwnerKey → Bool
  is_its p d = d.number == (key p).number

  dies_goes : (p : Installed) → Has ps p → is_dying ks (key p) ≡ true → leaves g p ≡ true
  dies_goes p has e =
      let d = some_passes (is_its p) ks e in
      let r = has-map_back (λ (r : Removal). key_of_id start plan r.id) g.removals d.0 d.1 in
      let q = removed r.0 r.1 in
      let number : place_of (folder_name q.0) folders ≡ place_of (folder_name p) folders =
      ap (λ (id : PackageId). place_of (id_text id) folders) q.2 ∙ (ap (λ (k : OwnerKey). k.number) r.2 ∙ eqb-true d.0.number (key p).number d.2) in
      let folder = one_at_a_place (folder_name q.0) (folder_name p) folders (there q.0 q.1) (there p has) number in
      let one = one_of_rising ps q.0 p db.rising q.1 has folder in
      subst (λ (x : Installed). leaves g x ≡ true) one
      (named_leaves flags plan (packages_of flags start) earlier ok done now at_now place waited undone ps same r.0 r.1 q.0 q.3)

  goes_dies : (p : Installed) → Has ps p → leaves g p ≡ true → is_dying ks (key p) ≡ true
  goes_dies p has e =
      let r = leaving_named flags plan (packages_of flags start) earlier ok done now at_now place waited undone ps same p has e in
      passes_some (is_its p) ks (key_of_id start plan r.0.id) (has-map (λ (r : Removal). key_of_id start plan r.id) g.removals r.0 r.1)
      (eq-eqb (key_of_id start plan r.0.id).number (key p).number (ap (λ (id : PackageId). place_of (id_text id) folders) r.2))

  -- a package that a removal names by its folder goes
  pub named_goes : (p : Installed) → Has ps p → is_named (group_at plan place) p ≡ true → leaves (group_at plan place) p ≡ true
  named_goes p has e =
      let r = some_passes (λ (x : Removal). bytes_eq (id_text x.id) (folder_name p)) g.removals e in
      let q = removed r.0 r.1 in
      let folder : folder_name q.0 ≡ folder_name p = ap id_text q.2 ∙ (bytes_eq-Decides (id_text r.0.id) (folder_name p)).0 r.2 in
      let one = one_of_rising ps q.0 p db.rising q.1 has folder in
      subst (λ (x : Installed). leaves g x ≡ true) one
      (named_leaves flags plan (packages_of flags start) earlier ok done now at_now place waited undone ps same r.0 r.1 q.0 q.3)

  dies : (p : Installed) → Has ps p → is_dying ks (key p) ≡ leaves g p
  dies p has = same_tests (is_dying ks (key p)) (leaves g p) (dies_goes p has) (goes_dies p has)

  -- ---- what goes with them

  named : (r : Removal) → Has g.removals r → (p : Installed) → id_of p ≡ r.id → is_named g p ≡ true
  named r has p same_id =
      passes_some (λ (x : Removal). bytes_eq (id_text x.id) (folder_name p)) g.removals r has
      (subst (λ (id : PackageId). bytes_eq (id_text id) (folder_name p) ≡ true) same_id (bytes_eq-same (folder_name p)))

  module _ (held : Holdings) (holds : (p : Installed) → Has ps p → is_named g p ≡ true → (q : List ℕ) → Has (held (folder_name p)) q ↔ Owns m p q) where
    held_owned : (q : List ℕ) → Has (held_for held g.removals) q → (p : Installed) × Leaves ps (leaves g) p × Owns m p q
    held_owned q has =
        let r = has-piece_back (λ (r : Removal). held (id_text r.id)) g.removals q has in
        let p = removed r.0 r.1 in
        let goes = named_leaves flags plan (packages_of flags start) earlier ok done now at_now place waited undone ps same r.0 r.1 p.0 p.3 in
        let here : Has (held (folder_name p.0)) q = subst (λ (id : PackageId). Has (held (id_text id)) q) (sym p.2) r.2 in
        (p.0, (p.1, goes), (holds p.0 p.1 (named r.0 r.1 p.0 p.2) q).0 here)

    owned_held : (q : List ℕ) → (p : Installed) × Leaves ps (leaves g) p × Owns m p q → Has (held_for held g.removals) q
    owned_held q (p, (has, goes), owns) =
        let r = leaving_named flags plan (packages_of flags start) earlier ok done now at_now place waited undone ps same p has goes in
        let here = (holds p has (named r.0 r.1 p (sym r.2)) q).1 owns in
        has-piece (λ (r : Removal). held (id_text r.id)) g.removals r.0 q r.1 (subst (λ (id : PackageId). Has (held (id_text id)) q) (sym r.2) here)

    pub removal : (packages : List Files) (paths : List (List ℕ)) → ((q : List ℕ) → Has paths q ↔ (Has (held_for held g.removals) q × ¬ Has (map path_of (all_of packages)) q)) → IsRemovalOf m ps (leaves (group_at plan place)) packages paths
    removal packages paths are q = (
      (λ has. let k = (are q).0 has in (held_owned q k.0, k.1)),
      (λ h. (are q).1 (owned_held q h.0, h.1)),
    )

    module _ (read : SortedRecordsAreReadBack) (own : FilesAreInTheFolder) (sound : AcceptedAreSound) (comes : ComesApart) (spells : OneSpelling)
        (can : AllByRecursion (CanBeRecorded flags) (coming plan)) (jobs : List Job) (groups : List SiteGroup) (sites : AreSiteGroups start plan jobs groups) (b : Book) (newcomers : List Newcomer) (t : Turn)
        (number : t.group ≡ suc place) (brings : map package_of newcomers ≡ (group_at plan place).additions) (of : IsTurnOf start plan (group_at plan place) held newcomers t)
        (may : MayChange m b groups (changes_of t) t.group) where
      can_here : AllByRecursion (CanBeRecorded flags) (map package_of newcomers)
      can_here = all_by_has (CanBeRecorded flags) (map package_of newcomers)
          (λ p has. all_has (CanBeRecorded flags) (coming plan) p can (has_group plan place p (subst (λ (l : List Package). Has l p) brings has)))

      ids : AllByRecursion (λ (p : Package). IsId p.facts.id) g.additions
      ids = all_by_has (λ (p : Package). IsId p.facts.id) g.additions (λ p has.
          let n = has-map_back package_of newcomers p (subst (λ (l : List Package). Has l p) (sym brings) has) in
          subst (λ (x : Package). IsId x.facts.id) n.2 (all_has IsNamed newcomers n.0 of.named n.1).id)

      folders_apart : AreDistinct (map folder_of g.additions)
      folders_apart = brings_apart sound comes spells plan (packages_of flags start) earlier ok place less ids

      k : Brings flags start (coming plan) newcomers t.packages.items
      k = turn_brings m b groups t may read own flags start (coming plan) newcomers of.named of.files can_here

      come : packages_of flags k.added ≡ g.additions
      come = added_comes flags start (coming plan) newcomers t.packages.items k ∙ brings

      comes_in : (a : Installed) → Has k.added a → Has folders (folder_name a)
      comes_in a has =
          let p : Package = lit flags a.package_is in
          let here : Has g.additions p = subst (λ (l : List Package). Has l p) come (has-map (λ (x : Installed). lit flags x.package_is) k.added a has) in
          has-append_right (map folder_name start) (map folder_of (coming plan)) (folder_name a) (has-map folder_of (coming plan) p (has_group plan place p here))

      keys_apart : AreDistinct (map key k.added)
      keys_apart = distinct_by key folder_name k.added
          (λ p r hp hr e. one_at_a_place (folder_name p) (folder_name r) folders (comes_in p hp) (comes_in r hr) (ap (λ (x : OwnerKey). x.number) e))
          (subst (λ (l : List (List ℕ)). AreDistinct l) (sym (folders_as flags k.added ∙ ap (map folder_of) come)) folders_apart)

      pub exchanged : Exchanged flags start plan place m ps (is_dying (dying_at groups t.group)) newcomers t
      exchanged = record {
        brings = k;
        is = record {
          files = added_files flags start (coming plan) newcomers t.packages.items k;
          keys = added_keys flags start (coming plan) newcomers t.packages.items k;
          apart = keys_apart;
          removes = removal t.packages.items t.removals.items of.removes;
          dies = λ p has. ap (λ (l : List OwnerKey). is_dying l (key p)) (ap (dying_at groups) number ∙ dying_is start plan jobs groups sites place) ∙ dies p has;
        };
        comes = come;
        inside = comes_in;
        apart = subst (λ (l : List Package). AreDistinct (map folder_of l)) (sym brings) folders_apart;
      }

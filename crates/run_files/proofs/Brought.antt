-- A package that comes with files that record it.
use Rattle.std.proofs.Common.{◌≡◌, ◌∙◌, ◌||◌, ℕ, Bool, true, false, List, [], ◌∷◌, inl, inr, refl, ap, map, subst, sym}
use Rattle.std.specs.List.{AllByRecursion}
use Rattle.std.proofs.lemmas.List.Sorted.{IsPermutation-sym}
use Rattle.basics.specs.Members.{AreDistinct, Has}
use Rattle.basics.proofs.Each.{all_has}
use Rattle.basics.proofs.Membership.{has-map, has-map_back}
use Rattle.basics.proofs.Permutations.{has-moved}
use Rattle.file_tree.specs.Disk.{held_by}
use Rattle.file_tree.specs.declared.objects.Entry.{Entry}
use Rattle.merge_fit.specs.Images as images
use Rattle.merge_fit.specs.Images.{is_good}
use Rattle.merge_fit.specs.Misfits.{AreGood}
use Rattle.merge_journal.specs.Judging.{meets_jobs}
use Rattle.file_tree.specs.Paths.{IsPathText}
use Rattle.owner_book.specs.Rules.{is_reserved}
use Rattle.vdb_contents.specs.Contents.{IsOwnable, is_dropped, path_of}
use Rattle.vdb_contents.specs.declared.owned.Owned.{Owned}
use Rattle.vdb_law.specs.Database.{folder}
use Rattle.vdb_law.specs.Fields.{Says}
use Rattle.vdb_law.specs.Packages.{Installed, paths}
use Rattle.merge_group.specs.declared.files.Files.{Files}
use Rattle.law_package.specs.Packages.{AreFilesOf, IsRecorded}
use Rattle.law_package.specs.Records.{owned_of}
use Rattle.law_package.proofs.LetIn.{let_in_apart}
use Rattle.law_package.proofs.Records.{content_good, content_held, same_paths}
use Rattle.pkg_state.specs.Package.{Package}
use Rattle.vdb_files.specs.Recorded as records
use Rattle.vdb_files.specs.Recorded.{AreBound, FilesAreInTheFolder, IsRecordable, SortedRecordsAreReadBack}
use Rattle.vdb_files.specs.Written.{AreFolderFiles, AreInOrder, installed_with}
use Rattle.law_commit.specs.Lit.{as_recorded}
use Rattle.run_files.specs.Laws.{CanBeRecorded}
use Rattle.run_files.specs.Made.{AreFilesFor, IsNamed, recorded}
use Rattle.run_files.specs.declared.newcomer.Newcomer.{Newcomer}
use Rattle.run_files.proofs.Kept.{named_recorded, same_edition, same_tree}

-- a path that an image may have, and that is outside the journal, is one that packages own
pub ownable_path : (p : List ℕ) → is_reserved p ≡ false → meets_jobs p ≡ false → is_dropped p ≡ false
ownable_path p free outside = ap (λ (b : Bool). b || meets_jobs p) (let_in_apart p free) ∙ outside

all_ownable : (es : List Entry) → ((e : Entry) → Has es e → IsOwnable (owned_of e)) → AllByRecursion IsOwnable (map owned_of es)
all_ownable [] each = tt
all_ownable (e ∷ es) each = (each e (inl refl), all_ownable es (λ d has. each d (inr has)))

-- what a group that is granted knows of a package's image
pub record IsTakenImage (es : List Entry) : Type 0 where
  pub good : AreGood es
  pub free : (e : Entry) → Has es e → is_dropped e.path ≡ false
  pub distinct : AreDistinct (map images.path_of es)

module _ (read : SortedRecordsAreReadBack) (inside : FilesAreInTheFolder) (flags : List (List ℕ)) (ps : List Installed) (coming : List Package) (n : Newcomer) (files : Files)
    (is : AreFilesFor ps coming n files) (named : IsNamed n) (can : CanBeRecorded flags n.pkg) (taken : IsTakenImage n.image.items) where
  abbrev image : List Entry
  image = n.image.items

  abbrev own : List Entry
  own = files.folder.items

  filed : AreFolderFiles (recorded n) own
  filed = is.folder taken.good

  ownable : (e : Entry) → Has image e → IsOwnable (owned_of e)
  ownable e has = record {
    path = all_has (λ (x : Entry). IsPathText x.path) image e named.paths has;
    content = content_good e.object.kind e.object.bytes (all_has (λ (x : Entry). is_good x ≡ true) image e taken.good has);
    free = taken.free e has;
  }

  recordable : IsRecordable (recorded n)
  recordable = record {
    edition = same_edition n.pkg can.needs.edition;
    needs = λ class. subst AreBound (sym (same_tree n.pkg class)) (can.needs.needs class);
    required = can.needs.required;
    owned = all_ownable image ownable;
  }

  distinct : AreDistinct (paths (recorded n))
  distinct = subst (λ (l : List (List ℕ)). AreDistinct l) (sym (same_paths image)) taken.distinct

  found : (sorted : List Owned) × AreInOrder (map owned_of image) sorted × Says (records.folder_of (recorded n) own) (installed_with (as_recorded n.pkg) sorted)
  found = read (recorded n) own (named_recorded n.pkg named.facts) recordable distinct filed

  abbrev a : Installed
  a = installed_with (as_recorded n.pkg) found.0

  said : Says (folder (held_by own) n.pkg.facts.id) a
  said = found.2

  owned_here : (o : Owned) → Has found.0 o → (e : Entry) × Has files.image.items e × IsRecorded e o
  owned_here o has =
      let e = has-map_back owned_of image o (has-moved found.0 (map owned_of image) o (IsPermutation-sym (map owned_of image) found.0 found.1.all) has) in (
        e.0,
        subst (λ (l : List Entry). Has l e.0) (sym is.image) e.1,
        subst (λ (x : Owned). IsRecorded e.0 x) e.2 (record { path = refl; content = content_held e.0.object.kind e.0.object.bytes }),
      )

  recorded_here : (e : Entry) → Has files.image.items e → Has (map path_of found.0) e.path
  recorded_here e has =
      has-map path_of found.0 (owned_of e) (has-moved (map owned_of image) found.0 (owned_of e) found.1.all
      (has-map owned_of image e (subst (λ (l : List Entry). Has l e) is.image has)))

  -- the files are those of a package
  pub brought : (b : Installed) × (b.package_is ≡ as_recorded n.pkg) × AreFilesOf files b
  brought = (
    a,
    refl,
    record {
      id = named.id;
      owned = owned_here;
      recorded = recorded_here;
      inside = λ e has. inside (recorded n) own e filed has;
      says = said;
    },
  )

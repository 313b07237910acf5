-- A folder of the files that are written of a package says the package.
use Rattle.std.proofs.Common.{◌≡◌, ◌∙◌, ◌++◌, ◌||◌, ℕ, Bool, true, false, List, [], ◌∷◌, Option, Some, None, inl, inr, refl, ap, subst, sym}
use Rattle.std.specs.Prelude.{IsSome, bytes_eq, if◌then◌else◌, unwrap_or}
use Rattle.std.specs.List.{flat_map}
use Rattle.std.proofs.lemmas.Bool.{cases_Bool}
use Rattle.std.proofs.lemmas.List.Sorted.{IsPermutation-sym}
use Rattle.std.proofs.lemmas.Slice.Eq.{bytes_eq-Decides}
use Rattle.basics.specs.Members.{AreDistinct, Has}
use Rattle.basics.proofs.Membership.{has-append_cases}
use Rattle.basics.proofs.Texts.{bytes_eq-apart, bytes_eq-same}
use Rattle.basics.proofs.Permutations.{has-moved}
use Rattle.basics.proofs.Each.{all_by_has, all_has}
use Rattle.dep_atom.specs.declared.package.PackageId.{PackageId}
use Rattle.file_tree.specs.Disk.{held_by}
use Rattle.file_tree.specs.ObjectValue.{ObjectValue, plain}
use Rattle.file_tree.specs.declared.objects.Entry.{Entry}
use Rattle.pkg_state.specs.Package.{tree_of}
use Rattle.pkg_state.specs.declared.class.Class.TheVariants.{Bdepend, Depend, Idepend, Pdepend, Rdepend}
use Rattle.vdb_paths.specs.Files.{record_file, package_file_path}
use Rattle.vdb_paths.proofs.Packages.{record_names_differ}
use Rattle.vdb_contents.specs.Contents.{ContentsAreReadBack, IsOwnable}
use Rattle.vdb_contents.specs.declared.owned.Owned.{Owned}
use Rattle.vdb_law.specs.Database.{IsOf}
use Rattle.vdb_law.specs.Fields.{Field, Reads, Says, contents, eapi, field_text, flags, is_needed, known, name_of, needs, required, slots, text_of}
use Rattle.vdb_law.specs.Packages.{Installed, id_of, paths}
use Rattle.vdb_files.specs.Written.{AreInOrder, fields, file_if_written, folder_files, has_bytes, installed_with, is_written, value_of}
use Rattle.vdb_files.specs.Recorded.{AreNamed, FilesAreInTheFolder, IsRecordable, RecordsAreReadBack, SortedRecordsAreReadBack, folder_of}
use Rattle.vdb_files.proofs.Order.{already_sorted, distinct_moved, rising_distinct}
use Rattle.vdb_files.proofs.Words.{eapi_said, flags_said, known_said, needs_said, required_said, slots_said}

same_name : (id : PackageId) (a b : List ℕ) → bytes_eq (package_file_path id a) (package_file_path id b) ≡ bytes_eq a b
same_name id a b = elim (cases_Bool (bytes_eq a b)) [
  | inl e ↦ (ap (λ (x : List ℕ). bytes_eq (package_file_path id x) (package_file_path id b)) ((bytes_eq-Decides a b).0 e) ∙ bytes_eq-same (package_file_path id b) ∙ sym e)
  | inr e ↦ (bytes_eq-apart (package_file_path id a) (package_file_path id b) (λ same. cc ((bytes_eq-Decides a b).1 (record_names_differ id a b same), e)) ∙ sym e)
]

-- a file that is written, or not
abbrev text_if : Bool → List ℕ → Option ObjectValue
text_if b text = if b then Some (plain text) else None

-- what the text of a file is, where it is written if it has bytes
text_held : (needed : Bool) (text : List ℕ) → unwrap_or (text_of (text_if (needed || has_bytes text) text)) [] ≡ text
text_held true text = refl
text_held false [] = refl
text_held false (b ∷ bs) = refl

text_there : (needed : Bool) (text : List ℕ) → needed ≡ true → IsSome (text_of (text_if (needed || has_bytes text) text))
text_there true text e = refl
text_there false text e = absurd (cc e)

either_way : (b : Bool) (x : Option ObjectValue) → (if b then x else x) ≡ x
either_way true x = refl
either_way false x = refl

module _ (p : Installed) where
  abbrev here : List ℕ → Option ObjectValue
  here name = folder_of p (folder_files p) name

  -- what the files of these fields hold under a name
  abbrev held_in : List Field → List ℕ → Option ObjectValue
  held_in [] name = None
  held_in (k ∷ ks) name =
      if bytes_eq name (name_of k) then (if is_written k p then Some (plain (value_of k p)) else held_in ks name) else held_in ks name

  held_first : (b : Bool) (k : Field) (rest : List Entry) (name : List ℕ) → held_by ((if b then record_file (id_of p) (name_of k) (value_of k p) ∷ [] else []) ++ rest) (package_file_path (id_of p) name)
      ≡ (if bytes_eq name (name_of k) then (if b then Some (plain (value_of k p)) else held_by rest (package_file_path (id_of p) name)) else held_by rest (package_file_path (id_of p) name))
  held_first true k rest name =
      ap (λ (same : Bool). if same then Some (plain (value_of k p)) else held_by rest (package_file_path (id_of p) name)) (same_name (id_of p) name (name_of k))
  held_first false k rest name = sym (either_way (bytes_eq name (name_of k)) (held_by rest (package_file_path (id_of p) name)))

  held_is : (ks : List Field) (name : List ℕ) → held_by (flat_map (file_if_written p) ks) (package_file_path (id_of p) name) ≡ held_in ks name
  held_is [] name = refl
  held_is (k ∷ ks) name =
      held_first (is_written k p) k (flat_map (file_if_written p) ks) name
      ∙ ap (λ (x : Option ObjectValue). if bytes_eq name (name_of k) then (if is_written k p then Some (plain (value_of k p)) else x) else x) (held_is ks name)

  held_field : (k : Field) → held_in fields (name_of k) ≡ text_if (is_written k p) (value_of k p)
  held_field contents = refl
  held_field eapi = refl
  held_field slots = refl
  held_field flags = refl
  held_field known = refl
  held_field required = refl
  held_field (needs Rdepend) = refl
  held_field (needs Pdepend) = refl
  held_field (needs Depend) = refl
  held_field (needs Bdepend) = refl
  held_field (needs Idepend) = refl

  here_is : (k : Field) → here (name_of k) ≡ text_if (is_written k p) (value_of k p)
  here_is k = held_is fields (name_of k) ∙ held_field k

  text_is : (k : Field) → field_text (folder_of p (folder_files p)) k ≡ value_of k p
  text_is k = ap (λ (x : Option ObjectValue). unwrap_or (text_of x) []) (here_is k) ∙ text_held (is_needed k) (value_of k p)

  there : (k : Field) → is_needed k ≡ true → IsSome (text_of (here (name_of k)))
  there k needed = subst (λ (x : Option ObjectValue). IsSome (text_of x)) (sym (here_is k)) (text_there (is_needed k) (value_of k p) needed)

  reads : ContentsAreReadBack → AreNamed p.package_is.facts → IsRecordable p → AreDistinct (paths p) → (k : Field) → Reads k (value_of k p) p
  reads back named is once contents = back p.owned is.owned once
  reads back named is once eapi = eapi_said p.package_is.eapi
  reads back named is once slots = slots_said p.package_is.facts.slot p.package_is.facts.subslot named.slot named.subslot
  reads back named is once flags = flags_said p.package_is.facts.enabled named.enabled
  reads back named is once known = known_said p.package_is.facts.iuse named.known
  reads back named is once required = record { items = required_said p.package_is.required is.required; flag = is.edition.required }
  reads back named is once (needs class) = (
    tree_of class p.package_is,
    record {
      atoms = needs_said p.package_is.eapi class (tree_of class p.package_is) (is.needs class).form (is.edition.lacking class);
      flag = is.edition.needs class;
    },
    sym (is.needs class).bound,
  )

  says : ContentsAreReadBack → AreNamed p.package_is.facts → IsRecordable p → AreDistinct (paths p) → Says (folder_of p (folder_files p)) p
  says back named is once = record {
    there = there;
    reads = λ k. subst (λ (text : List ℕ). Reads k text p) (sym (text_is k)) (reads back named is once k);
  }

  -- each file is in the package's folder
  in_folder : (b : Bool) (k : Field) (e : Entry) → Has (if b then record_file (id_of p) (name_of k) (value_of k p) ∷ [] else []) e → IsOf (id_of p) e.path
  in_folder true k e (inl same) = subst (λ (x : Entry). IsOf (id_of p) x.path) same (name_of k, refl)
  in_folder true k e (inr none) = absurd none
  in_folder false k e has = absurd has

  inside : (ks : List Field) (e : Entry) → Has (flat_map (file_if_written p) ks) e → IsOf (id_of p) e.path
  inside [] e has = absurd has
  inside (k ∷ ks) e has = elim (has-append_cases (file_if_written p k) (flat_map (file_if_written p) ks) e has) [
    | inl first ↦ in_folder (is_written k p) k e first
    | inr more ↦ inside ks e more
  ]

-- ---- paths that are put in order

recordable : (p : Installed) (sorted : List Owned) → AreInOrder p.owned sorted → IsRecordable p → IsRecordable (installed_with p.package_is sorted)
recordable p sorted order is = record {
  edition = is.edition;
  needs = is.needs;
  required = is.required;
  owned = all_by_has IsOwnable sorted (λ o has. all_has IsOwnable p.owned o is.owned (has-moved sorted p.owned o (IsPermutation-sym p.owned sorted order.all) has));
}

pub sorted_read_back : ContentsAreReadBack → SortedRecordsAreReadBack
sorted_read_back back p es named is once files =
    let sorted = files.0 in
    let q = installed_with p.package_is sorted in (
      sorted,
      files.1,
      subst (λ (l : List Entry). Says (folder_of p l) q) (sym files.2) (says q back named (recordable p sorted files.1 is) (distinct_moved p.owned sorted files.1.all once)),
    )

pub read_back : ContentsAreReadBack → RecordsAreReadBack
read_back back p es named is up files =
    let found = sorted_read_back back p es named is (rising_distinct p.owned up) files in
    subst (λ (owned : List Owned). Says (folder_of p es) (installed_with p.package_is owned)) (already_sorted p.owned found.0 up found.1) found.2

pub files_inside : FilesAreInTheFolder
files_inside p es e files has =
    inside (installed_with p.package_is files.0) fields e (subst (λ (l : List Entry). Has l e) files.2 has)

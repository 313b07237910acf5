-- What a turn of a plan places whose claim is granted: the packages that come, with their files.
use Rattle.std.proofs.Common.{◌≡◌, ◌∙◌, ℕ, Bool, List, [], ◌∷◌, ap, inl, inr, map, refl, subst, sym}
use Rattle.std.specs.Prelude.{if◌then◌else◌}
use Rattle.std.specs.List.{AllByRecursion, AllZip}
use Rattle.basics.specs.Members.{AreDistinct, Has}
use Rattle.basics.proofs.Each.{all_has}
use Rattle.basics.proofs.Membership.{has-map, has-map_back}
use Rattle.basics.proofs.Texts.{bytes_eq-apart, bytes_eq-same}
use Rattle.file_tree.specs.Disk.{Map}
use Rattle.merge_fit.specs.Images as images
use Rattle.merge_site.specs.declared.group.SiteGroup.{SiteGroup}
use Rattle.owner_book.specs.Book.{Book}
use Rattle.pkg_state.specs.Package.{Package}
use Rattle.vdb_law.specs.Database.{folder_name}
use Rattle.vdb_law.specs.Packages.{Installed}
use Rattle.law_commit.specs.Lit.{lit, packages_of}
use Rattle.merge_group.specs.Granted.{MayChange}
use Rattle.merge_group.specs.Turns.{changes_of}
use Rattle.merge_group.specs.Working.{all_in}
use Rattle.merge_group.specs.declared.files.Files.{Files}
use Rattle.merge_group.specs.declared.turn.Turn.{Turn}
use Rattle.law_package.specs.Packages.{AreFilesOf}
use Rattle.law_change.proofs.Pieces.{left, pairs_of, right}
use Rattle.vdb_files.specs.Recorded.{FilesAreInTheFolder, SortedRecordsAreReadBack}
use Rattle.run_files.specs.Keys.{folder_of, key_with}
use Rattle.run_files.specs.Laws.{CanBeRecorded}
use Rattle.run_files.specs.Made.{AreFilesFor, IsNamed, package_of}
use Rattle.run_files.specs.declared.newcomer.Newcomer.{Newcomer}
use Rattle.run_files.proofs.Brought.{IsTakenImage, brought}
use Rattle.run_files.proofs.TakenImages.{taken_image}
use Rattle.run_files.proofs.Zips.{chosen, zip_same, zip_weaker}
use Rattle.run_turns.specs.Held.{Holdings, holding, holding_all}

-- members with one value are one where the values differ
pub one_with : {A B : Type 0} (f : A → B) (xs : List A) (a b : A) → AreDistinct (map f xs) → Has xs a → Has xs b → f a ≡ f b → a ≡ b
one_with f [] a b distinct ha hb e = absurd ha
one_with f (x ∷ xs) a b distinct (inl s) (inl t) e = sym s ∙ t
one_with {B = B} f (x ∷ xs) a b distinct (inl s) (inr t) e = absurd (distinct.0 (subst (λ (y : B). Has (map f xs) y) (sym e ∙ ap f (sym s)) (has-map f xs b t)))
one_with {B = B} f (x ∷ xs) a b distinct (inr s) (inl t) e = absurd (distinct.0 (subst (λ (y : B). Has (map f xs) y) (e ∙ ap f (sym t)) (has-map f xs a s)))
one_with f (x ∷ xs) a b distinct (inr s) (inr t) e = one_with f xs a b distinct.1 s t e

-- a package that comes, and its files
abbrev pub Pair : Type 0
Pair = Newcomer × Files

abbrev pub folder_pair : Pair → List ℕ
folder_pair z = folder_of z.0.pkg

-- ---- what is held for those that come

-- for other folders the same is held
pub held_others : (zs : List Pair) (held : Holdings) (text : List ℕ) → (Has (map folder_pair zs) text → ⊥) → holding_all (map left zs) (map right zs) held text ≡ held text
held_others [] held text out = refl
held_others (z ∷ zs) held text out =
    held_others zs (holding (folder_pair z) (map images.path_of (all_in z.1)) held) text (λ h. out (inr h))
    ∙ ap (λ (b : Bool). if b then map images.path_of (all_in z.1) else held text) (bytes_eq-apart (folder_pair z) text (λ e. out (inl e)))

-- .. and for its own the paths of its files
pub held_own : (zs : List Pair) (held : Holdings) (z : Pair) → AreDistinct (map folder_pair zs) → Has zs z → holding_all (map left zs) (map right zs) held (folder_pair z) ≡ map images.path_of (all_in z.1)
held_own [] held z distinct has = absurd has
held_own (y ∷ zs) held z distinct (inl e) =
    subst (λ (w : Pair). holding_all (map left zs) (map right zs) (holding (folder_pair y) (map images.path_of (all_in y.1)) held) (folder_pair w) ≡ map images.path_of (all_in w.1)) e
    (held_others zs (holding (folder_pair y) (map images.path_of (all_in y.1)) held) (folder_pair y) distinct.0
    ∙ ap (λ (b : Bool). if b then map images.path_of (all_in y.1) else held (folder_pair y)) (bytes_eq-same (folder_pair y)))
held_own (y ∷ zs) held z distinct (inr has) = held_own zs (holding (folder_pair y) (map images.path_of (all_in y.1)) held) z distinct.1 has

folders_by_pair : (zs : List Pair) → map folder_of (map package_of (map left zs)) ≡ map folder_pair zs
folders_by_pair [] = refl
folders_by_pair (z ∷ zs) = ap (λ (l : List (List ℕ)). folder_pair z ∷ l) (folders_by_pair zs)

-- ---- what comes

-- the package is that of the newcomer as it is recorded, with these files, under their key
abbrev pub IsBrought : List (List ℕ) → List Installed → List Package → Pair → Installed → Type 0
IsBrought flags ps coming z a = (lit flags a.package_is ≡ z.0.pkg) × AreFilesOf z.1 a × (z.1.owner ≡ key_with ps coming a)

-- the packages that come with a turn, one for each newcomer and its files
pub record Brings (flags : List (List ℕ)) (ps : List Installed) (coming : List Package) (newcomers : List Newcomer) (packages : List Files) : Type 0 where
  pub pairs : List Pair
  pub lefts : map left pairs ≡ newcomers
  pub rights : map right pairs ≡ packages
  pub added : List Installed
  pub each : AllZip (IsBrought flags ps coming) pairs added

module _ (flags : List (List ℕ)) (ps : List Installed) (coming : List Package) (newcomers : List Newcomer) (packages : List Files) (k : Brings flags ps coming newcomers packages) where
  pub added_comes : packages_of flags k.added ≡ map package_of newcomers
  added_comes =
      let same = zip_weaker (IsBrought flags ps coming) (λ (n : Newcomer) (a : Installed). package_of n ≡ lit flags a.package_is) left (λ y a b. sym b.0) k.pairs k.added k.each in
      sym (zip_same package_of (λ (a : Installed). lit flags a.package_is) (map left k.pairs) k.added same) ∙ ap (map package_of) k.lefts

  pub added_files : AllZip AreFilesOf packages k.added
  added_files = subst (λ (l : List Files). AllZip AreFilesOf l k.added) k.rights (zip_weaker (IsBrought flags ps coming) AreFilesOf right (λ y a b. b.1) k.pairs k.added k.each)

  pub added_keys : AllZip (λ (f : Files) (a : Installed). key_with ps coming a ≡ f.owner) packages k.added
  added_keys = subst (λ (l : List Files). AllZip (λ (f : Files) (a : Installed). key_with ps coming a ≡ f.owner) l k.added) k.rights
      (zip_weaker (IsBrought flags ps coming) (λ (f : Files) (a : Installed). key_with ps coming a ≡ f.owner) right (λ y a b. sym b.2) k.pairs k.added k.each)

  -- each that comes is of a pair, and each pair is of one that comes
  pub pair_of : (a : Installed) → Has k.added a → (z : Pair) × Has k.pairs z × IsBrought flags ps coming z a
  pair_of a has =
      let m = pairs_of (IsBrought flags ps coming) k.pairs k.added k.each in
      let y = has-map_back right m.pairs a (subst (λ (l : List Installed). Has l a) (sym m.rights) has) in (
        y.0.0,
        subst (λ (l : List Pair). Has l y.0.0) m.lefts (has-map left m.pairs y.0 y.1),
        subst (λ (b : Installed). IsBrought flags ps coming y.0.0 b) y.2 (m.each y.0 y.1),
      )

  pub added_of : (z : Pair) → Has k.pairs z → (a : Installed) × Has k.added a × IsBrought flags ps coming z a
  added_of z has =
      let m = pairs_of (IsBrought flags ps coming) k.pairs k.added k.each in
      let y = has-map_back left m.pairs z (subst (λ (l : List Pair). Has l z) (sym m.lefts) has) in (
        y.0.1,
        subst (λ (l : List Installed). Has l y.0.1) m.rights (has-map right m.pairs y.0 y.1),
        subst (λ (w : Pair). IsBrought flags ps coming w y.0.1) y.2 (m.each y.0 y.1),
      )

  folder_is : (z : Pair) (a : Installed) → IsBrought flags ps coming z a → folder_name a ≡ folder_pair z
  folder_is z a is = ap folder_of is.0

  module _ (apart : AreDistinct (map folder_of (map package_of newcomers))) where
    pairs_apart : AreDistinct (map folder_pair k.pairs)
    pairs_apart = subst (λ (l : List (List ℕ)). AreDistinct l) (folders_by_pair k.pairs) (subst (λ (l : List Newcomer). AreDistinct (map folder_of (map package_of l))) (sym k.lefts) apart)

    -- what is held for one that comes
    pub held_added : (held : Holdings) (z : Pair) (a : Installed) → Has k.pairs z → IsBrought flags ps coming z a → holding_all newcomers packages held (folder_name a) ≡ map images.path_of (all_in z.1)
    held_added held z a has is =
        subst (λ (ns : List Newcomer). holding_all ns packages held (folder_name a) ≡ map images.path_of (all_in z.1)) k.lefts
        (subst (λ (fs : List Files). holding_all (map left k.pairs) fs held (folder_name a) ≡ map images.path_of (all_in z.1)) k.rights
        (ap (holding_all (map left k.pairs) (map right k.pairs) held) (folder_is z a is) ∙ held_own k.pairs held z pairs_apart has))

    -- files under the key of one that comes are its own
    pub own_files : ((p r : Installed) → Has k.added p → Has k.added r → key_with ps coming p ≡ key_with ps coming r → folder_name p ≡ folder_name r) → (z : Pair) (a : Installed) (f : Files) → Has k.added a → Has k.pairs z → IsBrought flags ps coming z a
        → Has packages f → f.owner ≡ key_with ps coming a → f ≡ z.1
    own_files one z a f ha hz is hf owner =
        let y = has-map_back right k.pairs f (subst (λ (l : List Files). Has l f) (sym k.rights) hf) in
        let b = added_of y.0 y.1 in
        let key : key_with ps coming b.0 ≡ key_with ps coming a = sym b.2.2 ∙ (ap (λ (x : Files). x.owner) y.2 ∙ owner) in
        let folder = one b.0 a b.1 ha key in
        let same : y.0 ≡ z = one_with folder_pair k.pairs y.0 z pairs_apart y.1 hz (sym (folder_is y.0 b.0 b.2) ∙ (folder ∙ folder_is z a is)) in
        sym y.2 ∙ ap right same

-- ---- what the grant brings

module _ (m : Map) (book : Book) (groups : List SiteGroup) (t : Turn) (may : MayChange m book groups (changes_of t) t.group) where
  module _ (read : SortedRecordsAreReadBack) (inside : FilesAreInTheFolder) (flags : List (List ℕ)) (ps : List Installed) (coming : List Package) (newcomers : List Newcomer)
      (named : AllByRecursion IsNamed newcomers) (files_for : AllZip (AreFilesFor ps coming) newcomers t.packages.items) (can : AllByRecursion (CanBeRecorded flags) (map package_of newcomers)) where
    brought_by : (n : Newcomer) (f : Files) → Has newcomers n → Has t.packages.items f → AreFilesFor ps coming n f → (a : Installed) × IsBrought flags ps coming (n, f) a
    brought_by n f hn hf are =
        let may_record = all_has (CanBeRecorded flags) (map package_of newcomers) n.pkg can (has-map package_of newcomers n hn) in
        let k = brought read inside flags ps coming n f are (all_has IsNamed newcomers n named hn) may_record (subst IsTakenImage are.image (taken_image m book groups t t.group may f hf)) in
        (k.0, (ap (lit flags) k.1 ∙ may_record.enabled, k.2, are.owner ∙ ap (λ (p : Package). key_with ps coming (record { package_is = p; owned = [] })) (sym k.1)))

    -- the packages that come
    pub turn_brings : Brings flags ps coming newcomers t.packages.items
    turn_brings =
        let z = pairs_of (AreFilesFor ps coming) newcomers t.packages.items files_for in
        let came = chosen (IsBrought flags ps coming) z.pairs (λ y has.
        brought_by y.0 y.1 (subst (λ (l : List Newcomer). Has l y.0) z.lefts (has-map left z.pairs y has)) (subst (λ (l : List Files). Has l y.1) z.rights (has-map right z.pairs y has)) (z.each y has)) in
        record { pairs = z.pairs; lefts = z.lefts; rights = z.rights; added = came.0; each = came.1 }

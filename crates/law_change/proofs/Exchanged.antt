-- A group that was granted does what its change says, and leaves a kept tree.
use Rattle.std.proofs.Common.{◌≡◌, ◌∙◌, ◌++◌, ℕ, Bool, true, false, List, [], None, Option, Some, inl, inr, refl, ap, map, subst, sym}
use Rattle.std.specs.Prelude.{IsSome, flat_map}
use Rattle.std.proofs.lemmas.Bool.{cases_Bool}
use Rattle.std.proofs.lemmas.List.{map-append}
use Rattle.basics.specs.Members.{AreDistinct, Has}
use Rattle.basics.proofs.Membership.{has-append_cases, has-append_left, has-append_right, has-map, has-map_back}
use Rattle.basics.proofs.Tests.{none_is_not_some}
use Rattle.dep_atom.specs.Ids.{IsId}
use Rattle.dep_atom.specs.declared.package.PackageId.{PackageId}
use Rattle.dep_atom.proofs.Joined.{ComesApart}
use Rattle.file_tree.specs.Disk.{Map, held_by}
use Rattle.file_tree.specs.Paths.{is_below}
use Rattle.file_tree.specs.ObjectValue.{ObjectValue}
use Rattle.file_tree.specs.declared.objects.Entry.{Entry}
use Rattle.merge_fit.specs.Images as images
use Rattle.merge_journal.specs.Group.{Group}
use Rattle.file_tree.specs.PathSets.{is_in}
use Rattle.merge_record.specs.declared.record.OwnerKey.{OwnerKey}
use Rattle.merge_journal.proofs.Form.{are_free-words}
use Rattle.file_tree.proofs.PathSets.{has_if_in, in_if_has}
use Rattle.merge_site.specs.Booking.{dying_at, wish_for}
use Rattle.merge_site.specs.declared.group.SiteGroup.{SiteGroup}
use Rattle.owner_book.specs.Book as books
use Rattle.owner_book.specs.Book.{Book, owner_in}
use Rattle.owner_book.specs.Rules.{is_dying, is_reserved}
use Rattle.owner_book.specs.declared.wish.Wish.{Wish}
use Rattle.vdb_paths.specs.Files.{package_file_path}
use Rattle.file_tree.specs.Fixed.{database_path}
use Rattle.vdb_paths.proofs.Packages.{OneSpelling, one_id}
use Rattle.vdb_contents.specs.Contents.{path_of}
use Rattle.vdb_contents.specs.declared.owned.Owned.{Owned}
use Rattle.vdb_law.specs.Database.{Holds, IsOf, folder}
use Rattle.vdb_law.specs.Fields.{Folder, Says, contents, name_of}
use Rattle.vdb_law.specs.Packages.{Installed, id_of, paths}
use Rattle.vdb_law.specs.Step.{Change, GroupKeepsDatabase, Puts, Removes, SomeAfter, put}
use Rattle.vdb_law.proofs.Places.{counted_below, counted_of, text_there}
use Rattle.law_claim.specs.Granted.{GrantedClaimsAreGood, IsTaken}
use Rattle.law_claim.specs.Owners.{Tells, Wishes}
use Rattle.law_claim.specs.Settled.{SettledOwnersAre}
use Rattle.law_claim.proofs.Granted.{free_wish}
use Rattle.law_claim.proofs.Settled.{owners_by}
use Rattle.merge_group.specs.Granted.{MayChange, changes_in, wishes_in, wishes_of}
use Rattle.merge_group.specs.Working.{all_in, all_of, changing}
use Rattle.merge_group.specs.declared.files.Files.{Files}
use Rattle.law_package.specs.Packages.{AreFilesOf}
use Rattle.law_package.proofs.LetIn.{let_in_outside}
use Rattle.law_package.proofs.Places.{distinct_back, held_at, held_none, placed_paths, put_at, put_by}
use Rattle.law_change.specs.Changes.{Exchange, GrantedExchangesAreTold, GrantedExchangesLeaveOwnedTrees, IsExchange, IsOwnedTree, LeavesOwnedTree, change_by, changes_by}
use Rattle.law_change.specs.Packages.{IsRemovalOf}
use Rattle.law_change.proofs.Pieces.{both_zip, distinct_piece, has-piece, has-piece_back, left, one_piece, pairs_of, right}
use Rattle.law_change.proofs.Together.{all_wished, each_wish, held_has, image_wish, own_wish, paths_by_piece, paths_in}

-- a package that comes with its files, under the key that they name
pub record IsBrought (key : Installed → OwnerKey) (z : Files × Installed) : Type 0 where
  pub files : AreFilesOf z.0 z.1
  pub mine : key z.1 ≡ z.0.owner

module _ (comes : ComesApart) (spells : OneSpelling) (key : Installed → OwnerKey) (m : Map) (ps : List Installed) (book : Book) (groups : List SiteGroup) (n : ℕ)
    (zs : List (Files × Installed)) (gone : Installed → Bool) (removals : List (List ℕ))
    (brought : (z : Files × Installed) → Has zs z → IsBrought key z)
    (apart : AreDistinct (map key (map right zs))) (is_removal : IsRemovalOf m ps gone (map left zs) removals)
    (dies : (p : Installed) → Has ps p → is_dying (dying_at groups n) (key p) ≡ gone p)
    (may : MayChange m book groups (changes_in removals (map left zs)) n) where
  abbrev packages : List Files
  packages = map left zs

  abbrev added : List Installed
  added = map right zs

  abbrev es : List Entry
  es = all_of packages

  abbrev ws : List Wish
  ws = wishes_of packages

  abbrev g : Group
  g = changing n (changes_in removals packages)

  abbrev c : Change
  c = record { gone = gone; added = added; does = g }

  distinct : AreDistinct (map images.path_of es)
  distinct = subst (λ (l : List (List ℕ)). AreDistinct l) (all_wished packages)
      (distinct_back removals (map books.path_of ws) (are_free-words [] (removals ++ map books.path_of ws) may.granted.apart).distinct)

  -- .. piece by piece
  distinct_pieces : AreDistinct (flat_map paths_in zs)
  distinct_pieces = subst (λ (l : List (List ℕ)). AreDistinct l) (sym (paths_by_piece zs)) distinct

  -- ---- members

  has_entry : (z : Files × Installed) (e : Entry) → Has zs z → Has (all_in z.0) e → Has es e
  has_entry z e there has = has-piece all_in packages z.0 e (has-map left zs z there) has

  entry_of : (e : Entry) → Has es e → (z : Files × Installed) × Has zs z × Has (all_in z.0) e
  entry_of e has =
      let k = has-piece_back all_in packages e has in
      let z = has-map_back left zs k.0 k.1 in
      (z.0, z.1, subst (λ (f : Files). Has (all_in f) e) (sym z.2) k.2)

  has_wish : (z : Files × Installed) (v : Wish) → Has zs z → Has (wishes_in z.0) v → Has ws v
  has_wish z v there has = has-piece wishes_in packages z.0 v (has-map left zs z there) has

  wish_of : (v : Wish) → Has ws v → (z : Files × Installed) × Has zs z × Has (wishes_in z.0) v
  wish_of v has =
      let k = has-piece_back wishes_in packages v has in
      let z = has-map_back left zs k.0 k.1 in
      (z.0, z.1, subst (λ (f : Files). Has (wishes_in f) v) (sym z.2) k.2)

  -- ---- what is put

  all_put : (e : Entry) → Has es e → put g e.path ≡ Some e.object
  all_put e has = put_at n es e distinct has

  -- no path of an image is in the database
  image_outside : (z : Files × Installed) (q : List ℕ) → Has zs z → is_below database_path q ≡ true → Has (map images.path_of z.0.image.items) q → ⊥
  image_outside z q there below has =
      let e = has-map_back images.path_of z.0.image.items q has in
      let wish = has_wish z (wish_for z.0.owner false e.0) there (image_wish z.0 e.0 e.1) in
      let free : is_reserved e.0.path ≡ false = (free_wish may.book (is_dying (dying_at groups n)) ws may.granted.taken.free (wish_for z.0.owner false e.0) wish).1.let_in in
      cc (subst (λ (p : List ℕ). is_below database_path p ≡ false) e.2 (let_in_outside e.0.path free), below)

  -- what is put into the database is in the folder of a package that comes
  put_inside : (q : List ℕ) → is_below database_path q ≡ true → IsSome (put g q) → (z : Files × Installed) × Has zs z × Has (map images.path_of z.0.folder.items) q × IsOf (id_of z.1) q
  put_inside q below some =
      let k = put_by n es q some in
      let z = entry_of k.0 k.1 in
      elim (has-append_cases z.0.0.image.items z.0.0.folder.items k.0 z.2) [
        | inl i ↦ absurd (image_outside z.0 q z.1 below (subst (λ (p : List ℕ). Has (map images.path_of z.0.0.image.items) p) k.2 (has-map images.path_of z.0.0.image.items k.0 i)))
        | inr f ↦ (z.0, z.1, subst (λ (p : List ℕ). Has (map images.path_of z.0.0.folder.items) p) k.2 (has-map images.path_of z.0.0.folder.items k.0 f), subst (λ (p : List ℕ). IsOf (id_of z.0.1) p) k.2 ((brought z.0 z.1).files.inside k.0 f))
      ]

  abbrev mark : Files × Installed → List ℕ
  mark z = package_file_path (id_of z.1) (name_of contents)

  below_at : (z : Files × Installed) (name : List ℕ) → Has zs z → is_below database_path (package_file_path (id_of z.1) name) ≡ true
  below_at z name there = counted_below _ (counted_of (id_of z.1) name (brought z there).files.id)

  -- the file of CONTENTS of a package that comes
  marked : (z : Files × Installed) → Has zs z → (e : Entry) × Has z.0.folder.items e × (e.path ≡ mark z)
  marked z there =
      held_has z.0.folder.items (mark z) (text_there (held_by z.0.folder.items (mark z)) ((brought z there).files.says.there contents refl))

  own_path : (z : Files × Installed) (q : List ℕ) → Has (map images.path_of z.0.folder.items) q → Has (paths_in z) q
  own_path z q has = subst (λ (l : List (List ℕ)). Has l q) (sym (map-append images.path_of z.0.image.items z.0.folder.items))
      (has-append_right (map images.path_of z.0.image.items) (map images.path_of z.0.folder.items) q has)

  mark_path : (z : Files × Installed) → Has zs z → Has (paths_in z) (mark z)
  mark_path z there =
      let k = marked z there in
      own_path z (mark z) (subst (λ (q : List ℕ). Has (map images.path_of z.0.folder.items) q) k.2 (has-map images.path_of z.0.folder.items k.0 k.1))

  -- packages that come with a path of one folder are one
  one_folder : (y z : Files × Installed) (q : List ℕ) → Has zs y → Has zs z → IsOf (id_of y.1) q → IsOf (id_of z.1) q → y ≡ z
  one_folder y z q there here (name, is) (other, too) =
      let same = one_id comes spells (id_of y.1) (id_of z.1) name other (brought y there).files.id (brought z here).files.id (sym is ∙ too) in
      let marks : mark y ≡ mark z = ap (λ (id : PackageId). package_file_path id (name_of contents)) same in
      one_piece paths_in zs y z (mark z) distinct_pieces there here (subst (λ (q : List ℕ). Has (paths_in y) q) marks (mark_path y there)) (mark_path z here)

  own_distinct : (z : Files × Installed) → Has zs z → AreDistinct (map images.path_of z.0.folder.items)
  own_distinct z there =
      distinct_back (map images.path_of z.0.image.items) (map images.path_of z.0.folder.items)
      (subst (λ (l : List (List ℕ)). AreDistinct l) (map-append images.path_of z.0.image.items z.0.folder.items) (distinct_piece paths_in zs z distinct_pieces there))

  none_put : (z : Files × Installed) (name : List ℕ) → Has zs z → ¬ Has (map images.path_of z.0.folder.items) (package_file_path (id_of z.1) name) → (x : Option ObjectValue) → put g (package_file_path (id_of z.1) name) ≡ x → put g (package_file_path (id_of z.1) name) ≡ None
  none_put z name there out None e = e
  none_put z name there out (Some t) e =
      let k = put_inside (package_file_path (id_of z.1) name) (below_at z name there) (subst (λ (x : Option ObjectValue). IsSome x) (sym e) refl) in
      let same = one_folder k.0 z (package_file_path (id_of z.1) name) k.1 there k.3 (name, refl) in
      absurd (out (subst (λ (y : Files × Installed). Has (map images.path_of y.0.folder.items) (package_file_path (id_of z.1) name)) same k.2))

  -- what is put into the folder of a package that comes are its own files
  own_put : (z : Files × Installed) (name : List ℕ) → Has zs z → put g (package_file_path (id_of z.1) name) ≡ held_by z.0.folder.items (package_file_path (id_of z.1) name)
  own_put z name there =
      let own = z.0.folder.items in
      let q = package_file_path (id_of z.1) name in
      elim (cases_Bool (is_in (map images.path_of own) q)) [
        | inl e ↦ (let k = has-map_back images.path_of own q (has_if_in (map images.path_of own) q e) in
            subst (λ (p : List ℕ). put g p ≡ held_by own p) k.2
            (all_put k.0 (has_entry z k.0 there (has-append_right z.0.image.items own k.0 k.1)) ∙ sym (held_at own k.0 (own_distinct z there) k.1)))
        | inr e ↦ (let out : Has (map images.path_of own) q → ⊥ = λ has. cc (in_if_has (map images.path_of own) q has, e) in
            none_put z name there out (put g q) refl ∙ sym (held_none own q out))
      ]

  says_here : (z : Files × Installed) → Has zs z → Says (folder (put g) (id_of z.1)) z.1
  says_here z there = subst (λ (f : Folder). Says f z.1) (λ i name. sym (own_put z name there) i) (brought z there).files.says

  owned_here : (z : Files × Installed) (o : Owned) → Has zs z → Has z.1.owned o → Holds (put g o.path) o.content
  owned_here z o there has =
      let k = (brought z there).files.owned o has in
      subst (λ (x : Option ObjectValue). Holds x o.content)
      (sym (ap (put g) k.2.path ∙ all_put k.0 (has_entry z k.0 there (has-append_left z.0.image.items z.0.folder.items k.0 k.1)))) k.2.content

  -- what holds of each package that is brought holds of each that comes
  by_pair : (P : Installed → Type 0) → ((z : Files × Installed) → Has zs z → P z.1) → (a : Installed) → Has added a → P a
  by_pair P each a has = let z = has-map_back right zs a has in subst P z.2 (each z.0 z.1)

  puts : Puts added g
  puts = record {
    ids = by_pair (λ (a : Installed). IsId (id_of a)) (λ z there. (brought z there).files.id);
    says = by_pair (λ (a : Installed). Says (folder (put g) (id_of a)) a) says_here;
    owned = λ a o has. by_pair (λ (b : Installed). Has b.owned o → Holds (put g o.path) o.content) (λ z there. owned_here z o there) a has;
    inside = λ q below some. let z = put_inside q below some in (z.0.1, has-map right zs z.0 z.1, z.3);
  }

  removes : Removes m ps gone g
  removes = record {
    only = λ q has. ((is_removal q).0 has).0;
    all = λ p q leaves owns none. (is_removal q).1 (
      (p, leaves, owns),
      λ has.
          let e = has-map_back images.path_of es q has in
          none_is_not_some (put g q) none (subst (λ (x : Option ObjectValue). IsSome x) (sym (ap (put g) (sym e.2) ∙ all_put e.0 e.1)) refl),
    );
  }

  -- ---- what is wished

  abbrev IsWished : Installed → List ℕ → Type 0
  IsWished a q = (v : Wish) × Has ws v × (v.path ≡ q) × (v.owner ≡ key a)

  recorded_wish : (z : Files × Installed) (q : List ℕ) → Has zs z → Has (paths z.1) q → IsWished z.1 q
  recorded_wish z q there has =
      let o = has-map_back path_of z.1.owned q has in
      let k = (brought z there).files.owned o.0 o.1 in
      (wish_for z.0.owner false k.0, has_wish z _ there (image_wish z.0 k.0 k.1), sym k.2.path ∙ o.2, sym (brought z there).mine)

  mark_wish : (z : Files × Installed) → Has zs z → IsWished z.1 (mark z)
  mark_wish z there =
      let k = marked z there in
      (wish_for z.0.owner true k.0, has_wish z _ there (own_wish z.0 k.0 k.1), k.2, sym (brought z there).mine)

  put_wish : (v : Wish) → Has ws v → IsSome (put g v.path)
  put_wish v has =
      let there = subst (λ (l : List (List ℕ)). Has l v.path) (all_wished packages) (has-map books.path_of ws v has) in
      let k = has-map_back images.path_of es v.path there in
      subst (λ (x : Option ObjectValue). IsSome x) (sym (ap (put g) (sym k.2) ∙ all_put k.0 k.1)) refl

  wishes : Wishes key c ws
  wishes = record {
    placed = placed_paths es ∙ sym (all_wished packages);
    each = λ v has.
        let z = wish_of v has in
        let k = each_wish z.0.0 z.0.1 (brought z.0 z.1).files v z.2 in
        (z.0.1, has-map right zs z.0 z.1, k.0 ∙ sym (brought z.0 z.1).mine, k.1);
    recorded = λ a q here has. by_pair (λ (b : Installed). Has (paths b) q → IsWished b q) (λ z there. recorded_wish z q there) a here has;
    marked = by_pair (λ (b : Installed). IsWished b (package_file_path (id_of b) (name_of contents))) mark_wish;
    put = put_wish;
    keys = apart;
  }

  pub tells : Tells key m ps (record { gone = gone; added = map right zs; does = changing n (changes_in removals (map left zs)) }) (is_dying (dying_at groups n)) (wishes_of (map left zs))
  tells = record { wishes = wishes; removes = removes; puts = puts; dies = dies }

-- ---- with the premises of the law

module _ (comes : ComesApart) (spells : OneSpelling) (key : Installed → OwnerKey) (m : Map) (ps : List Installed) (book : Book) (groups : List SiteGroup) (n : ℕ) (x : Exchange)
    (is : IsExchange key m ps (is_dying (dying_at groups n)) x) (may : MayChange m book groups (changes_by x) n) where
  abbrev change : Change
  change = change_by n x

  abbrev dying : OwnerKey → Bool
  dying = is_dying (dying_at groups n)

  pub all_told : Tells key m ps (change_by n x) (is_dying (dying_at groups n)) (wishes_of x.packages)
  all_told =
      let k = pairs_of (λ f a. AreFilesOf f a × (key a ≡ f.owner)) x.packages x.added (both_zip AreFilesOf (λ f a. key a ≡ f.owner) x.packages x.added is.files is.keys) in
      let zs = k.pairs in
      subst (λ (fs : List Files). Tells key m ps (record { gone = x.gone; added = x.added; does = changing n (changes_in x.removals fs) }) dying (wishes_of fs)) k.lefts
      (subst (λ (l : List Installed). Tells key m ps (record { gone = x.gone; added = l; does = changing n (changes_in x.removals (map left zs)) }) dying (wishes_of (map left zs))) k.rights
      (tells comes spells key m ps book groups n zs x.gone x.removals
      (λ z has. record { files = (k.each z has).0; mine = (k.each z has).1 })
      (subst (λ (l : List Installed). AreDistinct (map key l)) (sym k.rights) is.apart)
      (subst (λ (fs : List Files). IsRemovalOf m ps x.gone fs x.removals) (sym k.lefts) is.removes)
      is.dies
      (subst (λ (fs : List Files). MayChange m book groups (changes_in x.removals fs) n) (sym k.lefts) may)))

  taken : IsTaken may.book dying change (wishes_of x.packages)
  taken = record { removable = may.granted.taken.removable; free = may.granted.taken.free }

  module _ (good : GrantedClaimsAreGood) (settles : SettledOwnersAre) (keeps : GroupKeepsDatabase) (some : SomeAfter) (tree : IsOwnedTree key m ps (owner_in book.owned)) where
    pub leaves : LeavesOwnedTree key m ps (owner_in book.owned) (change_by n x) (wishes_of x.packages)
    leaves =
        let ws = wishes_of x.packages in
        let there = owners_by key m ps (owner_in book.owned) (owner_in may.book.owned) may.unclaimed.owners tree.owners in
        let all = good key may.book m ps change dying ws tree.database there all_told taken in
        let mid = some ps x.added x.gone tree.database.rising all.0.own in
        let held = keeps m ps x.added mid.0 x.gone change.does tree.database tree.kept all.0.step mid.1 in
        record {
          comes = all.0;
          packages = mid.0;
          after = mid.1;
          tree = record {
            database = held.0;
            kept = held.1;
            owners = settles key m ps mid.0 change dying ws (owner_in book.owned) tree.database tree.kept tree.owners all_told all.0 all.1 mid.1;
          };
        }

pub are_told : ComesApart → OneSpelling → GrantedExchangesAreTold
are_told comes spells key m ps book groups n x is may = all_told comes spells key m ps book groups n x is may

pub leave_owned_trees : GrantedClaimsAreGood → SettledOwnersAre → GroupKeepsDatabase → SomeAfter → ComesApart → OneSpelling → GrantedExchangesLeaveOwnedTrees
leave_owned_trees good settles keeps some comes spells key m ps book groups n x tree is may =
    leaves comes spells key m ps book groups n x is may good settles keeps some tree

-- The files of several packages that one group brings.
use Rattle.std.proofs.Common.{◌≡◌, ◌∙◌, ◌++◌, ℕ, false, true, List, [], ◌∷◌, inl, inr, refl, ap, map, subst, sym}
use Rattle.std.specs.Prelude.{IsSome, flat_map}
use Rattle.std.proofs.lemmas.Bool.{cases_Bool}
use Rattle.std.proofs.lemmas.List.{map-append}
use Rattle.basics.specs.Members.{Has}
use Rattle.basics.proofs.Membership.{has-append_cases, has-append_left, has-append_right, has-map, has-map_back}
use Rattle.basics.proofs.Tests.{none_is_not_some}
use Rattle.file_tree.specs.Disk.{held_by}
use Rattle.file_tree.specs.declared.objects.Entry.{Entry}
use Rattle.merge_fit.specs.Images as images
use Rattle.file_tree.specs.PathSets.{is_in}
use Rattle.file_tree.proofs.PathSets.{has_if_in, in_if_has}
use Rattle.merge_site.specs.Booking.{wish_for}
use Rattle.owner_book.specs.Book as books
use Rattle.owner_book.specs.declared.wish.Wish.{Wish}
use Rattle.vdb_law.specs.Database.{IsOf}
use Rattle.vdb_law.specs.Packages.{Installed, id_of, paths}
use Rattle.law_claim.specs.Owners.{IsWishOf}
use Rattle.merge_group.specs.Granted.{wishes_for, wishes_in, wishes_of}
use Rattle.merge_group.specs.Working.{all_in, all_of}
use Rattle.merge_group.specs.declared.files.Files.{Files}
use Rattle.law_package.specs.Packages.{AreFilesOf}
use Rattle.law_package.proofs.Places.{held_none, wished_paths}
use Rattle.law_change.proofs.Pieces.{left}

-- ---- what is wished

pub one_wished : (files : Files) → map books.path_of (wishes_in files) ≡ map images.path_of (all_in files)
one_wished files =
    let image = files.image.items in
    let own = files.folder.items in
    map-append books.path_of (wishes_for files.owner false image) (wishes_for files.owner true own)
    ∙ (ap (λ (l : List (List ℕ)). l ++ map books.path_of (wishes_for files.owner true own)) (wished_paths files.owner false image)
    ∙ (ap (λ (l : List (List ℕ)). map images.path_of image ++ l) (wished_paths files.owner true own)
    ∙ sym (map-append images.path_of image own)))

pub all_wished : (packages : List Files) → map books.path_of (wishes_of packages) ≡ map images.path_of (all_of packages)
all_wished [] = refl
all_wished (f ∷ fs) =
    map-append books.path_of (wishes_in f) (wishes_of fs)
    ∙ (ap (λ (l : List (List ℕ)). l ++ map books.path_of (wishes_of fs)) (one_wished f)
    ∙ (ap (λ (l : List (List ℕ)). map images.path_of (all_in f) ++ l) (all_wished fs)
    ∙ sym (map-append images.path_of (all_in f) (all_of fs))))

-- the paths of each package's files are a piece of all of them
abbrev pub paths_in : Files × Installed → List (List ℕ)
paths_in z = map images.path_of (all_in z.0)

pub paths_by_piece : (zs : List (Files × Installed)) → flat_map paths_in zs ≡ map images.path_of (all_of (map left zs))
paths_by_piece [] = refl
paths_by_piece (z ∷ zs) = ap (λ (l : List (List ℕ)). paths_in z ++ l) (paths_by_piece zs) ∙ sym (map-append images.path_of (all_in z.0) (all_of (map left zs)))

-- a wish of a package's files is one of its paths, under the key that they name
pub each_wish : (files : Files) (a : Installed) → AreFilesOf files a → (v : Wish) → Has (wishes_in files) v → (v.owner ≡ files.owner) × IsWishOf a v
each_wish files a are v has = elim (has-append_cases (wishes_for files.owner false files.image.items) (wishes_for files.owner true files.folder.items) v has) [
  | inl i ↦ (let k = has-map_back (wish_for files.owner false) files.image.items v i in
      (ap (λ (x : Wish). x.owner) (sym k.2), inl (ap (λ (x : Wish). x.folder) (sym k.2), subst (λ (x : Wish). Has (paths a) x.path) k.2 (are.recorded k.0 k.1))))
  | inr f ↦ (let k = has-map_back (wish_for files.owner true) files.folder.items v f in
      (ap (λ (x : Wish). x.owner) (sym k.2), inr (ap (λ (x : Wish). x.folder) (sym k.2), subst (λ (x : Wish). IsOf (id_of a) x.path) k.2 (are.inside k.0 k.1))))
]

pub image_wish : (files : Files) (e : Entry) → Has files.image.items e → Has (wishes_in files) (wish_for files.owner false e)
image_wish files e has = has-append_left (wishes_for files.owner false files.image.items) (wishes_for files.owner true files.folder.items) _ (has-map (wish_for files.owner false) files.image.items e has)

pub own_wish : (files : Files) (e : Entry) → Has files.folder.items e → Has (wishes_in files) (wish_for files.owner true e)
own_wish files e has = has-append_right (wishes_for files.owner false files.image.items) (wishes_for files.owner true files.folder.items) _ (has-map (wish_for files.owner true) files.folder.items e has)

-- ---- the map of files

-- what the map holds is a file's
pub held_has : (es : List Entry) (q : List ℕ) → IsSome (held_by es q) → (e : Entry) × Has es e × (e.path ≡ q)
held_has es q some = elim (cases_Bool (is_in (map images.path_of es) q)) [
  | inl e ↦ has-map_back images.path_of es q (has_if_in (map images.path_of es) q e)
  | inr e ↦ absurd (none_is_not_some (held_by es q) (held_none es q (λ has. cc (in_if_has (map images.path_of es) q has, e))) some)
]

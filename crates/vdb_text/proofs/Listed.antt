-- The folders of the paths of a list, and those of a map's database.
use Rattle.std.proofs.Common.{◌≡◌, ◌∙◌, ◌<◌, ◌+◌, ℕ, List, [], ◌∷◌, ◌++◌, length, get_or, take, refl, ap, sym, subst, inl, inr}
use Rattle.std.specs.Prelude.{◌↔◌}
use Rattle.std.specs.BTreeSet.{insert_key}
use Rattle.std.proofs.lemmas.List.{take_more}
use Rattle.basics.specs.Members.{Has}
use Rattle.basics.proofs.Membership.{contains-from_has, has-append_cases, has-append_left, has-append_right, has-from_contains}
use Rattle.file_tree.specs.Disk.{Lists, Map}
use Rattle.pms_names.specs.Flags.{byte_order}
use Rattle.file_tree.specs.Fixed.{database_path}
use Rattle.vdb_law.specs.Database.{IsCounted}
use Rattle.vdb_law.proofs.Places.{counted_below}
use Rattle.vdb_overlap.proofs.Sets.{is_there, was_there}
use Rattle.vdb_text.specs.Folders.{IsAmong, IsFolder, IsInFolder, folder_text}

module _ (paths : List (List ℕ)) (i : ℕ) (path : List ℕ) (lt : i < length paths) (at : path ≡ get_or paths i path) where
  front : take (i + 1) paths ≡ take i paths ++ path ∷ []
  front = take_more paths i path lt ∙ ap (λ (q : List ℕ). take i paths ++ q ∷ []) (sym at)

  more : (t : List ℕ) → IsAmong (take i paths) t → IsAmong (take (i + 1) paths) t
  more t is = record { path = is.path; listed = subst (λ (l : List (List ℕ)). Has l is.path) (sym front) (has-append_left (take i paths) (path ∷ []) is.path is.listed); counted = is.counted; is = is.is }

  -- of one more path that is in no folder nothing comes
  pub none_more : (¬ IsCounted path) → (keys : List (List ℕ)) → ((t : List ℕ) → Has keys t ↔ IsAmong (take i paths) t) → (t : List ℕ) → Has keys t ↔ IsAmong (take (i + 1) paths) t
  none_more none keys before t = (
    λ has. more t ((before t).0 has),
    λ is. elim (has-append_cases (take i paths) (path ∷ []) is.path (subst (λ (l : List (List ℕ)). Has l is.path) front is.listed)) [
      | inl earlier ↦ (before t).1 (record { path = is.path; listed = earlier; counted = is.counted; is = is.is })
      | inr (inl same) ↦ absurd (none (subst IsCounted (sym same) is.counted))
      | inr (inr never) ↦ absurd never
    ],
  )

  -- of one more path its folder comes
  pub one_more : (category pf text : List ℕ) → IsInFolder category pf path → text ≡ folder_text category pf → (old new : List (List ℕ)) → new ≡ insert_key byte_order old text
      → ((t : List ℕ) → Has old t ↔ IsAmong (take i paths) t) → (t : List ℕ) → Has new t ↔ IsAmong (take (i + 1) paths) t
  one_more category pf text in-folder is old new made before t = (
    λ has. elim (was_there text old t (subst (λ (l : List (List ℕ)). Has l t) made has)) [
      | inl same ↦ (
          let one = in-folder.only in-folder.counted in
          record {
            path = path;
            listed = subst (λ (l : List (List ℕ)). Has l path) (sym front) (has-append_right (take i paths) (path ∷ []) path (inl refl));
            counted = in-folder.counted;
            is = sym same ∙ (is ∙ sym (ap (λ (x : List ℕ). folder_text x in-folder.counted.pf) one.0 ∙ ap (λ (x : List ℕ). folder_text category x) one.1));
          })
      | inr there ↦ more t ((before t).0 there)
    ],
    λ among. subst (λ (l : List (List ℕ)). Has l t) (sym made) (is_there text old t (elim (has-append_cases (take i paths) (path ∷ []) among.path (subst (λ (l : List (List ℕ)). Has l among.path) front among.listed)) [
      | inl earlier ↦ inr ((before t).1 (record { path = among.path; listed = earlier; counted = among.counted; is = among.is }))
      | inr (inl same) ↦ inl (in_this same among.counted among.is)
      | inr (inr never) ↦ absurd never
    ])),
  )
    where
      in_this : {q : List ℕ} → path ≡ q → (c : IsCounted q) → t ≡ folder_text c.category c.pf → text ≡ t
      in_this {q} same c e = subst (λ (p : List ℕ). (d : IsCounted p) → t ≡ folder_text d.category d.pf → text ≡ t) same
          (λ d f. let one = in-folder.only d in is ∙ (sym (ap (λ (x : List ℕ). folder_text x d.pf) one.0 ∙ ap (λ (x : List ℕ). folder_text category x) one.1) ∙ sym f)) c e

-- nothing is among no paths
pub none_yet : (t : List ℕ) → Has [] t ↔ IsAmong [] t
none_yet t = (λ h. absurd h, λ h. absurd h.listed)

-- the folders of the listed paths are those of the map
pub folders_of_map : (m : Map) (paths : List (List ℕ)) → Lists m database_path paths → (texts : List (List ℕ)) → ((t : List ℕ) → Has texts t ↔ IsAmong paths t) → (t : List ℕ) → Has texts t ↔ IsFolder m t
folders_of_map m paths lists texts members t = (
  λ has. (let is = (members t).0 has in
      record { path = is.path; there = ((lists is.path).0 (contains-from_has paths is.path is.listed)).1; counted = is.counted; is = is.is }),
  λ is. (members t).1 (record { path = is.path; listed = has-from_contains paths is.path ((lists is.path).1 (counted_below is.path is.counted, is.there)); counted = is.counted; is = is.is }),
)

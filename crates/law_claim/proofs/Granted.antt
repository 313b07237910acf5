-- A claim that the book takes is a good one.
use Rattle.std.proofs.Common.{◌≡◌, ◌⊎◌, ◌<◌, ◌++◌, ◌∙◌, ◌||◌, ◌==◌, ℕ, Bool, true, false, List, [], ◌∷◌, Option, Some, None, length, map, take, inl, inr, refl, sym, ap, subst, arith}
use Rattle.std.specs.Prelude.{IsSome, codes, slice_get, slice_index}
use Rattle.std.proofs.Math.ListN.{get_or-eq_default}
use Rattle.std.proofs.lemmas.Bool.{and_right, cases_Bool, or_parts, or_right, true≢false}
use Rattle.basics.specs.Members.{AreDistinct, Has}
use Rattle.basics.proofs.Membership.{has-map, has-map_back}
use Rattle.basics.proofs.Tests.{none_is_not_some, or_rest}
use Rattle.file_tree.specs.Disk.{Map}
use Rattle.file_tree.specs.Paths.{is_below}
use Rattle.merge_journal.specs.Judging.{path_of}
use Rattle.file_tree.specs.PathSets.{is_in}
use Rattle.merge_record.specs.declared.record.OwnerKey.{OwnerKey}
use Rattle.file_tree.proofs.PathSets.{has_if_in}
use Rattle.file_tree.proofs.PathSets.{is_in-append}
use Rattle.dep_atom.specs.Ids.{id_text}
use Rattle.dep_atom.specs.declared.package.PackageId.{PackageId}
use Rattle.merge_journal.specs.Group.{covers}
use Rattle.merge_journal.proofs.Changes.{placed_outside}
use Rattle.owner_book.specs.Book as books
use Rattle.owner_book.specs.Book.{Book, IsClaimedBy, IsTaken as IsTakenPath, claim_in, has, is_wished, owner_in}
use Rattle.owner_book.specs.Near.{is_near}
use Rattle.owner_book.specs.Whole.{AreFree, FreeIn}
use Rattle.owner_book.specs.declared.wish.Wish.{Wish}
use Rattle.vdb_paths.specs.Files.{package_file_path}
use Rattle.vdb_law.specs.Database.{IsDatabase, folder_name}
use Rattle.vdb_law.specs.Fields.{contents, name_of}
use Rattle.vdb_law.specs.Packages.{Installed, id_of, paths}
use Rattle.vdb_law.specs.Step.{Change, IsApart, Owns, Stays, put}
use Rattle.vdb_law.proofs.Places.{text_there}
use Rattle.law_commit.specs.Claims.{AreBeside, MayCome}
use Rattle.law_claim.specs.Granted.{AreOnOtherLines, GrantedClaimsAreGood, IsClaimOf, IsTaken}
use Rattle.law_claim.specs.Owners.{OwnersAre, Tells, Wishes}
use Rattle.law_claim.proofs.Lists.{IsBehind, get_there, one_first, place_of, place_within, take_there, wished_if_has}

-- no path is below itself
pub not_below : (q : List ℕ) → is_below q q ≡ false
not_below q = and_right _ (slice_index q (length q) == 47) (ap (λ (b : ℕ). b == 47) (get_or-eq_default q 0 {n = length q} (omega arith)))

-- packages of one folder have one file of CONTENTS
mark_path : (a b : PackageId) → id_text a ≡ id_text b → package_file_path a (name_of contents) ≡ package_file_path b (name_of contents)
unfolding package_file_path
mark_path a b e = ap (λ (t : List ℕ). codes "var/db/pkg/" ++ (t ++ (47 ∷ name_of contents))) e

-- packages with marks of their own are told apart by them
pub one_by : {B : Type 0} (f : Installed → B) (xs : List Installed) (a b : Installed) → AreDistinct (map f xs) → Has xs a → Has xs b → f a ≡ f b → a ≡ b
one_by f [] a b d ha hb e = absurd ha
one_by f (x ∷ xs) a b d (inl p) (inl q) e = sym p ∙ q
one_by {B = B} f (x ∷ xs) a b d (inl p) (inr q) e = absurd (d.0 (subst (λ (k : B). Has (map f xs) k) (sym e ∙ ap f (sym p)) (has-map f xs b q)))
one_by {B = B} f (x ∷ xs) a b d (inr p) (inl q) e = absurd (d.0 (subst (λ (k : B). Has (map f xs) k) (e ∙ ap f (sym q)) (has-map f xs a p)))
one_by f (x ∷ xs) a b d (inr p) (inr q) e = one_by f xs a b d.1 p q e

-- so are packages that nothing but themselves has the folder of
distinct_by : (key : Installed → OwnerKey) (xs : List Installed) → ((a b : Installed) → Has xs a → Has xs b → folder_name a ≡ folder_name b → a ≡ b) → AreDistinct (map key xs) → AreDistinct (map folder_name xs)
distinct_by key [] one d = tt
distinct_by key (x ∷ xs) one d = (
  (λ h. let k = has-map_back folder_name xs (folder_name x) h in
      d.0 (subst (λ (o : OwnerKey). Has (map key xs) o) (ap key (one k.0 x (inr k.1) (inl refl) k.2)) (has-map key xs k.0 k.1))),
  distinct_by key xs (λ a b ha hb. one a b (inr ha) (inr hb)) d.1,
)

-- a path that a change puts is wished
pub put_wished : (key : Installed → OwnerKey) (c : Change) (ws : List Wish) → Wishes key c ws → (q : List ℕ) → is_in (map path_of c.does.content.placements) q ≡ true → (w : Wish) × Has ws w × (w.path ≡ q)
put_wished key c ws wishes q e =
    let k = has-map_back books.path_of ws q (subst (λ (l : List (List ℕ)). Has l q) wishes.placed (has_if_in (map path_of c.does.content.placements) q e)) in
    (k.0, k.1, k.2)

pub put_placed : (c : Change) (q : List ℕ) → IsSome (put c.does q) → is_in (map path_of c.does.content.placements) q ≡ true
put_placed c q some = elim (cases_Bool (is_in (map path_of c.does.content.placements) q)) [
  | inl e ↦ e
  | inr e ↦ absurd (none_is_not_some (put c.does q) (placed_outside c.does.content.placements c.does.objects q None e) some)
]

-- a path of a change is removed or put
covered_cases : (c : Change) (q : List ℕ) → covers c.does q ≡ true → (is_in c.does.content.removals q ≡ true) ⊎ (is_in (map path_of c.does.content.placements) q ≡ true)
covered_cases c q e = elim (cases_Bool (is_in c.does.content.removals q)) [
  | inl r ↦ inl r
  | inr n ↦ inr (or_rest (is_in c.does.content.removals q) (is_in (map path_of c.does.content.placements) q) n (sym (is_in-append c.does.content.removals (map path_of c.does.content.placements) q) ∙ e))
]

-- of wishes that are free together, each is free behind those before it
pub free_behind : (b : Book) (dying : OwnerKey → Bool) (ws : List Wish) → AreFree b dying ws → (before : List Wish) (w : Wish) → IsBehind ws before w → FreeIn b dying before w
free_behind b dying ws free before w is =
    let within : length before < length ws = subst (λ (l : List Wish). length before < length l) (sym is.whole) (place_within before is.after w) in
    let there : slice_get ws (length before) ≡ Some w = ap (λ (l : List Wish). slice_get l (length before)) is.whole ∙ get_there before is.after w in
    let earlier : take (length before) ws ≡ before = ap (λ (l : List Wish). take (length before) l) is.whole ∙ take_there before is.after w in
    subst (λ (l : List Wish). FreeIn b dying l w) earlier (free (length before) w within there)

pub free_wish : (b : Book) (dying : OwnerKey → Bool) (ws : List Wish) → AreFree b dying ws → (w : Wish) → Has ws w → (before : List Wish) × FreeIn b dying before w
free_wish b dying ws free w h = let k = place_of ws w h in (k.0, free_behind b dying ws free k.0 w k.1)

module _ (key : Installed → OwnerKey) (b : Book) (m : Map) (ps : List Installed) (c : Change) (dying : OwnerKey → Bool) (ws : List Wish)
    (db : IsDatabase m ps) (owners : OwnersAre key m ps (owner_in b.owned)) (tells : Tells key m ps c dying ws) (taken : IsTaken b dying c ws) where
  free_at : (before : List Wish) (w : Wish) → IsBehind ws before w → FreeIn b dying before w
  free_at = free_behind b dying ws taken.free

  free_one : (w : Wish) → Has ws w → (before : List Wish) × FreeIn b dying before w
  free_one = free_wish b dying ws taken.free

  -- a wish for a path that a package owns: the package goes
  owned_goes : (p : Installed) (w : Wish) → Has ps p → Owns m p w.path → Has ws w → c.gone p ≡ true
  owned_goes p w hp owns hw = sym (tells.dies p hp) ∙ (free_one w hw).1.passed.dies (key p) (owners.mine p w.path hp owns)

  -- no two wishes are for one path
  one_path : (w v : Wish) → Has ws w → Has ws v → w.path ≡ v.path → w ≡ v
  one_path w v hw hv e = elim (one_first ws w v hw hv) [
    | inl same ↦ same
    | inr (inl x) ↦ absurd ((free_at x.before v x.behind).passed.once (ap (is_wished x.before) (sym e) ∙ wished_if_has x.before w x.earlier))
    | inr (inr x) ↦ absurd ((free_at x.before w x.behind).passed.once (ap (is_wished x.before) e ∙ wished_if_has x.before v x.earlier))
  ]

  one_of_key : (a r : Installed) → Has c.added a → Has c.added r → key a ≡ key r → a ≡ r
  one_of_key a r ha hr e = one_by key c.added a r tells.wishes.keys ha hr e

  one_owner : (a r : Installed) (w v : Wish) → Has c.added a → Has c.added r → Has ws w → Has ws v → w.owner ≡ key a → v.owner ≡ key r → w.path ≡ v.path → a ≡ r
  one_owner a r w v ha hr hw hv oa or e = one_of_key a r ha hr (sym oa ∙ ap (λ (x : Wish). x.owner) (one_path w v hw hv e) ∙ or)

  near_apart : (p q : List ℕ) → is_near p q ≡ false → (is_below p q ≡ false) × (is_below q p ≡ false)
  near_apart p q e = or_parts (is_below p q) (is_below q p) e

  free_put : (p : Installed) (q : List ℕ) → Stays ps c.gone p → Owns m p q → put c.does q ≡ None
  free_put p q stays owns = go (put c.does q) refl where
    go : (x : Option _) → put c.does q ≡ x → put c.does q ≡ None
    go None e = e
    go (Some t) e =
        let w = put_wished key c ws tells.wishes q (put_placed c q (subst (λ (y : Option _). IsSome y) (sym e) refl)) in
        absurd (true≢false (sym (owned_goes p w.0 stays.0 (subst (λ (s : List ℕ). Owns m p s) (sym w.2) owns) w.1) ∙ stays.1))

  flat_path : (a r : Installed) (q s : List ℕ) → Has c.added a → Has c.added r → Has (paths a) q → Has (paths r) s → is_below q s ≡ false
  flat_path a r q s ha hr own theirs =
      let w = tells.wishes.recorded a q ha own in
      let v = tells.wishes.recorded r s hr theirs in
      let below : is_below w.0.path v.0.path ≡ false = elim (one_first ws w.0 v.0 w.1 v.1) [
        | inl same ↦ ap (λ (x : Wish). is_below x.path v.0.path) same ∙ not_below v.0.path
        | inr (inl x) ↦ (near_apart v.0.path w.0.path ((free_at x.before v.0 x.behind).apart w.0.path (inr (inr (wished_if_has x.before w.0 x.earlier))))).1
        | inr (inr x) ↦ (near_apart w.0.path v.0.path ((free_at x.before w.0 x.behind).apart v.0.path (inr (inr (wished_if_has x.before v.0 x.earlier))))).0
      ] in
      ap (λ (t : List ℕ). is_below t s) (sym w.2) ∙ ap (λ (t : List ℕ). is_below w.0.path t) (sym v.2) ∙ below

  apart : IsApart m ps c.gone c.added c.does
  apart = record {
    free = free_put;
    beside = λ a p q s ha stays own theirs.
        let w = tells.wishes.recorded a q ha own in
        let owned : IsSome (owner_in b.owned s) = subst (λ (o : Option OwnerKey). IsSome o) (sym (owners.mine p s stays.0 (inl theirs))) refl in
        let k = near_apart w.0.path s ((free_one w.0 w.1).1.apart s (inl owned)) in
        (ap (λ (t : List ℕ). is_below t s) (sym w.2) ∙ k.0, ap (λ (t : List ℕ). is_below s t) (sym w.2) ∙ k.1);
    once = λ a r q ha hr own theirs.
        let w = tells.wishes.recorded a q ha own in
        let v = tells.wishes.recorded r q hr theirs in
        one_owner a r w.0 v.0 ha hr w.1 v.1 w.3 v.3 (w.2 ∙ sym v.2);
    flat = flat_path;
  }

  one_folder : (a r : Installed) → Has c.added a → Has c.added r → folder_name a ≡ folder_name r → a ≡ r
  one_folder a r ha hr e =
      let w = tells.wishes.marked a ha in
      let v = tells.wishes.marked r hr in
      one_owner a r w.0 v.0 ha hr w.1 v.1 w.3 v.3 (w.2 ∙ mark_path (id_of a) (id_of r) e ∙ sym v.2)

  new_folder : (a p : Installed) → Has c.added a → Stays ps c.gone p → ¬ (folder_name a ≡ folder_name p)
  new_folder a p ha stays e =
      let w = tells.wishes.marked a ha in
      let path : w.0.path ≡ package_file_path (id_of p) (name_of contents) = w.2 ∙ mark_path (id_of a) (id_of p) e in
      let some : IsSome (m (package_file_path (id_of p) (name_of contents))) = text_there (m (package_file_path (id_of p) (name_of contents))) ((db.says p stays.0).there contents refl) in
      let owns : Owns m p w.0.path = inr ((name_of contents, path), subst (λ (s : List ℕ). IsSome (m s)) (sym path) some) in
      true≢false (sym (owned_goes p w.0 stays.0 owns w.1) ∙ stays.1)

  may_come : MayCome m ps c
  may_come = record {
    step = record { removes = tells.removes; puts = tells.puts; apart = apart };
    own = record { apart = distinct_by key c.added one_folder tells.wishes.keys; new = new_folder };
  }

  module _ (h : ℕ) (d : Change) (vs : List Wish) (claim : IsClaimOf key b h d vs) where
    abbrev parts : books.ClaimValue
    parts = record { placed = vs; removed = d.does.content.removals }

    claimed_wish : (v : Wish) → Has vs v → IsClaimedBy b.claims v.path h
    claimed_wish v hv = (parts, claim.claimed, ap (λ (x : Bool). x || is_in d.does.content.removals v.path) (wished_if_has vs v hv))

    claimed_path : (q : List ℕ) → covers d.does q ≡ true → IsClaimedBy b.claims q h
    claimed_path q e = elim (covered_cases d q e) [
      | inl r ↦ (parts, claim.claimed, or_right (is_wished vs q) (is_in d.does.content.removals q) r)
      | inr p ↦ (let v = put_wished key d vs claim.wishes q p in subst (λ (s : List ℕ). IsClaimedBy b.claims s h) v.2 (claimed_wish v.0 v.1))
    ]

    apart_paths : (q : List ℕ) → covers c.does q ≡ true → ¬ (covers d.does q ≡ true)
    apart_paths q mine theirs = elim (covered_cases c q mine) [
      | inl r ↦ (taken.removable q r).unclaimed h (claimed_path q theirs)
      | inr p ↦ (let w = put_wished key c ws tells.wishes q p in
          (free_one w.0 w.1).1.passed.unclaimed h (subst (λ (s : List ℕ). IsClaimedBy b.claims s h) (sym w.2) (claimed_path q theirs)))
    ]

    are_beside : AreOnOtherLines ps c d → AreBeside ps c d
    are_beside lines = record {
      leaves = lines.leaves;
      first_stays = lines.first_stays;
      second_stays = lines.second_stays;
      paths_apart = apart_paths;
      folders_apart = λ p r hp hr e.
          let w = tells.wishes.marked p hp in
          let v = claim.wishes.marked r hr in
          (free_one w.0 w.1).1.passed.unclaimed h
          (subst (λ (s : List ℕ). IsClaimedBy b.claims s h) (v.2 ∙ sym (mark_path (id_of p) (id_of r) e) ∙ sym w.2) (claimed_wish v.0 v.1));
      flat = λ p r q s hp hr own theirs.
          let w = tells.wishes.recorded p q hp own in
          let v = claim.wishes.recorded r s hr theirs in
          let k = near_apart w.0.path v.0.path ((free_one w.0 w.1).1.apart v.0.path (inr (inl (h, claimed_wish v.0 v.1)))) in
          let at : (x : List ℕ) → x ≡ q → (y : List ℕ) → y ≡ s → (is_below x y ≡ false) × (is_below y x ≡ false) → (is_below q s ≡ false) × (is_below s q ≡ false) = λ x ex y ey n.
          subst (λ (t : List ℕ). (is_below q t ≡ false) × (is_below t q ≡ false)) ey (subst (λ (t : List ℕ). (is_below t y ≡ false) × (is_below y t ≡ false)) ex n) in
          at w.0.path w.2 v.0.path v.2 k;
    }

pub granted_claims_are_good : GrantedClaimsAreGood
granted_claims_are_good key b m ps c dying ws db owners tells taken = (
  may_come key b m ps c dying ws db owners tells taken,
  one_path key b m ps c dying ws db owners tells taken,
  λ h d vs claim lines. are_beside key b m ps c dying ws db owners tells taken h d vs claim lines,
)

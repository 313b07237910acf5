-- The owners that a book of packages has.
use Rattle.std.proofs.Common.{◌≡◌, ◌∙◌, ◌+◌, ◌<◌, ℕ, zero, suc, Bool, List, [], ◌∷◌, ◌++◌, Option, Some, Vec, Global, length, take, get_or, inl, inr, map, refl, ap, arith, subst, sym}
use Rattle.std.specs.Prelude.{IsSome, bytes_eq, if◌then◌else◌, is_some, slice_get}
use Rattle.std.specs.List.Sorted.{IsStrictlySortedBy}
use Rattle.std.proofs.lemmas.Bool.{cases_Bool, cond-false, cond-true}
use Rattle.std.proofs.lemmas.List.{length-take, take_more}
use Rattle.basics.specs.Members.{Has}
use Rattle.basics.proofs.Texts.{bytes_eq-apart, bytes_eq-same, not_less}
use Rattle.basics.proofs.Tests.{none_is_not_some}
use Rattle.pms_names.specs.Flags.{IsRising}
use Rattle.file_tree.specs.Disk.{Map}
use Rattle.file_tree.specs.PathSets.{is_in}
use Rattle.merge_record.specs.declared.record.OwnerKey.{OwnerKey}
use Rattle.file_tree.proofs.PathSets.{has_if_in, in_if_has}
use Rattle.owner_book.specs.Book.{Book, owner_among, owner_in}
use Rattle.vdb_law.specs.Database.{IsCounted, IsDatabase, IsOf, IsTidy, folder, folder_name}
use Rattle.vdb_law.specs.Packages.{Installed, id_of, paths}
use Rattle.vdb_law.specs.Step.{Owns}
use Rattle.vdb_law.proofs.Places.{all_less, cases_option, counted_dropped, counted_of, one_of_rising, path_free}
use Rattle.run_opening.proofs.Below.{one_name}
use Rattle.law_claim.specs.Owners.{OwnersAre}
use Rattle.law_run.specs.Openings.{AreOwners, key_among, key_at, place_of}
use Rattle.run_opening.specs.Rows.{AreRows, IsRow}

abbrev pub Rows : Type 0
Rows = List (OwnerKey × Vec (List ℕ) Global)

has_if_got : (ps : List Installed) (j : ℕ) (p : Installed) → slice_get ps j ≡ Some p → Has ps p
has_if_got [] j p e = absurd (cc e)
has_if_got (x ∷ ps) zero p e = inl (some_same x p e)
  where
    some_same : (a b : Installed) → ◌≡◌ {A = Option Installed} (Some a) (Some b) → a ≡ b
    some_same a b s = cc s
has_if_got (x ∷ ps) (suc j) p e = inr (has_if_got ps j p e)

-- the folder of the package at a place is there first
place_got : (ps : List Installed) (j : ℕ) (p : Installed) → IsRising (map folder_name ps) → slice_get ps j ≡ Some p → place_of (folder_name p) (map folder_name ps) ≡ j
unfolding IsStrictlySortedBy
place_got [] j p rising e = absurd (cc e)
place_got (x ∷ ps) zero p rising e =
    let same : x ≡ p = cc e in
    ap (λ (b : Bool). if b then 0 else suc (place_of (folder_name p) (map folder_name ps))) (ap (λ (y : Installed). bytes_eq (folder_name p) (folder_name y)) same ∙ bytes_eq-same (folder_name p))
place_got (x ∷ ps) (suc j) p rising e =
    let less = all_less (folder_name x) ps p rising.0 (has_if_got ps j p e) in
    let apart = bytes_eq-apart (folder_name p) (folder_name x) (λ same. not_less (folder_name x) (folder_name p) (sym same) less) in
    ap (λ (b : Bool). if b then 0 else suc (place_of (folder_name p) (map folder_name ps))) apart ∙ ap suc (place_got ps j p rising.1 e)

-- one row more
rows_behind : (m : Map) (place : ℕ) (ps : List Installed) (rows : Rows) (p : Installed) (row : OwnerKey × Vec (List ℕ) Global) → AreRows m place ps rows → IsRow m (place + length ps) p row.0 row.1.items → AreRows m place (ps ++ p ∷ []) (rows ++ row ∷ [])
rows_behind m place [] [] p row are is = let at : place + 0 ≡ place = omega arith in (subst (λ (n : ℕ). IsRow m n p row.0 row.1.items) at is, tt)
rows_behind m place [] (o ∷ os) p row are is = absurd are
rows_behind m place (x ∷ ps) [] p row are is = absurd are
rows_behind m place (x ∷ ps) (o ∷ os) p row are is =
    let at : place + suc (length ps) ≡ (place + 1) + length ps = omega arith in
    (are.0, rows_behind m (place + 1) ps os p row are.1 (subst (λ (n : ℕ). IsRow m n p row.0 row.1.items) at is))

pub rows_more : (m : Map) (ps : List Installed) (i : ℕ) (p : Installed) (rows new : Rows) (row : OwnerKey × Vec (List ℕ) Global) → i < length ps → p ≡ get_or ps i p → AreRows m 0 (take i ps) rows → IsRow m i p row.0 row.1.items → new ≡ rows ++ row ∷ [] → AreRows m 0 (take (i + 1) ps) new
rows_more m ps i p rows new row lt at are is made =
    let front : take (i + 1) ps ≡ take i ps ++ p ∷ [] = take_more ps i p lt ∙ ap (λ (x : Installed). take i ps ++ x ∷ []) (sym at) in
    let place : i ≡ 0 + length (take i ps) = omega (arith, length-take i ps) in
    subst (λ (l : List Installed). AreRows m 0 l new) (sym front) (subst (λ (r : Rows). AreRows m 0 (take i ps ++ p ∷ []) r) (sym made)
    (rows_behind m 0 (take i ps) rows p row are (subst (λ (n : ℕ). IsRow m n p row.0 row.1.items) place is)))

-- the path has an owner where a package of the list owns it
mine_in : (m : Map) (place : ℕ) (ps : List Installed) (rows : Rows) (p : Installed) (q : List ℕ) → AreRows m place ps rows → Has ps p → Owns m p q → IsSome (owner_among rows q)
mine_in m place [] rows p q are here owns = absurd here
mine_in m place (x ∷ ps) [] p q are here owns = absurd are
mine_in m place (x ∷ ps) (o ∷ os) p q are here owns =
    elim (cases_Bool (is_in o.1.items q)) [
      | inl e ↦ ap is_some (cond-true (is_in o.1.items q) (Some o.0) (owner_among os q) e)
      | inr e ↦ (
          ap is_some (cond-false (is_in o.1.items q) (Some o.0) (owner_among os q) e)
          ∙ elim here [
            | inl same ↦ absurd (let there = in_if_has o.1.items q ((are.0.owned q).1 (subst (λ (y : Installed). Owns m y q) (sym same) owns)) in cc (there, e))
            | inr other ↦ mine_in m (place + 1) ps os p q are.1 other owns
          ])
    ]

-- the owner of a path is a package of the list that owns it, by its place
record IsFound (m : Map) (place : ℕ) (ps : List Installed) (q : List ℕ) (k : OwnerKey) : Type 0 where
  behind : ℕ
  keyed : k ≡ key_at (place + behind)
  «package» : Installed
  there : slice_get ps behind ≡ Some «package»
  owns : Owns m «package» q

only_in : (m : Map) (place : ℕ) (ps : List Installed) (rows : Rows) (q : List ℕ) (k : OwnerKey) → AreRows m place ps rows → owner_among rows q ≡ Some k → IsFound m place ps q k
only_in m place [] [] q k are e = absurd (cc e)
only_in m place [] (o ∷ os) q k are e = absurd are
only_in m place (x ∷ ps) [] q k are e = absurd are
only_in m place (x ∷ ps) (o ∷ os) q k are e =
    elim (cases_Bool (is_in o.1.items q)) [
      | inl there ↦ (
          let is : Some o.0 ≡ Some k = sym (cond-true (is_in o.1.items q) (Some o.0) (owner_among os q) there) ∙ e in
          let same : o.0 ≡ k = cc is in
          let at : place ≡ place + 0 = omega arith in
          record { behind = 0; keyed = sym same ∙ (are.0.keyed ∙ ap key_at at); «package» = x; there = refl; owns = (are.0.owned q).0 (has_if_in o.1.items q there) })
      | inr none ↦ (
          let rest = only_in m (place + 1) ps os q k are.1 (sym (cond-false (is_in o.1.items q) (Some o.0) (owner_among os q) none) ∙ e) in
          let at : (place + 1) + rest.behind ≡ place + suc rest.behind = omega arith in
          record { behind = suc rest.behind; keyed = rest.keyed ∙ ap key_at at; «package» = rest.«package»; there = rest.there; owns = rest.owns })
    ]

module _ (m : Map) (ps : List Installed) (db : IsDatabase m ps) (tidy : IsTidy ps) where
  in_own : (r : Installed) (q : List ℕ) → Has ps r → IsOf (id_of r) q → IsCounted q
  in_own r q has is = subst IsCounted (sym is.1) (counted_of (id_of r) is.0 (db.ids r has))

  -- what is recorded is in no package's folder
  recorded_outside : (p r : Installed) (q : List ℕ) → Has ps p → Has ps r → Has (paths p) q → IsOf (id_of r) q → ⊥
  recorded_outside p r q hp hr recorded is =
      let dropped = counted_dropped q (in_own r q hr is) in
      let free = path_free (folder m (id_of p)) p q (db.says p hp) recorded in
      cc (dropped, free)

  one_folder : (p r : Installed) (q : List ℕ) → Has ps p → Has ps r → IsOf (id_of p) q → IsOf (id_of r) q → folder_name p ≡ folder_name r
  one_folder p r q hp hr a b = one_name (id_of p) (id_of r) a.0 b.0 (db.ids p hp) (db.ids r hr) (sym a.1 ∙ b.1)

  -- no path has two owners
  one_owner : (p r : Installed) (q : List ℕ) → Has ps p → Has ps r → Owns m p q → Owns m r q → p ≡ r
  one_owner p r q hp hr (inl a) (inl b) = tidy.once p r q hp hr a b
  one_owner p r q hp hr (inl a) (inr b) = absurd (recorded_outside p r q hp hr a b.0)
  one_owner p r q hp hr (inr a) (inl b) = absurd (recorded_outside r p q hr hp b a.0)
  one_owner p r q hp hr (inr a) (inr b) = one_of_rising ps p r db.rising hp hr (one_folder p r q hp hr a.0 b.0)

  found_key : (q : List ℕ) (k : OwnerKey) (f : IsFound m 0 ps q k) → k ≡ key_among ps f.«package»
  found_key q k f =
      let at : 0 + f.behind ≡ f.behind = omega arith in
      f.keyed ∙ (ap key_at at ∙ ap key_at (sym (place_got ps f.behind f.«package» db.rising f.there)))

  owners_are : (rows : Rows) (own : List ℕ → Option OwnerKey) → AreRows m 0 ps rows → ((q : List ℕ) → own q ≡ owner_among rows q) → OwnersAre (key_among ps) m ps own
  owners_are rows own are same = record {
    mine = λ p q has owns. elim (cases_option (owner_among rows q)) [
      | inl none ↦ absurd (none_is_not_some (owner_among rows q) none (mine_in m 0 ps rows p q are has owns))
      | inr one ↦ (
          let f = only_in m 0 ps rows q one.0 are one.1 in
          let mine : f.«package» ≡ p = one_owner f.«package» p q (has_if_got ps f.behind f.«package» f.there) has f.owns owns in
          same q ∙ (one.1 ∙ ap Some (found_key q one.0 f ∙ ap (key_among ps) mine)))
    ];
    only = λ q k e.
        (let f = only_in m 0 ps rows q k are (sym (same q) ∙ e) in
        (f.«package», has_if_got ps f.behind f.«package» f.there, f.owns, sym (found_key q k f)));
  }

  pub owners_of : (rows : Rows) (b : Book) → AreRows m 0 ps rows → ((q : List ℕ) → owner_in b.owned q ≡ owner_among rows q) → b.claims ≡ [] → AreOwners m ps b
  owners_of rows b are owners claims = record { unclaimed = claims; owners = owners_are rows (owner_in b.owned) are owners }

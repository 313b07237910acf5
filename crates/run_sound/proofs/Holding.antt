-- What the packages own behind a turn of a plan, and what is held for them.
use Rattle.std.proofs.Common.{◌≡◌, ◌∙◌, ◌↔◌, ℕ, Bool, true, false, List, [], ◌∷◌, Option, Some, ap, inl, inr, map, subst, sym}
use Rattle.std.specs.Prelude.{IsSome}
use Rattle.std.proofs.lemmas.Bool.{cases_Bool, cond-false, cond-true, or_parts, true≢false}
use Rattle.basics.specs.Members.{Has}
use Rattle.basics.proofs.Membership.{has-append_cases, has-map, has-map_back}
use Rattle.dep_atom.proofs.Joined.{ComesApart}
use Rattle.file_tree.specs.Disk.{Map}
use Rattle.file_tree.specs.ObjectValue.{ObjectValue}
use Rattle.merge_fit.specs.Images as images
use Rattle.merge_journal.specs.Group.{applied}
use Rattle.file_tree.specs.PathSets.{is_in}
use Rattle.merge_record.specs.declared.record.OwnerKey.{OwnerKey}
use Rattle.file_tree.proofs.PathSets.{in_if_has}
use Rattle.merge_site.specs.Booking.{wish_for}
use Rattle.owner_book.specs.Book as books
use Rattle.owner_book.specs.Book.{has, is_wished, key_in}
use Rattle.owner_book.specs.declared.wish.Wish.{Wish}
use Rattle.vdb_paths.proofs.Packages.{OneSpelling}
use Rattle.vdb_law.specs.Database.{IsOf, folder_name}
use Rattle.vdb_law.specs.Packages.{Installed, id_of}
use Rattle.vdb_law.specs.Step.{Change, Owns, Stays, put}
use Rattle.vdb_law.proofs.Law.{folder_stays, name_comes}
use Rattle.law_claim.specs.Owners.{Tells}
use Rattle.law_claim.specs.Settled.{owner_after}
use Rattle.law_claim.proofs.Lists.{wish_if_wished, wished_if_has}
use Rattle.merge_group.specs.Granted.{wishes_for, wishes_in, wishes_of}
use Rattle.merge_group.specs.Working.{all_in, all_of}
use Rattle.merge_group.specs.declared.files.Files.{Files}
use Rattle.law_package.specs.Packages.{AreFilesOf}
use Rattle.law_change.specs.Changes.{Exchange, IsExchange, IsOwnedTree, LeavesOwnedTree, change_by}
use Rattle.law_change.proofs.Pieces.{has-piece, has-piece_back}
use Rattle.law_change.proofs.Together.{all_wished, one_wished, own_wish}

-- a wish of some files has the key that they name
wish_owner : (f : Files) (v : Wish) → Has (wishes_in f) v → v.owner ≡ f.owner
wish_owner f v there = elim (has-append_cases (wishes_for f.owner false f.image.items) (wishes_for f.owner true f.folder.items) v there) [
  | inl i ↦ (let k = has-map_back (wish_for f.owner false) f.image.items v i in ap (λ (x : Wish). x.owner) (sym k.2))
  | inr o ↦ (let k = has-map_back (wish_for f.owner true) f.folder.items v o in ap (λ (x : Wish). x.owner) (sym k.2))
]

module _ (comes : ComesApart) (spells : OneSpelling) (key : Installed → OwnerKey) (m : Map) (ps : List Installed) (own : List ℕ → Option OwnerKey) (dying : OwnerKey → Bool) (n : ℕ) (x : Exchange)
    (tree : IsOwnedTree key m ps own) (is : IsExchange key m ps dying x) (tells : Tells key m ps (change_by n x) dying (wishes_of x.packages)) (left : LeavesOwnedTree key m ps own (change_by n x) (wishes_of x.packages)) where
  abbrev c : Change
  c = change_by n x

  abbrev new : Map
  new = applied m (c.does ∷ [])

  abbrev ws : List Wish
  ws = wishes_of x.packages

  abbrev parts : books.ClaimValue
  parts = record { placed = ws; removed = c.does.content.removals }

  abbrev mid : List Installed
  mid = left.packages

  -- ---- a package that stays

  stood : (p : Installed) (q : List ℕ) → Stays ps x.gone p → IsOf (id_of p) q → new q ≡ m q
  stood p q stays of =
      let step = left.comes.step in
      let same = folder_stays comes spells m ps x.added mid x.gone c.does tree.database tree.kept step.removes step.puts step.apart left.after p stays in
      ap new of.1 ∙ ap (λ (f : List ℕ → Option ObjectValue). f of.0) same ∙ sym (ap m of.1)

  owned_on : (p : Installed) (q : List ℕ) → Stays ps x.gone p → Owns m p q → Owns new p q
  owned_on p q stays (inl recorded) = inl recorded
  owned_on p q stays (inr there) = inr (there.0, subst (λ (o : Option ObjectValue). IsSome o) (sym (stood p q stays there.0)) there.1)

  owned_before : (p : Installed) (q : List ℕ) → Stays ps x.gone p → Owns new p q → Owns m p q
  owned_before p q stays (inl recorded) = inl recorded
  owned_before p q stays (inr there) = inr (there.0, subst (λ (o : Option ObjectValue). IsSome o) (stood p q stays there.0) there.1)

  -- it owns what it owned
  pub staying_owns : (p : Installed) (q : List ℕ) → Stays ps x.gone p → (Owns m p q ↔ Owns (applied m ((change_by n x).does ∷ [])) p q)
  staying_owns p q stays = (owned_on p q stays, owned_before p q stays)

  -- ---- a package that comes

  came : (a : Installed) (q : List ℕ) → Has x.added a → IsOf (id_of a) q → new q ≡ put c.does q
  came a q ha of =
      let step = left.comes.step in
      ap new of.1 ∙ name_comes comes spells m ps x.added mid x.gone c.does tree.database tree.kept step.removes step.puts step.apart left.after a ha of.0 ∙ sym (ap (put c.does) of.1)

  wished_if_placed : (q : List ℕ) → Has (map images.path_of (all_of x.packages)) q → is_wished ws q ≡ true
  wished_if_placed q there =
      let v = has-map_back books.path_of ws q (subst (λ (l : List (List ℕ)). Has l q) (sym (all_wished x.packages)) there) in
      ap (is_wished ws) (sym v.2) ∙ wished_if_has ws v.0 v.1

  module _ (a : Installed) (ha : Has x.added a) (f : Files) (hf : Has x.packages f) (are : AreFilesOf f a)
      (mine : (h : Files) → Has x.packages h → h.owner ≡ key a → h ≡ f)
      (one_folder : (r : Installed) → Has ps r → key r ≡ key a → folder_name r ≡ folder_name a) where
    -- what its files place it owns
    placed_owned : (q : List ℕ) → Has (map images.path_of (all_in f)) q → Owns new a q
    placed_owned q there =
        let e = has-map_back images.path_of (all_in f) q there in
        subst (λ (s : List ℕ). Owns new a s) e.2 (elim (has-append_cases f.image.items f.folder.items e.0 e.1) [
          | inl i ↦ inl (are.recorded e.0 i)
          | inr o ↦ (
              let of = are.inside e.0 o in
              let wish = has-piece wishes_in x.packages f (wish_for f.owner true e.0) hf (own_wish f e.0 o) in
              inr (of, subst (λ (y : Option ObjectValue). IsSome y) (sym (came a e.0.path ha of)) (tells.wishes.put (wish_for f.owner true e.0) wish)))
        ])

    wished_placed : (q : List ℕ) → (w : Wish) → Has ws w → w.path ≡ q → w.owner ≡ key a → Has (map images.path_of (all_in f)) q
    wished_placed q w hw at_q owner =
        let h = has-piece_back wishes_in x.packages w hw in
        let own_files = mine h.0 h.1 (sym (wish_owner h.0 w h.2) ∙ owner) in
        let here : Has (map images.path_of (all_in h.0)) w.path = subst (λ (l : List (List ℕ)). Has l w.path) (one_wished h.0) (has-map books.path_of (wishes_in h.0) w h.2) in
        subst (λ (s : List ℕ). Has (map images.path_of (all_in f)) s) at_q (subst (λ (y : Files). Has (map images.path_of (all_in y)) w.path) own_files here)

    -- a path that isn't changed isn't its own
    unchanged : (q : List ℕ) → has parts q ≡ false → own q ≡ Some (key a) → ⊥
    unchanged q e mine_before =
        let r = tree.owners.only q (key a) mine_before in
        let folder = one_folder r.0 r.1 r.3 in
        let none = or_parts (is_wished ws q) (is_in c.does.content.removals q) e in
        elim (cases_Bool (x.gone r.0)) [
          | inr stays ↦ left.comes.own.new a r.0 ha (r.1, stays) (sym folder)
          | inl goes ↦ (
              let out : Has (map images.path_of (all_of x.packages)) q → ⊥ = λ h. true≢false (sym (wished_if_placed q h) ∙ none.0) in
              let removed = (is.removes q).1 ((r.0, (r.1, goes), r.2), out) in
              true≢false (sym (in_if_has x.removals q removed) ∙ none.1))
        ]

    owned_placed : (q : List ℕ) → Owns new a q → Has (map images.path_of (all_in f)) q
    owned_placed q owns =
        let told : owner_after c ws own q ≡ Some (key a) = left.tree.owners.mine a q ((left.after.members a).1 (inr ha)) owns in
        elim (cases_Bool (has parts q)) [
          | inl e ↦ (
              let w = wish_if_wished ws q (key a) (sym (cond-true (has parts q) (key_in ws q) (own q) e) ∙ told) in
              wished_placed q w.0 w.1 w.2 w.3)
          | inr e ↦ absurd (unchanged q e (sym (cond-false (has parts q) (key_in ws q) (own q) e) ∙ told))
        ]

    -- it owns what its files place
    pub coming_owns : (q : List ℕ) → (Has (map images.path_of (all_in f)) q ↔ Owns (applied m ((change_by n x).does ∷ [])) a q)
    coming_owns q = (placed_owned q, owned_placed q)

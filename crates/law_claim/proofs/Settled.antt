-- Once a claim is settled, the owners are the packages of the tree with its group.
use Rattle.std.proofs.Common.{◌≡◌, ◌∙◌, ◌||◌, ℕ, Bool, true, false, List, [], ◌∷◌, Option, Some, None, inl, inr, refl, sym, ap, subst}
use Rattle.std.specs.Prelude.{IsSome, is_some}
use Rattle.std.proofs.lemmas.Bool.{cases_Bool, cond-false, cond-true, or_parts, true≢false}
use Rattle.std.proofs.lemmas.Option.{same_Some}
use Rattle.basics.specs.Members.{Has}
use Rattle.basics.proofs.Tests.{none_is_not_some, or_first}
use Rattle.file_tree.specs.Disk.{Map}
use Rattle.file_tree.specs.ObjectValue.{ObjectValue}
use Rattle.file_tree.specs.PathSets.{is_in}
use Rattle.merge_record.specs.declared.record.OwnerKey.{OwnerKey}
use Rattle.file_tree.proofs.PathSets.{has_if_in, in_if_has}
use Rattle.dep_atom.specs.Ids.{id_text}
use Rattle.dep_atom.proofs.Joined.{ComesApart}
use Rattle.owner_book.specs.Book as books
use Rattle.owner_book.specs.Book.{has, is_wished, key_in, settled_owner}
use Rattle.owner_book.specs.declared.wish.Wish.{Wish}
use Rattle.vdb_paths.proofs.Packages.{OneSpelling, one_id}
use Rattle.merge_journal.specs.Group.{applied}
use Rattle.vdb_law.specs.Database.{IsCounted, IsDatabase, IsKept, IsOf, folder, folder_name}
use Rattle.vdb_law.specs.Packages.{Installed, id_of}
use Rattle.vdb_law.specs.Step.{Change, IsAfter, Owns, Stays, put}
use Rattle.vdb_law.proofs.Law.{folder_stays, name_comes}
use Rattle.vdb_law.proofs.Places.{counted_dropped, counted_of, path_free}
use Rattle.law_commit.specs.Claims.{MayCome}
use Rattle.law_claim.specs.Granted.{AreOnce}
use Rattle.law_claim.specs.Owners.{IsWishOf, OwnersAre, Tells}
use Rattle.law_claim.specs.Settled.{SettledOwnersAre, owner_after}
use Rattle.law_claim.proofs.Granted.{one_by, put_placed, put_wished}
use Rattle.law_claim.proofs.Lists.{key_of_one, wish_if_wished, wished_if_has}

-- owners that say the same of each path are those of the same packages
pub owners_by : (key : Installed → OwnerKey) (m : Map) (ps : List Installed) (own its : List ℕ → Option OwnerKey) → ((q : List ℕ) → its q ≡ own q) → OwnersAre key m ps own → OwnersAre key m ps its
owners_by key m ps own its same are = record {
  mine = λ p q has owns. same q ∙ are.mine p q has owns;
  only = λ q k is. are.only q k (sym (same q) ∙ is);
}

module _ (comes : ComesApart) (spells : OneSpelling) (key : Installed → OwnerKey) (m : Map) (ps qs : List Installed) (c : Change) (dying : OwnerKey → Bool) (ws : List Wish) (own : List ℕ → Option OwnerKey)
    (db : IsDatabase m ps) (kept : IsKept m ps) (owners : OwnersAre key m ps own) (tells : Tells key m ps c dying ws) (may : MayCome m ps c) (once : AreOnce ws) (after : IsAfter ps c.gone c.added qs) where
  abbrev new : Map
  new = applied m (c.does ∷ [])

  abbrev parts : books.ClaimValue
  parts = record { placed = ws; removed = c.does.content.removals }

  settled_true : (q : List ℕ) → has parts q ≡ true → owner_after c ws own q ≡ key_in ws q
  settled_true q e = cond-true (has parts q) (key_in ws q) (own q) e

  settled_false : (q : List ℕ) → has parts q ≡ false → owner_after c ws own q ≡ own q
  settled_false q e = cond-false (has parts q) (key_in ws q) (own q) e

  wished_has : (w : Wish) → Has ws w → has parts w.path ≡ true
  wished_has w h = ap (λ (b : Bool). b || is_in c.does.content.removals w.path) (wished_if_has ws w h)

  -- what stands in a staying package's folder stood there before
  stood : (p : Installed) (q : List ℕ) → Stays ps c.gone p → IsOf (id_of p) q → new q ≡ m q
  stood p q stays of =
      let same = folder_stays comes spells m ps c.added qs c.gone c.does db kept may.step.removes may.step.puts may.step.apart after p stays in
      ap new of.1 ∙ ap (λ (f : List ℕ → Option ObjectValue). f of.0) same ∙ sym (ap m of.1)

  -- what stands in a coming package's folder was put
  came : (a : Installed) (q : List ℕ) → Has c.added a → IsOf (id_of a) q → new q ≡ put c.does q
  came a q ha of =
      ap new of.1 ∙ name_comes comes spells m ps c.added qs c.gone c.does db kept may.step.removes may.step.puts may.step.apart after a ha of.0 ∙ sym (ap (put c.does) of.1)

  some_not_none : (q : List ℕ) → put c.does q ≡ None → ¬ IsSome (put c.does q)
  some_not_none q none some = none_is_not_some (put c.does q) none some

  -- no wish is for a path that a staying package owns, and no removal
  untouched : (p : Installed) (q : List ℕ) → Stays ps c.gone p → Owns m p q → has parts q ≡ false
  untouched p q stays owns = elim (cases_Bool (has parts q)) [
    | inr e ↦ e
    | inl e ↦ elim (cases_Bool (is_in c.does.content.removals q)) [
      | inl r ↦ (let from = tells.removes.only q (has_if_in c.does.content.removals q r) in
          let one : key p ≡ key from.0 = same_Some (key p) (key from.0) (sym (owners.mine p q stays.0 owns) ∙ owners.mine from.0 q from.1.0 from.2) in
          absurd (true≢false (sym from.1.1 ∙ sym (tells.dies from.0 from.1.0) ∙ ap dying (sym one) ∙ tells.dies p stays.0 ∙ stays.1)))
      | inr n ↦ (let w = wished_one q (or_first (is_wished ws q) (is_in c.does.content.removals q) n e) in
          absurd (some_not_none q (may.step.apart.free p q stays owns) (subst (λ (s : List ℕ). IsSome (put c.does s)) w.2 (tells.wishes.put w.0 w.1))))
    ]
  ] where
    wished_one : (s : List ℕ) → is_wished ws s ≡ true → (w : Wish) × Has ws w × (w.path ≡ s)
    wished_one s e = go (key_in ws s) refl e where
      go : (o : Option OwnerKey) → key_in ws s ≡ o → is_some (key_in ws s) ≡ true → (w : Wish) × Has ws w × (w.path ≡ s)
      go None k e = absurd (let f : is_some {T = OwnerKey} None ≡ true = subst (λ (x : Option OwnerKey). is_some x ≡ true) k e in cc f)
      go (Some x) k e = (let r = wish_if_wished ws s x k in (r.0, r.1, r.2))

  -- a wish for a path of a coming package's folder is that package's
  folder_wish : (a p : Installed) (w : Wish) → Has c.added a → Has c.added p → IsWishOf a w → IsOf (id_of p) w.path → a ≡ p
  folder_wish a p w ha hp (inl recorded) of =
      let counted : IsCounted w.path = subst IsCounted (sym of.1) (counted_of (id_of p) of.0 (may.step.puts.ids p hp)) in
      absurd (true≢false (sym (counted_dropped w.path counted) ∙ path_free (folder (put c.does) (id_of a)) a w.path (may.step.puts.says a ha) recorded.1))
  folder_wish a p w ha hp (inr inside) of =
      one_by folder_name c.added a p may.own.apart ha hp (ap id_text (one_id comes spells (id_of a) (id_of p) inside.1.0 of.0 (may.step.puts.ids a ha) (may.step.puts.ids p hp) (sym inside.1.1 ∙ of.1)))

  told : (p : Installed) (q : List ℕ) (w : Wish) → Has ws w → w.path ≡ q → w.owner ≡ key p → owner_after c ws own q ≡ Some (key p)
  told p q w h at_q owner = subst (λ (s : List ℕ). owner_after c ws own s ≡ Some (key p)) at_q
      (settled_true w.path (wished_has w h) ∙ key_of_one ws w h (λ v hv e. once v w hv h e) ∙ ap (λ (k : OwnerKey). Some k) owner)

  mine : (p : Installed) (q : List ℕ) → Has qs p → Owns new p q → owner_after c ws own q ≡ Some (key p)
  mine p q hp owns = elim ((after.members p).0 hp) [
    | inl stays ↦ (let before = owned_before stays owns in settled_false q (untouched p q stays before) ∙ owners.mine p q stays.0 before)
    | inr added ↦ owned_by_wish added owns
  ] where
    owned_before : Stays ps c.gone p → Owns new p q → Owns m p q
    owned_before stays (inl recorded) = inl recorded
    owned_before stays (inr there) = inr (there.0, subst (λ (x : Option ObjectValue). IsSome x) (stood p q stays there.0) there.1)

    owned_by_wish : Has c.added p → Owns new p q → owner_after c ws own q ≡ Some (key p)
    owned_by_wish added (inl recorded) = (let w = tells.wishes.recorded p q added recorded in told p q w.0 w.1 w.2 w.3)
    owned_by_wish added (inr there) =
        let put_there : IsSome (put c.does q) = subst (λ (x : Option ObjectValue). IsSome x) (came p q added there.0) there.1 in
        let w = put_wished key c ws tells.wishes q (put_placed c q put_there) in
        let a = tells.wishes.each w.0 w.1 in
        let of : IsOf (id_of p) w.0.path = (there.0.0, w.2 ∙ there.0.1) in
        told p q w.0 w.1 w.2 (a.2 ∙ ap key (folder_wish a.0 p w.0 a.1 added a.3 of))

  only : (q : List ℕ) (k : OwnerKey) → owner_after c ws own q ≡ Some k → (p : Installed) × Has qs p × Owns new p q × (key p ≡ k)
  only q k e = elim (cases_Bool (has parts q)) [
    | inl inside ↦ (let w = wish_if_wished ws q k (sym (settled_true q inside) ∙ e) in
        let a = tells.wishes.each w.0 w.1 in
        (a.0, (after.members a.0).1 (inr a.1), subst (λ (s : List ℕ). Owns new a.0 s) w.2 (wish_owned a.0 w.0 a.1 w.1 a.3), sym a.2 ∙ w.3))
    | inr outside ↦ (let p = owners.only q k (sym (settled_false q outside) ∙ e) in
        let stays : c.gone p.0 ≡ false = still p.0 q p.1 p.2 outside in
        (p.0, (after.members p.0).1 (inl (p.1, stays)), owned_still p.0 q (p.1, stays) p.2, p.3))
  ] where
    wish_owned : (a : Installed) (w : Wish) → Has c.added a → Has ws w → IsWishOf a w → Owns new a w.path
    wish_owned a w ha hw (inl recorded) = inl recorded.1
    wish_owned a w ha hw (inr inside) = inr (inside.1, subst (λ (x : Option ObjectValue). IsSome x) (sym (came a w.path ha inside.1)) (tells.wishes.put w hw))

    owned_still : (p : Installed) (s : List ℕ) → Stays ps c.gone p → Owns m p s → Owns new p s
    owned_still p s stays (inl recorded) = inl recorded
    owned_still p s stays (inr there) = inr (there.0, subst (λ (x : Option ObjectValue). IsSome x) (sym (stood p s stays there.0)) there.1)

    -- a package that goes owns nothing that its group doesn't change
    still : (p : Installed) (s : List ℕ) → Has ps p → Owns m p s → has parts s ≡ false → c.gone p ≡ false
    still p s hp owns outside = elim (cases_Bool (c.gone p)) [
      | inr e ↦ e
      | inl e ↦ (let k = or_parts (is_wished ws s) (is_in c.does.content.removals s) outside in
          absurd (true≢false (sym (in_if_has c.does.content.removals s (tells.removes.all p s (hp, e) owns (unput s k.0))) ∙ k.1)))
    ] where
      unput : (t : List ℕ) → is_wished ws t ≡ false → put c.does t ≡ None
      unput t none = go (put c.does t) refl where
        go : (x : Option ObjectValue) → put c.does t ≡ x → put c.does t ≡ None
        go None f = f
        go (Some y) f =
            let w = put_wished key c ws tells.wishes t (put_placed c t (subst (λ (z : Option ObjectValue). IsSome z) (sym f) refl)) in
            absurd (true≢false (sym (ap (is_wished ws) (sym w.2) ∙ wished_if_has ws w.0 w.1) ∙ none))

pub settled_owners_are : ComesApart → OneSpelling → SettledOwnersAre
settled_owners_are comes spells key m ps qs c dying ws own db kept owners tells may once after = record {
  mine = mine comes spells key m ps qs c dying ws own db kept owners tells may once after;
  only = only comes spells key m ps qs c dying ws own db kept owners tells may once after;
}

-- One item more, among those without an atom or under its name.
use denote.Ref.{Bor}
use Rattle.std.proofs.Common.{◌≡◌, ◌∙◌, ◌++◌, ◌-◌, ◌≤◌, ℕ, Bool, true, false, cond, List, [], ◌∷◌, Option, Some, None, ap, append_assoc, arith, drop, filter, length, map, refl, subst, sym, take}
use Rattle.std.specs.Prelude.{bytes_eq}
use Rattle.std.specs.Option.{option_map_or}
use Rattle.std.proofs.lemmas.List.{drop-append-le, drop_all, length-append, length-drop, map-append, take-append-le, take_all}
use Rattle.std.proofs.lemmas.List.Elements.{filter-append}
use Rattle.dep_atom.specs.declared.atom.Atom.{Atom}
use Rattle.dep_atom.specs.declared.package.Facts.{Facts}
use Rattle.pkg_state.specs.Index.{listed, one_under}
use Rattle.profile_lines.specs.declared.item.Item.{Item}
use Rattle.visible_rules.specs.Index.{is_of}
use Rattle.visible_rules.specs.Items.{changes_for, counts_for, is_meant}
use Rattle.visible_rules.specs.Near.{AreNear, AreWithin, is_near, woven}
use Rattle.visible_rules.specs.declared.near.Near.{Near}
use Rattle.visible_rules.specs.declared.near.Placed.{Placed}
use Rattle.visible_rules.proofs.Naming.{filter_of_kind, of_name}

-- an item that counts for a package may count for those of its name
near_of_name : (facts : Facts) (o : Option Atom) → option_map_or (is_meant facts) o true ≡ true → option_map_or (is_of facts.id.name.«package») o true ≡ true
near_of_name facts None e = refl
near_of_name facts (Some atom) e = of_name facts atom e

-- a look at the items that may count is enough
pub changes_near : (facts : Facts) (items : List Item) → changes_for facts (filter (is_near facts.id.name.«package») items) ≡ changes_for facts items
changes_near facts items =
    ap (map (λ (i : Item). i.changes.items)) (filter_of_kind (counts_for facts) (is_near facts.id.name.«package») (λ i e. near_of_name facts i.atom e) items)

-- one more without an atom stands behind all
woven_plain : (plain : List (Bor Item)) (item : Bor Item) (from : ℕ) (ps : List Placed) → from ≤ length plain → AreWithin (length plain) ps → woven (plain ++ item ∷ []) from ps ≡ woven plain from ps ++ item ∷ []
woven_plain plain item from [] le all = drop-append-le from plain (item ∷ []) le
woven_plain plain item from (p ∷ ps) le all =
    let rest : List (Bor Item) = woven (plain ++ item ∷ []) p.before ps in
    let fits : p.before - from ≤ length (drop from plain) = omega (arith, all.0, length-drop from plain) in
    ap (λ (l : List (Bor Item)). take (p.before - from) l ++ p.item ∷ rest) (drop-append-le from plain (item ∷ []) le)
    ∙ (ap (λ (l : List (Bor Item)). l ++ p.item ∷ rest) (take-append-le (p.before - from) (drop from plain) (item ∷ []) fits)
    ∙ (ap (λ (l : List (Bor Item)). take (p.before - from) (drop from plain) ++ p.item ∷ l) (woven_plain plain item p.before ps all.0 all.1)
    ∙ sym (append_assoc (take (p.before - from) (drop from plain)) (p.item ∷ woven plain p.before ps) (item ∷ []))))

-- and so does one that stands behind all of these
woven_named : (plain : List (Bor Item)) (p : Placed) (from : ℕ) (ps : List Placed) → p.before ≡ length plain → woven plain from (ps ++ p ∷ []) ≡ woven plain from ps ++ p.item ∷ []
woven_named plain p from [] last =
    let enough : length (drop from plain) ≤ p.before - from = omega (arith, last, length-drop from plain) in
    let past : length plain ≤ p.before = omega (arith, last) in
    ap (λ (l : List (Bor Item)). l ++ p.item ∷ drop p.before plain) (take_all (p.before - from) (drop from plain) enough)
    ∙ ap (λ (l : List (Bor Item)). drop from plain ++ p.item ∷ l) (drop_all p.before plain past)
woven_named plain p from (q ∷ ps) last =
    ap (λ (l : List (Bor Item)). take (q.before - from) (drop from plain) ++ q.item ∷ l) (woven_named plain p q.before ps last)
    ∙ sym (append_assoc (take (q.before - from) (drop from plain)) (q.item ∷ woven plain q.before ps) (p.item ∷ []))

within_more : (m n : ℕ) → m ≤ n → (ps : List Placed) → AreWithin m ps → AreWithin n ps
within_more m n le [] all = tt
within_more m n le (p ∷ ps) all = (omega (arith, le, all.0), within_more m n le ps all.1)

within_append : (n : ℕ) (p : Placed) → p.before ≤ n → (ps : List Placed) → AreWithin n ps → AreWithin n (ps ++ p ∷ [])
within_append n p le [] all = (le, tt)
within_append n p le (q ∷ ps) all = (all.0, within_append n p le ps all.1)

nil_append : {A : Type 0} (xs : List A) → xs ++ [] ≡ xs
nil_append [] = refl
nil_append (x ∷ xs) = ap (λ (l : List _). x ∷ l) (nil_append xs)

-- what is near a name, with one item more
near_more : (name : List ℕ) (items : List Item) (item : Item) (o : Option Atom) → item.atom ≡ o → filter (is_near name) (items ++ item ∷ []) ≡ filter (is_near name) items ++ cond (option_map_or (is_of name) o true) (item ∷ []) []
near_more name items item o is =
    filter-append (is_near name) items (item ∷ []) ∙ ap (λ (x : Option Atom). filter (is_near name) items ++ cond (option_map_or (is_of name) x true) (item ∷ []) []) is

module _ (items : List Item) (item : Bor Item) (old new : Near) (so : AreNear items old) where
  -- an item without an atom
  pub near_plain : item.now.atom ≡ None → new.plain.items ≡ old.plain.items ++ item ∷ [] → new.named ≡ old.named → AreNear (items ++ item.now ∷ []) new
  near_plain without plain named = record {
    are = λ name.
        ap (map (λ (i : Bor Item). i.now)) (ap (λ (l : List (Bor Item)). woven l 0 (listed new.named.lists name)) plain
        ∙ (ap (λ n. woven (old.plain.items ++ item ∷ []) 0 (listed n.lists name)) named
        ∙ woven_plain old.plain.items item 0 (listed old.named.lists name) (omega arith) (so.within name)))
        ∙ (map-append (λ (i : Bor Item). i.now) (woven old.plain.items 0 (listed old.named.lists name)) (item ∷ [])
        ∙ (ap (λ (l : List Item). l ++ item.now ∷ []) (so.are name)
        ∙ sym (near_more name items item.now None without)));
    within = λ name.
        subst (λ n. AreWithin (length new.plain.items) (listed n.lists name)) (sym named)
        (within_more (length old.plain.items) (length new.plain.items) (omega (arith, ap length plain, length-append old.plain.items (item ∷ []))) (listed old.named.lists name) (so.within name));
  }

  -- and one with an atom
  module _ (atom : Atom) (p : Placed) (text : List ℕ) (has : item.now.atom ≡ Some atom) (text-is : text ≡ atom.name.«package») (last : p.before ≡ length old.plain.items) (one : p.item ≡ item) where
    woven_one : (b : Bool) (ps : List Placed) → map (λ i. i.now) (woven old.plain.items 0 (ps ++ cond b (p ∷ []) [])) ≡ map (λ i. i.now) (woven old.plain.items 0 ps) ++ cond b (item.now ∷ []) []
    woven_one true ps =
        ap (map (λ (i : Bor Item). i.now)) (woven_named old.plain.items p 0 ps last)
        ∙ (map-append (λ (i : Bor Item). i.now) (woven old.plain.items 0 ps) (p.item ∷ [])
        ∙ ap (λ (i : Bor Item). map (λ (i : Bor Item). i.now) (woven old.plain.items 0 ps) ++ i.now ∷ []) one)
    woven_one false ps =
        ap (λ (l : List Placed). map (λ (i : Bor Item). i.now) (woven old.plain.items 0 l)) (nil_append ps)
        ∙ sym (nil_append (map (λ (i : Bor Item). i.now) (woven old.plain.items 0 ps)))

    within_one : (b : Bool) (ps : List Placed) → AreWithin (length old.plain.items) ps → AreWithin (length old.plain.items) (ps ++ cond b (p ∷ []) [])
    within_one true ps all = within_append (length old.plain.items) p (omega (arith, last)) ps all
    within_one false ps all = subst (AreWithin (length old.plain.items)) (sym (nil_append ps)) all

    pub near_named : new.plain ≡ old.plain → ((name : List ℕ) → listed new.named.lists name ≡ listed old.named.lists name ++ one_under text name p) → AreNear (items ++ item.now ∷ []) new
    near_named plain put = record {
      are = λ name.
          ap (λ v. map (λ (i : Bor Item). i.now) (woven v.items 0 (listed new.named.lists name))) plain
          ∙ (ap (λ (l : List Placed). map (λ (i : Bor Item). i.now) (woven old.plain.items 0 l)) (put name)
          ∙ (woven_one (bytes_eq name text) (listed old.named.lists name)
          ∙ (ap (λ (l : List Item). l ++ cond (bytes_eq name text) (item.now ∷ []) []) (so.are name)
          ∙ (ap (λ (t : List ℕ). filter (is_near name) items ++ cond (bytes_eq name t) (item.now ∷ []) []) text-is
          ∙ sym (near_more name items item.now (Some atom) has)))));
      within = λ name.
          subst (λ v. AreWithin (length v.items) (listed new.named.lists name)) (sym plain)
          (subst (AreWithin (length old.plain.items)) (sym (put name))
          (within_one (bytes_eq name text) (listed old.named.lists name) (so.within name)));
    }

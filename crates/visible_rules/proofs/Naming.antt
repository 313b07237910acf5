-- Those that match a package are among those of its name.
use denote.Ref.{Bor}
use Rattle.std.proofs.Common.{◌≡◌, ◌∙◌, ◌++◌, ℕ, Bool, true, false, cond, List, [], ◌∷◌, Option, Some, None, ap, filter, map, refl, inl, inr, sym, subst}
use Rattle.std.specs.Prelude.{Vec, bytes_eq}
use Rattle.std.specs.Global.{Global}
use Rattle.std.specs.BTreeMap.{BTreeMap}
use Rattle.std.specs.List.{list_any}
use Rattle.std.specs.Option.{option_map_or}
use Rattle.std.proofs.lemmas.Bool.{cases_Bool}
use Rattle.std.proofs.lemmas.List.{map-append}
use Rattle.basics.proofs.Texts.{bytes_eq-swap}
use Rattle.dep_atom.specs.declared.atom.Atom.{Atom}
use Rattle.dep_atom.specs.declared.package.Facts.{Facts}
use Rattle.dep_atom.specs.Values.{atom_value}
use Rattle.pkg_state.specs.Index.{listed, one_under}
use Rattle.pkg_state.proofs.Lists.{any_map, any_of_kind}
use Rattle.pkg_state.proofs.Named.{same_package}
use Rattle.profile_lines.specs.declared.item.Item.{Item}
use Rattle.visible_rules.specs.Index.{AreUnder, is_item_of, is_line_of, is_of, with_item}
use Rattle.visible_rules.specs.Items.{has_match, is_meant}
use Rattle.visible_rules.specs.Keywords.{all_words, words_of}
use Rattle.visible_rules.specs.Heard.{Remembers}
use Rattle.visible_rules.specs.declared.said.Said.{Said}
use Rattle.visible_rules.specs.declared.line.KeywordLine.{KeywordLine}
use Rattle.std.specs.List.{flat_map}

-- an atom that matches a package is of its name
pub of_name : (facts : Facts) (atom : Atom) → is_meant facts atom ≡ true → is_of facts.id.name.«package» atom ≡ true
of_name facts atom e = bytes_eq-swap facts.id.name.«package» atom.name.«package» ∙ same_package (atom_value atom) facts [] e

item_of_name : (facts : Facts) (o : Option Atom) → option_map_or (is_meant facts) o false ≡ true → option_map_or (is_of facts.id.name.«package») o false ≡ true
item_of_name facts None e = absurd (cc e)
item_of_name facts (Some atom) e = of_name facts atom e

module _ {A : Type 0} (f g : A → Bool) (h : (x : A) → f x ≡ true → g x ≡ true) where
  -- those that pass are among those of a kind that each of them is of
  pub filter_of_kind : (xs : List A) → filter f (filter g xs) ≡ filter f xs
  filter_of_kind [] = refl
  filter_of_kind (x ∷ xs) = elim (cases_Bool (g x)) [
    | inl y ↦ ap (λ (b : Bool). filter f (cond b (x ∷ filter g xs) (filter g xs))) y ∙ ap (λ (l : List A). cond (f x) (x ∷ l) l) (filter_of_kind xs)
    | inr n ↦ elim (cases_Bool (f x)) [
      | inl e ↦ absurd (let r : true ≡ false = sym (h x e) ∙ n in cc r)
      | inr e ↦ ap (λ (b : Bool). filter f (cond b (x ∷ filter g xs) (filter g xs))) n ∙ (filter_of_kind xs ∙ sym (ap (λ (b : Bool). cond b (x ∷ filter f xs) (filter f xs)) e))
    ]
  ]

-- a look at the items of the name is enough
pub match_under : (items : List Item) (lists : BTreeMap (Bor (List ℕ)) (Vec (Bor Item) Global)) (facts : Facts) (name : List ℕ) (found : List (Bor Item))
    → AreUnder is_item_of items lists → name ≡ facts.id.name.«package» → found ≡ listed lists name → list_any (λ i. has_match facts i.now) found ≡ list_any (has_match facts) items
match_under items lists facts name found are is those =
    sym (any_map (has_match facts) (λ (i : Bor Item). i.now) found)
    ∙ (ap (list_any (has_match facts)) (ap (map (λ (i : Bor Item). i.now)) those ∙ (are name ∙ ap (λ (n : List ℕ). filter (is_item_of n) items) is))
    ∙ any_of_kind (has_match facts) (is_item_of facts.id.name.«package») (λ i e. item_of_name facts i.atom e) items)

-- the lines of the name have all the words
words_under : (bare : List (List ℕ)) (lines : List KeywordLine) (lists : BTreeMap (Bor (List ℕ)) (Vec (Bor KeywordLine) Global)) (facts : Facts)
    → AreUnder is_line_of lines lists → all_words bare facts (map (λ l. l.now) (listed lists facts.id.name.«package»)) ≡ all_words bare facts lines
words_under bare lines lists facts are =
    ap (all_words bare facts) (are facts.id.name.«package»)
    ∙ ap (flat_map (words_of bare)) (filter_of_kind (λ l. is_meant facts l.atom) (is_line_of facts.id.name.«package») (λ l e. of_name facts l.atom e) lines)

-- an item that is put under its atom's name stands there behind the others
pub put_item : (name other : List ℕ) (old new : List (Bor Item)) (item : Bor Item) (atom : Atom) → item.now.atom ≡ Some atom → name ≡ atom.name.«package»
    → new ≡ old ++ one_under name other item → map (λ i. i.now) new ≡ with_item other (map (λ i. i.now) old) item.now
put_item name other old new item atom has is put =
    ap (map (λ (i : Bor Item). i.now)) put
    ∙ (placed (bytes_eq other name)
    ∙ (ap (λ (n : List ℕ). cond (bytes_eq other n) (map (λ (i : Bor Item). i.now) old ++ item.now ∷ []) (map (λ (i : Bor Item). i.now) old)) is
    ∙ sym (ap (λ (o : Option Atom). cond (option_map_or (is_of other) o false) (map (λ (i : Bor Item). i.now) old ++ item.now ∷ []) (map (λ (i : Bor Item). i.now) old)) has))) where
      nil : (xs : List (Bor Item)) → map (λ i. i.now) (xs ++ []) ≡ map (λ i. i.now) xs
      nil [] = refl
      nil (x ∷ xs) = ap (λ (l : List Item). x.now ∷ l) (nil xs)

      placed : (b : Bool) → map (λ i. i.now) (old ++ cond b (item ∷ []) []) ≡ cond b (map (λ i. i.now) old ++ item.now ∷ []) (map (λ i. i.now) old)
      placed true = map-append (λ (i : Bor Item). i.now) old (item ∷ [])
      placed false = nil old

-- what is remembered of the lines of the name is remembered of all
pub heard_under : (said : Said) (bare : List (List ℕ)) (lines : List KeywordLine) (lists : BTreeMap (Bor (List ℕ)) (Vec (Bor KeywordLine) Global)) (facts : Facts)
    → AreUnder is_line_of lines lists → Remembers said (all_words bare facts (map (λ l. l.now) (listed lists facts.id.name.«package»))) → Remembers said (all_words bare facts lines)
heard_under said bare lines lists facts are heard = subst (Remembers said) (words_under bare lines lists facts are) heard

-- What a package neither names nor is called like can't meet it, and can't stand in its way.
use Rattle.std.proofs.Common.{◌≡◌, ◌∙◌, ◌<◌, ◌||◌, ◌&&◌, ◌++◌, ℕ, Bool, true, false, List, [], Option, Some, ap, arith, get_or, inl, inr, length, refl, subst, sym}
use Rattle.std.specs.Prelude.{bytes_eq}
use Rattle.std.specs.Option.{option_map_or}
use Rattle.std.proofs.Math.Bool.{and-false}
use Rattle.std.proofs.lemmas.Bool.{cases_Bool, or_from}
use Rattle.std.proofs.lemmas.List.{length-map}
use Rattle.basics.specs.Members.{Has}
use Rattle.basics.proofs.Membership.{has-append_left, has-append_right, has-filter}
use Rattle.dep_atom.specs.Ids.{id_text}
use Rattle.dep_atom.specs.Match.{value_matches}
use Rattle.dep_atom.specs.Values.{AtomValue}
use Rattle.dep_tree.specs.Grammar.{is_block}
use Rattle.pkg_state.specs.Consistent.{class_blocks, leaves_in}
use Rattle.pkg_state.specs.Package.{Package}
use Rattle.pkg_state.specs.declared.class.Class.{Class}
use Rattle.pkg_state.specs.declared.class.Class.TheVariants.{Bdepend, Depend, Idepend, Pdepend, Rdepend}
use Rattle.pkg_state.proofs.Lists.{any_none, none_passes}
use Rattle.pkg_state.proofs.Named.{same_package}
use Rattle.choice_law.specs.Universe.{conflicts, no_offer}
use Rattle.choice_tree.specs.Keys.{AreKeyed, Lists, has_key, keyed, lines_at, names_in, offers_in, offers_key}
use Rattle.choice_tree.specs.Open.{classes}
use Rattle.choice_tree.specs.Places.{Place, is_one, no_place, numbers, package_in}
use Rattle.choice_tree.specs.declared.key.Key.{Key}
use Rattle.choice_tree.specs.declared.key.Key.TheVariants.{Leaf, Whole}
use Rattle.choice_tree.proofs.Numbers.{has_numbers}
use Rattle.choice_tree.proofs.Under.{bytes_swap, stands_offered}
use Rattle.choice_walk.specs.Settled.{lines_about, lines_around}

each_class : (class : Class) → Has classes class
each_class Rdepend = inl refl
each_class Pdepend = inr (inl refl)
each_class Depend = inr (inr (inl refl))
each_class Bdepend = inr (inr (inr (inl refl)))
each_class Idepend = inr (inr (inr (inr (inl refl))))

module _ (p q : Package) (unnamed : has_key Leaf q.facts.id.name.«package» p ≡ false) where
  pub no_leaf : (class : Class) (a : AtomValue) → Has (leaves_in class p) a → (asker : List (List ℕ)) → value_matches a q.facts asker ≡ false
  no_leaf class a has asker = elim (cases_Bool (value_matches a q.facts asker)) [
    | inl y ↦ (
        let name = q.facts.id.name.«package» in
        let off = none_passes (names_in name p) classes unnamed class (each_class class) in
        let differs : bytes_eq name a.name.«package» ≡ false = none_passes (λ (b : AtomValue). bytes_eq name b.name.«package») (leaves_in class p) off a has in
        absurd (let r : true ≡ false = sym (bytes_swap a.name.«package» name true (same_package a q.facts asker y)) ∙ differs in cc r))
    | inr n ↦ n
  ]

  no_block : (class : Class) → class_blocks class p q ≡ false
  no_block class = any_none (λ (a : AtomValue). is_block a && value_matches a q.facts p.facts.enabled) (leaves_in class p) (λ a has.
      ap (λ (b : Bool). is_block a && b) (no_leaf class a has p.facts.enabled) ∙ and-false (is_block a))

  pub no_conflict : (new : Bool) → has_key Whole (id_text q.facts.id) p ≡ false → conflicts new p q ≡ false
  no_conflict new untold =
      let built : (class_blocks Depend p q || (class_blocks Bdepend p q || class_blocks Idepend p q)) ≡ false = or_from _ _ (no_block Depend) (or_from _ _ (no_block Bdepend) (no_block Idepend)) in
      or_from _ _ (no_block Rdepend) (or_from _ _ (no_block Pdepend)
      (or_from _ _ (ap (λ (b : Bool). new && b) built ∙ and-false new) (bytes_swap (id_text q.facts.id) (id_text p.facts.id) false untold)))

-- the package neither names what stands there nor is called like it
abbrev pub IsUnseen : Package → Place → Type 0
IsUnseen p s =
    (q : Package) → package_in s ≡ Some q → (has_key Leaf q.facts.id.name.«package» p ≡ false) × (has_key Whole (id_text q.facts.id) p ≡ false)

-- under a text where the line doesn't stand its package hasn't the key
unkeyed : (key : Key) (text : List ℕ) (ss : List Place) (lists : Lists) (l : ℕ) (p : Package) → AreKeyed key (offers_in ss) lists → l < length ss → package_in (get_or ss l no_place) ≡ Some p → (Has (lines_at lists text) l → ⊥) → has_key key text p ≡ false
unkeyed key text ss lists l p are less stands off = elim (cases_Bool (has_key key text p)) [
  | inl y ↦ (
      let long = length-map ss (λ (s : Place). s.offer) in
      let here : offers_key key text (get_or (offers_in ss) l no_offer) ≡ true = stands_offered (has_key key text) ss l (ap (is_one (has_key key text)) stands ∙ y) in
      let among : Has (keyed key (offers_in ss) text (length (offers_in ss))) l =
      has-filter (λ (k : ℕ). offers_key key text (get_or (offers_in ss) k no_offer)) (numbers (length (offers_in ss)) 0) l (has_numbers (length (offers_in ss)) 0 l (omega arith) (omega (arith, long, less))) here in
      absurd (off (subst (λ (ls : List ℕ). Has ls l) (sym (are text)) among)))
  | inr n ↦ n
]

-- a line that isn't around doesn't see what stands there
pub unseen : (ss : List Place) (leaves texts : Lists) (l : ℕ) (p : Package) (s : Place) → AreKeyed Leaf (offers_in ss) leaves → AreKeyed Whole (offers_in ss) texts → l < length ss → package_in (get_or ss l no_place) ≡ Some p → (Has (lines_around leaves texts s) l → ⊥) → IsUnseen p s
unseen ss leaves texts l p s are_leaves are_told less stands off q there =
    let named = lines_at leaves q.facts.id.name.«package» in
    let told = lines_at texts (id_text q.facts.id) in
    let none : Has (named ++ told) l → ⊥ = λ (h : Has (named ++ told) l). off (subst (λ (o : Option Package). Has (option_map_or (lines_about leaves texts) o []) l) (sym there) h) in (
      unkeyed Leaf q.facts.id.name.«package» ss leaves l p are_leaves less stands (λ h. none (has-append_left named told l h)),
      unkeyed Whole (id_text q.facts.id) ss texts l p are_told less stands (λ h. none (has-append_right named told l h)),
    )

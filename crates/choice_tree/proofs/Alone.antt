-- A line of which nothing is under its text, and nothing is blocked by what stands there.
use denote.Ref.{Bor}
use Rattle.std.proofs.Common.{◌≡◌, ◌∙◌, ◌<◌, ◌||◌, ◌&&◌, ℕ, zero, suc, Bool, true, false, not, List, [], ◌∷◌, Option, None, Some, ap, arith, get_or, inl, inr, length, map, nat_eq, refl, sym}
use Rattle.std.specs.Prelude.{bytes_eq, string_bytes, unwrap_or}
use Rattle.std.specs.List.{find, list_any}
use Rattle.std.specs.Option.{option_map}
use Rattle.std.proofs.lemmas.Bool.{and_parts, cases_Bool}
use Rattle.std.proofs.lemmas.List.{length-map}
use Rattle.basics.specs.Members.{Has}
use Rattle.dep_atom.specs.Ids.{id_text}
use Rattle.dep_atom.specs.Match.{value_matches}
use Rattle.dep_atom.specs.Values.{atom_value}
use Rattle.dep_atom.specs.declared.atom.Atom.{Atom}
use Rattle.dep_tree.specs.Truth.{some_match}
use Rattle.pkg_state.specs.Consistent.{facts_of}
use Rattle.pkg_state.specs.Package.{Package}
use Rattle.pkg_state.proofs.Lists.{any_none, none_passes, not_found}
use Rattle.choice_law.specs.Tree.{conflict}
use Rattle.choice_law.specs.Universe.{conflicts, is_new, same_version}
use Rattle.choice_tree.specs.Blocks.{blocks_of, hit}
use Rattle.choice_tree.specs.Keys.{AreKeyed, Lists, has_key, lines_at, offers_in}
use Rattle.choice_tree.specs.Open.{is_open_of, opposes}
use Rattle.choice_tree.specs.Places.{Place, is_one, no_place, numbers, package_in, packages_in, value_in}
use Rattle.choice_tree.specs.Seen.{place_of, places_of}
use Rattle.choice_tree.specs.declared.key.Key.TheVariants.{Whole}
use Rattle.choice_tree.specs.declared.place.Place.{Place as ThePlace}
use Rattle.choice_tree.specs.declared.standing.Standing.{Standing}
use Rattle.choice_tree.proofs.Conflicts.{conflicts_are}
use Rattle.choice_tree.proofs.Numbers.{get_mapped, has_numbers, numbers_have}
use Rattle.choice_tree.proofs.Packages.{any_here}
use Rattle.choice_tree.proofs.Under.{any_keyed, stands_offered}

has_get : {A : Type 0} (xs : List A) (m : ℕ) (d : A) → m < length xs → Has xs (get_or xs m d)
has_get [] m d less = absurd (omega (arith, less))
has_get (x ∷ xs) zero d less = inl refl
has_get (x ∷ xs) (suc m) d less = inr (has_get xs m d (omega (arith, less)))

and_true : (b : Bool) → (b && true) ≡ b
and_true true = refl
and_true false = refl

and_false : (b : Bool) → (b && false) ≡ false
and_false true = refl
and_false false = refl

module _ (ss : List Place) (l : ℕ) (p : Package) (stands : package_in (get_or ss l no_place) ≡ Some p) where
  abbrev new : Bool
  new = is_new (value_in (get_or ss l no_place))

  module _ (off : list_any (some_match (facts_of (packages_in ss)) p.facts.enabled) (blocks_of new p) ≡ false) (apart : list_any (λ m. not (nat_eq l m) && is_one (same_version p) (package_in (get_or ss m no_place))) (numbers (length ss) 0) ≡ false) (m : ℕ) (less : m < length ss) where
    abbrev test : Package → Bool
    test q = opposes q (get_or ss l no_place)

    unhit : (q : Package) → package_in (get_or ss m no_place) ≡ Some q → hit (blocks_of new p) p q ≡ false
    unhit q e = any_none (λ a. value_matches a q.facts p.facts.enabled) (blocks_of new p) (λ a has.
        let none = none_passes (some_match (facts_of (packages_in ss)) p.facts.enabled) (blocks_of new p) off a has in
        let by_line = sym (any_here (λ f. value_matches a f p.facts.enabled) ss) ∙ none in
        sym (ap (is_one (λ (r : Package). value_matches a r.facts p.facts.enabled)) e)
        ∙ none_passes (λ (s : Place). is_one (λ (r : Package). value_matches a r.facts p.facts.enabled) (package_in s)) ss by_line (get_or ss m no_place) (has_get ss m no_place less))

    opposed : (q : Package) → package_in (get_or ss m no_place) ≡ Some q → test q ≡ same_version p q
    opposed q e = ap (is_one (λ (r : Package). conflicts new r q)) stands
        ∙ (sym (conflicts_are p q new) ∙ ap (λ (b : Bool). b || same_version p q) (unhit q e))

    by_package : (x : Option Package) → package_in (get_or ss m no_place) ≡ x → is_open_of ss (conflict l m) ≡ false
    by_package None e = ap (λ (y : Option Package). not (nat_eq l m) && is_one test y) e ∙ and_false (not (nat_eq l m))
    by_package (Some q) e = elim (cases_Bool (same_version p q)) [
      | inl same ↦ (
          let here = none_passes (λ (k : ℕ). not (nat_eq l k) && is_one (same_version p) (package_in (get_or ss k no_place))) (numbers (length ss) 0) apart m (has_numbers (length ss) 0 m (omega arith) (omega (arith, less))) in
          let it : (not (nat_eq l m) && true) ≡ false = ap (λ (b : Bool). not (nat_eq l m) && b) (sym (ap (is_one (same_version p)) e ∙ same)) ∙ here in
          ap (λ (b : Bool). b && is_one test (package_in (get_or ss m no_place))) (sym (and_true (not (nat_eq l m))) ∙ it))
      | inr differs ↦ ap (λ (y : Option Package). not (nat_eq l m) && is_one test y) e
          ∙ (ap (λ (b : Bool). not (nat_eq l m) && b) (opposed q e ∙ differs) ∙ and_false (not (nat_eq l m)))
    ]

    pub calm : is_open_of ss (conflict l m) ≡ false
    calm = by_package (package_in (get_or ss m no_place)) refl

-- the same in the words of the code
pub calm_line : (ps : List ThePlace) (l : ℕ) (x : ThePlace) (s : Standing) (lists : Lists) (text lines : List ℕ) (atoms : List (Bor Atom))
    → l < length ps → x ≡ get_or ps l x → (get_or ps l x).standing ≡ Some s → AreKeyed Whole (offers_in (places_of ps)) lists → lines ≡ lines_at lists text → text ≡ string_bytes s.text → atoms ≡ s.blocks.items
    → list_any (λ m. not (nat_eq l m) && is_one (λ q. bytes_eq text (id_text q.facts.id)) (package_in (get_or (places_of ps) m no_place))) lines ≡ false
    → list_any (some_match (facts_of (packages_in (places_of ps))) s.owner.now.facts.enabled) (map (λ a. atom_value a.now) atoms) ≡ false
    → (m : ℕ) → m < length ps → is_open_of (places_of ps) (conflict l m) ≡ false
calm_line ps l x s lists text lines atoms less is at_line told found said blocks apart off m below =
    let ss = places_of ps in
    let p = s.owner.now in
    let there : x.standing ≡ Some s = ap (λ (t : ThePlace). t.standing) is ∙ at_line in
    let here : get_or ss l no_place ≡ place_of x = get_mapped place_of ps l x no_place less ∙ ap place_of (sym is) in
    let stands : package_in (place_of x) ≡ Some p = sym x.stands ∙ ap (option_map (λ (t : Standing). t.owner.now)) there in
    let newness : s.is_new ≡ is_new (value_in (place_of x)) =
    ap (λ (o : Option Bool). unwrap_or o false) (sym (ap (option_map (λ (t : Standing). t.is_new)) there) ∙ (x.newness ∙ ap (option_map (λ (r : Package). is_new (value_in (place_of x)))) stands)) in
    let new_here : s.is_new ≡ is_new (value_in (get_or ss l no_place)) = newness ∙ ap (λ (t : Place). is_new (value_in t)) (sym here) in
    let own : map (λ a. atom_value a.now) atoms ≡ blocks_of (is_new (value_in (get_or ss l no_place))) p =
    ap (map (λ (a : Bor Atom). atom_value a.now)) blocks ∙ (s.own_blocks ∙ ap (λ (b : Bool). blocks_of b p) new_here) in
    let long : length ss ≡ length ps = length-map ps place_of in
    let other : ℕ → Bool = λ (k : ℕ). not (nat_eq l k) && is_one (λ (q : Package). bytes_eq text (id_text q.facts.id)) (package_in (get_or ss k no_place)) in
    let none : list_any other (numbers (length ss) 0) ≡ false =
    sym (any_keyed Whole text ss lists told other (λ k e. stands_offered (has_key Whole text) ss k (and_parts (not (nat_eq l k)) (is_one (has_key Whole text) (package_in (get_or ss k no_place))) e).1))
    ∙ (ap (list_any other) (sym found) ∙ apart) in
    calm ss l p (ap package_in here ∙ stands)
    (ap (list_any (some_match (facts_of (packages_in ss)) p.facts.enabled)) (sym own) ∙ off)
    (ap (λ (t : List ℕ). list_any (λ k. not (nat_eq l k) && is_one (λ q. bytes_eq t (id_text q.facts.id)) (package_in (get_or ss k no_place))) (numbers (length ss) 0)) (sym (said ∙ s.own_text)) ∙ none) m (omega (arith, long, below))

pub none_of_numbers : (test : ℕ → Bool) (n : ℕ) → ((m : ℕ) → m < n → test m ≡ false) → None ≡ find test (numbers n 0)
none_of_numbers test n none = sym (not_found test (numbers n 0) (any_none test (numbers n 0) (λ m has. let r = numbers_have n 0 m has in none m (omega (arith, r.1)))))

-- A line of which nothing is open stays so, where what changes is none of its package's concern.
use Rattle.std.proofs.Common.{◌≡◌, ◌≢◌, ◌∙◌, ◌&&◌, ◌||◌, ◌++◌, ℕ, Bool, false, cond, not, List, Option, None, Some, ap, get_or, inl, inr, length, map, nat_eq, refl, sym}
use Rattle.std.specs.List.{find, list_any}
use Rattle.std.specs.Option.{option_map, option_or}
use Rattle.std.proofs.lemmas.Bool.Decides.{eqb_tells}
use Rattle.std.proofs.lemmas.List.Folds.{find-append}
use Rattle.basics.specs.Members.{Has}
use Rattle.pms_names.specs.Flags.{has}
use Rattle.dep_atom.specs.Match.{value_matches}
use Rattle.dep_atom.specs.Values.{AtomValue}
use Rattle.dep_atom.specs.declared.package.Facts.{Facts}
use Rattle.dep_tree.specs.Grammar.{is_block}
use Rattle.dep_tree.specs.Truth.{is_fact, some_match}
use Rattle.pkg_state.specs.Consistent.{facts_of, fits_required, is_met, leaves_in}
use Rattle.pkg_state.specs.Package.{Package, tree_of}
use Rattle.pkg_state.specs.declared.class.Class.{Class}
use Rattle.pkg_state.proofs.Lists.{find_map}
use Rattle.choice_law.specs.Tree.{Obligation, conflict, required, tree}
use Rattle.choice_law.specs.Universe.{conflicts, counts, is_new}
use Rattle.choice_tree.specs.Open.{classes, is_open_of, obligations_of, opposes}
use Rattle.choice_tree.specs.Places.{Place, is_one, no_place, numbers, package_in, packages_in, value_in}
use Rattle.choice_tree.proofs.Packages.{any_here}
use Rattle.choice_tree.proofs.Under.{any_numbered}
use Rattle.choice_walk.proofs.SameLeaves.{same_all}
use Rattle.choice_walk.proofs.Unseen.{IsUnseen, no_conflict, no_leaf}

-- what is the same of each obligation is the same of the first that is open
same_found : (f g : Obligation → Bool) (n l : ℕ) → f (required l) ≡ g (required l) → ((k : ℕ) → f (conflict l k) ≡ g (conflict l k)) → ((class : Class) → f (tree l class) ≡ g (tree l class)) → find f (obligations_of n l) ≡ find g (obligations_of n l)
same_found f g n l first second third =
    let others = map (λ (k : ℕ). conflict l k) (numbers n 0) in
    let needs = map (λ (class : Class). tree l class) classes in
    let by_others : (λ (k : ℕ). f (conflict l k)) ≡ (λ (k : ℕ). g (conflict l k)) = λ i k. second k i in
    let by_needs : (λ (class : Class). f (tree l class)) ≡ (λ (class : Class). g (tree l class)) = λ i class. third class i in
    let same_others : find f others ≡ find g others =
    find_map f (λ (k : ℕ). conflict l k) (numbers n 0) ∙ (ap (λ (t : ℕ → Bool). option_map (λ (k : ℕ). conflict l k) (find t (numbers n 0))) by_others ∙ sym (find_map g (λ (k : ℕ). conflict l k) (numbers n 0))) in
    let same_needs : find f needs ≡ find g needs =
    find_map f (λ (class : Class). tree l class) classes ∙ (ap (λ (t : Class → Bool). option_map (λ (class : Class). tree l class) (find t classes)) by_needs ∙ sym (find_map g (λ (class : Class). tree l class) classes)) in
    ap (λ (b : Bool). cond b (Some (required l)) (find f (others ++ needs))) first
    ∙ ap (λ (o : Option Obligation). cond (g (required l)) (Some (required l)) o)
    (find-append f others needs ∙ (ap (λ (o : Option Obligation). option_or o (find f needs)) same_others
    ∙ (ap (λ (o : Option Obligation). option_or (find g others) o) same_needs ∙ sym (find-append g others needs))))

same_met : (p : Package) (class : Class) (one two : List Facts) → ((a : AtomValue) → Has (leaves_in class p) a → some_match one p.facts.enabled a ≡ some_match two p.facts.enabled a) → is_met one class p ≡ is_met two class p
same_met p class one two each =
    same_all (tree_of class p).empty_holds (has p.facts.enabled) (is_fact one p.facts.enabled) (is_fact two p.facts.enabled) (tree_of class p).groups (λ a h. ap (λ (b : Bool). is_block a || b) (each a h))

-- another line than l has changed, and its package sees neither what stood nor what stands there
module _ (ss ts : List Place) (m l : ℕ) (long : length ts ≡ length ss) (others : (k : ℕ) → k ≢ m → get_or ts k no_place ≡ get_or ss k no_place) (apart : l ≢ m) (before : (p : Package) → package_in (get_or ss l no_place) ≡ Some p → IsUnseen p (get_or ss m no_place)) (after : (p : Package) → package_in (get_or ss l no_place) ≡ Some p → IsUnseen p (get_or ts m no_place)) where
  abbrev s : Place
  s = get_or ss l no_place

  here : get_or ts l no_place ≡ s
  here = others l apart

  -- a test that fails at the changed line in both
  same_look : (g : Place → Bool) → g (get_or ss m no_place) ≡ false → g (get_or ts m no_place) ≡ false → (k : ℕ) → g (get_or ts k no_place) ≡ g (get_or ss k no_place)
  same_look g old new k = elim (eqb_tells k m) [
    | inl r ↦ ap (λ (n : ℕ). g (get_or ts n no_place)) r.1 ∙ (new ∙ (sym old ∙ ap (λ (n : ℕ). g (get_or ss n no_place)) (sym r.1)))
    | inr r ↦ ap g (others k r.1)
  ]

  same_any : (g : Place → Bool) → g (get_or ss m no_place) ≡ false → g (get_or ts m no_place) ≡ false → list_any g ts ≡ list_any g ss
  same_any g old new =
      let by_line : (λ (k : ℕ). g (get_or ts k no_place)) ≡ (λ (k : ℕ). g (get_or ss k no_place)) = λ i k. same_look g old new k i in
      any_numbered g ts
      ∙ (ap (λ (n : ℕ). list_any (λ (k : ℕ). g (get_or ts k no_place)) (numbers n 0)) long
      ∙ (ap (λ (t : ℕ → Bool). list_any t (numbers (length ss) 0)) by_line ∙ sym (any_numbered g ss)))

  unopposed : (t : Place) → ((p : Package) → package_in s ≡ Some p → IsUnseen p t) → is_one (λ q. opposes q s) (package_in t) ≡ false
  unopposed t off = by_other (package_in t) refl where
    by_own : (q : Package) → package_in t ≡ Some q → (x : Option Package) → package_in s ≡ x → is_one (λ p. conflicts (is_new (value_in s)) p q) x ≡ false
    by_own q there None e = refl
    by_own q there (Some p) e = let r = off p e q there in no_conflict p q r.0 (is_new (value_in s)) r.1

    by_other : (x : Option Package) → package_in t ≡ x → is_one (λ q. opposes q s) x ≡ false
    by_other None e = refl
    by_other (Some q) e = by_own q e (package_in s) refl

  unmatched : (p : Package) (t : Place) → IsUnseen p t → (class : Class) (a : AtomValue) → Has (leaves_in class p) a → is_one (λ q. value_matches a q.facts p.facts.enabled) (package_in t) ≡ false
  unmatched p t off class a h = by_other (package_in t) refl where
    by_other : (x : Option Package) → package_in t ≡ x → is_one (λ q. value_matches a q.facts p.facts.enabled) x ≡ false
    by_other None e = refl
    by_other (Some q) e = no_leaf p q (off q e).0 class a h p.facts.enabled

  met : (class : Class) (p : Package) → package_in s ≡ Some p → is_met (facts_of (packages_in ts)) class p ≡ is_met (facts_of (packages_in ss)) class p
  met class p stands = same_met p class (facts_of (packages_in ts)) (facts_of (packages_in ss)) (λ a h.
      any_here (λ f. value_matches a f p.facts.enabled) ts
      ∙ (same_any (λ (t : Place). is_one (λ q. value_matches a q.facts p.facts.enabled) (package_in t)) (unmatched p (get_or ss m no_place) (before p stands) class a h) (unmatched p (get_or ts m no_place) (after p stands) class a h)
      ∙ sym (any_here (λ f. value_matches a f p.facts.enabled) ss)))

  unmet : (class : Class) (x : Option Package) → package_in s ≡ x → is_one (λ p. not (is_met (facts_of (packages_in ts)) class p)) x ≡ is_one (λ p. not (is_met (facts_of (packages_in ss)) class p)) x
  unmet class None e = refl
  unmet class (Some p) e = ap not (met class p e)

  pub same_open : (n : ℕ) → find (is_open_of ts) (obligations_of n l) ≡ find (is_open_of ss) (obligations_of n l)
  same_open n = same_found (is_open_of ts) (is_open_of ss) n l
      (ap (λ (t : Place). is_one (λ p. not (fits_required p)) (package_in t)) here)
      (λ k. ap (λ (t : Place). not (nat_eq l k) && is_one (λ q. opposes q t) (package_in (get_or ts k no_place))) here
      ∙ ap (λ (b : Bool). not (nat_eq l k) && b) (same_look (λ (t : Place). is_one (λ q. opposes q s) (package_in t)) (unopposed (get_or ss m no_place) before) (unopposed (get_or ts m no_place) after) k))
      (λ class. ap (λ (t : Place). counts class (value_in t) && is_one (λ p. not (is_met (facts_of (packages_in ts)) class p)) (package_in t)) here
      ∙ ap (λ (b : Bool). counts class (value_in s) && b) (unmet class (package_in s) refl))

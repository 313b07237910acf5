-- What is to blame where a need doesn't hold, though it holds in a solution.
use Rattle.std.proofs.Common.{◌≡◌, ◌||◌, ℕ, Bool, true, false, Option, Some, None, nat_eq, inl, inr, refl, ap, ◌∙◌}
use Rattle.std.specs.Option.{option_map_or}
use Rattle.std.proofs.lemmas.Bool.{eq-eqb, or_cases, or_left, or_parts, or_right}
use Rattle.basics.specs.Members.{Has}
use Rattle.basics.proofs.Members.{passes_some, some_passes}
use Rattle.basics.proofs.Membership.{has-map, has-map_back}
use Rattle.pms_names.specs.Flags.{has}
use Rattle.dep_atom.specs.Match.{value_matches}
use Rattle.dep_atom.specs.Values.{AtomValue}
use Rattle.dep_atom.specs.declared.package.Facts.{Facts}
use Rattle.dep_tree.specs.Grammar.{is_block}
use Rattle.dep_tree.specs.Truth.{is_fact, some_match}
use Rattle.pkg_state.specs.Consistent.{facts_of, is_met, leaves_in}
use Rattle.pkg_state.specs.Package.{Package, tree_of}
use Rattle.pkg_state.specs.declared.class.Class.{Class}
use Rattle.choice_law.specs.Blame.{blamed_in}
use Rattle.choice_law.specs.Laws.{CountNothing}
use Rattle.choice_law.specs.Possible.{judged_among}
use Rattle.choice_law.specs.Reasons.{offers_blamed, rests_on}
use Rattle.choice_law.specs.Tree.{Choice, filling, tree}
use Rattle.choice_law.specs.Universe.{Filling, Stands, Universe, offer_at, package_of, packages}
use Rattle.choice_law.proofs.Leaves.{all_tell}
use Rattle.choice_law.proofs.Lines.{listed_stands}
use Rattle.choice_law.proofs.Reasons.{blamed_can, matched_can}

-- a leaf to blame is matched by a package of the filling that isn't among those by which it is judged
pub record IsMended (u : Universe) (f : Filling) (c : Choice) (class : Class) (p : Package) : Type 0 where
  pub leaf : AtomValue
  pub blamed : Has (blamed_in (facts_of (judged_among u c class p)) class p) leaf
  pub counted : Has (leaves_in class p) leaf
  pub asks : is_block leaf ≡ false
  pub line : ℕ
  pub one : Package
  pub stands : Stands u f line one
  pub matched : value_matches leaf one.facts p.facts.enabled ≡ true
  pub not_judged : ¬ Has (judged_among u c class p) one

module _ (u : Universe) (f : Filling) (c : Choice) (class : Class) (p : Package) where
  pub mended : CountNothing (tree_of class p).groups → is_met (facts_of (packages u f)) class p ≡ true → is_met (facts_of (judged_among u c class p)) class p ≡ false → IsMended u f c class p
  mended form met fails =
      let asker = p.facts.enabled in
      let there = facts_of (packages u f) in
      let here = facts_of (judged_among u c class p) in
      let told = all_tell (tree_of class p).empty_holds (has asker) (is_fact there asker) (is_fact here asker) (tree_of class p).groups form met fails in
      let off = or_parts (is_block told.0) (some_match here asker told.0) told.4 in
      let matched : some_match there asker told.0 ≡ true = elim (or_cases (is_block told.0) (some_match there asker told.0) told.3) [ inl b ↦ absurd (let none = off.0 in cc (b, none)) | inr m ↦ m ] in
      let x = some_passes (λ (q : Facts). value_matches told.0 q asker) there matched in
      let q = has-map_back (λ (r : Package). r.facts) (packages u f) x.0 x.1 in
      let serves : value_matches told.0 q.0.facts asker ≡ true = ap (λ (y : Facts). value_matches told.0 y asker) q.2 ∙ x.2 in
      let st = listed_stands u f q.0 q.1 in
      record {
        leaf = told.0;
        blamed = told.1;
        counted = told.2;
        asks = off.0;
        line = st.0;
        one = q.0;
        stands = st.1;
        matched = serves;
        not_judged = λ h.
            let found = passes_some (λ (y : Facts). value_matches told.0 y asker) here q.0.facts (has-map (λ (r : Package). r.facts) (judged_among u c class p) q.0 h) serves in
            let none = off.1 in
            cc (found, none);
      }

  -- the obligation rests on the line of what is missing
  pub rests_there : (l : ℕ) → package_of (offer_at u l) (filling u c l) ≡ Some p → (x : IsMended u f c class p) → rests_on u c (tree l class) x.line ≡ true
  rests_there l is x =
      let lacks : Option Package → Bool = λ y. option_map_or (λ q. offers_blamed (facts_of (judged_among u c class q)) class q (offer_at u x.line)) y false in
      let can = blamed_can (facts_of (judged_among u c class p)) class p (offer_at u x.line) x.leaf x.blamed (matched_can x.leaf p.facts.enabled (offer_at u x.line) (f x.line) x.one x.stands.is x.matched) in
      or_right (nat_eq l x.line) (lacks (package_of (offer_at u l) (filling u c l))) (ap lacks is ∙ can)

-- .. and on its own
pub own_rests : (u : Universe) (c : Choice) (l : ℕ) (class : Class) → rests_on u c (tree l class) l ≡ true
own_rests u c l class =
    or_left (nat_eq l l) (option_map_or (λ q. offers_blamed (facts_of (judged_among u c class q)) class q (offer_at u l)) (package_of (offer_at u l) (filling u c l)) false) (eq-eqb l l refl)

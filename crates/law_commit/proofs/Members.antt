-- Packages that go together do so in any list of just these.
use Rattle.std.proofs.Common.{◌≡◌, ◌||◌, ◌↔◌, ℕ, Bool, true, List, [], ◌∷◌, map, inl, inr, refl, sym, ap, subst, ◌∙◌}
use Rattle.std.specs.List.Sorted.{IsStrictlySortedBy}
use Rattle.basics.specs.Members.{AreDistinct, Has}
use Rattle.basics.proofs.Membership.{has-map, has-map_back}
use Rattle.pms_names.specs.Flags.{IsRising, has}
use Rattle.dep_atom.specs.Ids.{id_text}
use Rattle.dep_atom.specs.Match.{value_matches}
use Rattle.dep_atom.specs.Values.{AtomValue}
use Rattle.dep_atom.specs.declared.package.Facts.{Facts}
use Rattle.dep_group.specs.Trees.{all_hold}
use Rattle.dep_tree.specs.Grammar.{is_block}
use Rattle.dep_tree.specs.Truth.{is_fact, kind, some_match}
use Rattle.pkg_state.specs.Consistent.{AreApart, AreConsistent, facts_of, is_met}
use Rattle.pkg_state.specs.Package.{Package, line_of, tree_of}
use Rattle.pkg_state.specs.declared.class.Class.{Class}
use Rattle.pkg_state.specs.declared.class.Class.TheVariants.{Rdepend}
use Rattle.pkg_state.proofs.Lines.{one_on_line}
use Rattle.vdb_law.specs.Database.{folder_name}
use Rattle.vdb_law.specs.Packages.{Installed}
use Rattle.vdb_law.proofs.Places.{all_less}
use Rattle.basics.proofs.Members.{passes_some, some_passes}
use Rattle.law_commit.specs.Lit.{lit, packages_of}
use Rattle.basics.proofs.Tests.{same_tests}
use Rattle.basics.proofs.Texts.{not_less}

-- two lists have the same members
abbrev pub AreSame : List Package → List Package → Type 0
AreSame ps qs = (p : Package) → Has ps p ↔ Has qs p

-- what one of them has, one of the others has
some_matches : (ps qs : List Package) → AreSame ps qs → (asker : List (List ℕ)) (a : AtomValue) → some_match (facts_of ps) asker a ≡ true → some_match (facts_of qs) asker a ≡ true
some_matches ps qs same asker a e =
    let f = some_passes (λ (x : Facts). value_matches a x asker) (facts_of ps) e in
    let p = has-map_back (λ (x : Package). x.facts) ps f.0 f.1 in
    let there = has-map (λ (x : Package). x.facts) qs p.0 ((same p.0).0 p.1) in
    passes_some (λ (x : Facts). value_matches a x asker) (facts_of qs) p.0.facts there (ap (λ (x : Facts). value_matches a x asker) p.2 ∙ f.2)

same_back : (ps qs : List Package) → AreSame ps qs → AreSame qs ps
same_back ps qs same p = ((same p).1, (same p).0)

met_alike : (ps qs : List Package) → AreSame ps qs → (class : Class) (p : Package) → is_met (facts_of ps) class p ≡ is_met (facts_of qs) class p
met_alike ps qs same class p =
    let facts : (λ (a : AtomValue). is_fact (facts_of ps) p.facts.enabled a) ≡ (λ (a : AtomValue). is_fact (facts_of qs) p.facts.enabled a) =
    λ i a. is_block a || same_tests (some_match (facts_of ps) p.facts.enabled a) (some_match (facts_of qs) p.facts.enabled a) (some_matches ps qs same p.facts.enabled a) (some_matches qs ps (same_back ps qs same) p.facts.enabled a) i in
    ap (λ (fact : AtomValue → Bool). all_hold (tree_of class p).empty_holds kind fact (has p.facts.enabled) (tree_of class p).groups) facts

-- folders in byte order differ
distinct_folders : (qs : List Installed) → IsRising (map folder_name qs) → AreDistinct (map folder_name qs)
unfolding IsStrictlySortedBy
distinct_folders [] rising = tt
distinct_folders (x ∷ qs) rising = (
  (λ h. let k = has-map_back folder_name qs (folder_name x) h in
      not_less (folder_name x) (folder_name k.0) (sym k.2) (all_less (folder_name x) qs k.0 rising.0 k.1)),
  distinct_folders qs rising.1,
)

abbrev line : Package → List ℕ
line p = line_of p.facts

lines_apart : (flags : List (List ℕ)) (qs : List Installed) → ((p q : Installed) → Has qs p → Has qs q → line p.package_is ≡ line q.package_is → folder_name p ≡ folder_name q) → AreDistinct (map folder_name qs) → AreApart (packages_of flags qs)
lines_apart flags [] alike d = tt
lines_apart flags (x ∷ qs) alike d = (
  (λ h. let r = has-map_back line (packages_of flags qs) (line x.package_is) h in
      let k = has-map_back (λ (p : Installed). lit flags p.package_is) qs r.0 r.1 in
      let same : line k.0.package_is ≡ line x.package_is = ap line k.2 ∙ r.2 in
      d.0 (subst (λ (t : List ℕ). Has (map folder_name qs) t) (alike k.0 x (inr k.1) (inl refl) same) (has-map folder_name qs k.0 k.1))),
  lines_apart flags qs (λ p q hp hq. alike p q (inr hp) (inr hq)) d.1,
)

-- consistent packages are so as a database of just these
pub consistent_alike : (flags : List (List ℕ)) (qs : List Installed) (ps : List Package) → IsRising (map folder_name qs) → AreSame ps (packages_of flags qs) → AreConsistent ps → AreConsistent (packages_of flags qs)
consistent_alike flags qs ps rising same c = record {
  apart = lines_apart flags qs one_folder (distinct_folders qs rising);
  required = λ p h. c.required p ((same p).1 h);
  unblocked = λ p q hp hq. c.unblocked p q ((same p).1 hp) ((same q).1 hq);
  runtime = λ p h. sym (met_alike ps (packages_of flags qs) same Rdepend p) ∙ c.runtime p ((same p).1 h);
} where
  one_folder : (p q : Installed) → Has qs p → Has qs q → line p.package_is ≡ line q.package_is → folder_name p ≡ folder_name q
  one_folder p q hp hq e =
      let there = has-map (λ (x : Installed). lit flags x.package_is) qs p hp in
      let here = has-map (λ (x : Installed). lit flags x.package_is) qs q hq in
      let one : lit flags p.package_is ≡ lit flags q.package_is = one_on_line ps (lit flags p.package_is) (lit flags q.package_is) c.apart ((same (lit flags p.package_is)).1 there) ((same (lit flags q.package_is)).1 here) e in
      ap (λ (x : Package). id_text x.facts.id) one

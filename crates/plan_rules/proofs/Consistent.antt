-- Packages that change their places stay as consistent as they are.
use Rattle.std.proofs.Common.{◌≡◌, ◌∙◌, ◌||◌, ◌↔◌, ℕ, Bool, true, List, inl, inr, sym, ap, subst}
use Rattle.std.specs.List.Sorted.{IsPermutation}
use Rattle.std.proofs.lemmas.Bool.{both_ways, cases_Bool, false_from_ne_true}
use Rattle.std.proofs.lemmas.List.Sorted.{IsPermutation-map, IsPermutation-sym}
use Rattle.basics.specs.Members.{Has}
use Rattle.basics.proofs.Members.{passes_some, some_passes}
use Rattle.basics.proofs.Membership.{has-map, has-map_back}
use Rattle.basics.proofs.Permutations.{distinct-moved, has-moved}
use Rattle.pms_names.specs.Flags.{has}
use Rattle.dep_atom.specs.declared.package.Facts.{Facts}
use Rattle.dep_atom.specs.Match.{value_matches}
use Rattle.dep_atom.specs.Values.{AtomValue}
use Rattle.dep_group.specs.Trees.{all_hold}
use Rattle.dep_tree.specs.Grammar.{is_block}
use Rattle.dep_tree.specs.Truth.{kind, some_match}
use Rattle.pkg_state.specs.Consistent.{AreConsistent, facts_of, is_met}
use Rattle.pkg_state.specs.Package.{Package, line_of, lines_of, tree_of}
use Rattle.pkg_state.specs.declared.class.Class.{Class}
use Rattle.pkg_state.specs.declared.class.Class.TheVariants.{Rdepend}

-- two lists with the same members tell the same of what is met
module _ (ps qs : List Package) (same : (p : Package) → Has ps p ↔ Has qs p) where
  one_way : (asker : List (List ℕ)) (a : AtomValue) (xs ys : List Package) → ((p : Package) → Has xs p → Has ys p) → some_match (facts_of xs) asker a ≡ true → some_match (facts_of ys) asker a ≡ true
  one_way asker a xs ys to e =
      let k = some_passes (λ (f : Facts). value_matches a f asker) (facts_of xs) e in
      let m = has-map_back (λ (p : Package). p.facts) xs k.0 k.1 in
      passes_some (λ (f : Facts). value_matches a f asker) (facts_of ys) k.0 (subst (λ (f : Facts). Has (facts_of ys) f) m.2 (has-map (λ (p : Package). p.facts) ys m.0 (to m.0 m.1))) k.2

  same_match : (asker : List (List ℕ)) (a : AtomValue) → some_match (facts_of ps) asker a ≡ some_match (facts_of qs) asker a
  same_match asker a = elim (cases_Bool (some_match (facts_of ps) asker a)) [
    | inl y ↦ y ∙ sym (one_way asker a ps qs (λ p. (same p).0) y)
    | inr n ↦ n ∙ sym (false_from_ne_true (some_match (facts_of qs) asker a) (λ e. both_ways (some_match (facts_of ps) asker a) n (one_way asker a qs ps (λ p. (same p).1) e)))
  ]

  pub same_met : (class : Class) (p : Package) → is_met (facts_of ps) class p ≡ is_met (facts_of qs) class p
  same_met class p = ap (λ (fact : AtomValue → Bool). all_hold (tree_of class p).empty_holds kind fact (has p.facts.enabled) (tree_of class p).groups) (λ i a. is_block a || same_match p.facts.enabled a i)

pub consistent_moved : (ps qs : List Package) → IsPermutation ps qs → AreConsistent ps → AreConsistent qs
consistent_moved ps qs perm h =
    let back : (p : Package) → Has qs p → Has ps p = (λ p there. has-moved qs ps p (IsPermutation-sym ps qs perm) there) in
    record {
      apart = distinct-moved (lines_of ps) (lines_of qs) (IsPermutation-map (λ (p : Package). line_of p.facts) ps qs perm) h.apart;
      required = λ p there. h.required p (back p there);
      unblocked = λ p q hp hq. h.unblocked p q (back p hp) (back q hq);
      runtime = λ p there. sym (same_met ps qs (λ q. (has-moved ps qs q perm, back q)) Rdepend p) ∙ h.runtime p (back p there);
    }

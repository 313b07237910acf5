-- Packages that change their places stay as consistent as they are.
use Rattle.std.proofs.Common.{◌≡◌, ◌∙◌, ◌<◌, ◌+◌, ◌||◌, ℕ, zero, suc, Bool, false, List, [], ◌∷◌, length, get_or, is_lt, map, refl, ap, sym, subst, arith}
use Rattle.std.specs.Cmp.{IsTotalOrder}
use Rattle.std.specs.List.Sorted.{IsPermutation, IsSorted, IsSortedBy}
use Rattle.std.proofs.lemmas.Cmp.{nat_list_cmp_total, on_total, then_total}
use Rattle.std.proofs.lemmas.List.{length-map}
use Rattle.std.proofs.lemmas.List.Sorted.{IsPermutation-map, IsPermutation-sym, list_any-IsPermutation}
use Rattle.pms_grammar.specs.Grammar.{spelling}
use Rattle.basics.specs.Members.{Has}
use Rattle.basics.proofs.Permutations.{distinct-moved, has-moved}
use Rattle.pms_names.specs.Flags.{has}
use Rattle.dep_atom.specs.Match.{value_matches}
use Rattle.dep_atom.specs.Values.{AtomValue}
use Rattle.dep_group.specs.Trees.{all_hold}
use Rattle.dep_tree.specs.Grammar.{is_block}
use Rattle.dep_tree.specs.Truth.{is_fact, kind}
use Rattle.pkg_state.specs.Consistent.{AreConsistent, facts_of, is_met}
use Rattle.pkg_state.specs.Package.{Package, line_of, lines_of, tree_of}
use Rattle.pkg_state.specs.declared.class.Class.TheVariants.{Rdepend}
use Rattle.vdb_law.specs.Packages.{Installed}
use Rattle.law_commit.specs.Lit.{lit, packages_of}
use Rattle.run_opening.specs.Order.{AreInLineOrder, line_cmp, recorded_of}
use Rattle.run_opening.specs.declared.order.Lined.{Lined}

-- the order of lines is total
pub line_total : IsTotalOrder line_cmp
line_total = then_total (on_total (λ (p : Package). line_of p.facts) nat_list_cmp_total) (on_total (λ (p : Package). spelling p.facts.id.version) nat_list_cmp_total)

-- elements that ascend by what they say
pub sorted_through : {A B : Type 0} (f : A → B) (lt : B → B → Bool) (xs : List A) → IsSortedBy (λ a b. lt (f a) (f b)) xs → IsSortedBy lt (map f xs)
sorted_through f lt [] sorted k d low less = absurd (omega (arith, less))
sorted_through {A} {B} f lt (x ∷ xs) sorted k d low less =
    let within : k + 1 < length (x ∷ xs) = omega (arith, less, length-map xs f) in
    let here = read_through (x ∷ xs) k d x (omega (arith, within)) in
    let next = read_through (x ∷ xs) (k + 1) d x within in
    subst (λ (e : B). lt e (get_or (map f (x ∷ xs)) k d) ≡ false) (sym next)
    (subst (λ (e : B). lt (f (get_or (x ∷ xs) (k + 1) x)) e ≡ false) (sym here) (sorted k x low within))
  where
    read_through : (ys : List A) (i : ℕ) (e : B) (y : A) → i < length ys → get_or (map f ys) i e ≡ f (get_or ys i y)
    read_through [] i e y lt' = absurd (omega (arith, lt'))
    read_through (z ∷ ys) zero e y lt' = refl
    read_through (z ∷ ys) (suc i) e y lt' = read_through ys i e y (omega (arith, lt'))

lit_packages : (flags : List (List ℕ)) (ps : List Installed) → map (lit flags) (recorded_of ps) ≡ packages_of flags ps
lit_packages flags [] = refl
lit_packages flags (p ∷ ps) = ap (λ (l : List Package). lit flags p.package_is ∷ l) (lit_packages flags ps)

lit_lined : (flags : List (List ℕ)) (ls : List Lined) → map (lit flags) (map (λ (l : Lined). l.pkg.now) ls) ≡ map (λ (l : Lined). lit flags l.pkg.now) ls
lit_lined flags [] = refl
lit_lined flags (l ∷ ls) = ap (λ (ps : List Package). lit flags l.pkg.now ∷ ps) (lit_lined flags ls)

-- flags that are on beside their own leave packages in line order
pub lit_order : (flags : List (List ℕ)) (ps : List Installed) (ls : List Lined) → AreInLineOrder (recorded_of ps) (map (λ (l : Lined). l.pkg.now) ls) → AreInLineOrder (packages_of flags ps) (map (λ (l : Lined). lit flags l.pkg.now) ls)
lit_order flags ps ls order = record {
  moved = subst (λ (xs : List Package). IsPermutation xs (map (λ (l : Lined). lit flags l.pkg.now) ls)) (lit_packages flags ps)
      (subst (λ (ys : List Package). IsPermutation (map (lit flags) (recorded_of ps)) ys) (lit_lined flags ls) (IsPermutation-map (lit flags) (recorded_of ps) (map (λ (l : Lined). l.pkg.now) ls) order.moved));
  sorted = subst (λ (ys : List Package). IsSorted line_cmp ys) (lit_lined flags ls)
      (sorted_through (lit flags) (λ p q. is_lt (line_cmp p q)) (map (λ (l : Lined). l.pkg.now) ls) order.sorted);
}

module _ (ps qs : List Package) (perm : IsPermutation ps qs) where
  same_fact : (asker : List (List ℕ)) (a : AtomValue) → is_fact (facts_of ps) asker a ≡ is_fact (facts_of qs) asker a
  same_fact asker a = ap (λ (b : Bool). is_block a || b) (list_any-IsPermutation (λ f. value_matches a f asker) (facts_of ps) (facts_of qs) (IsPermutation-map (λ (p : Package). p.facts) ps qs perm))

  same_met : (p : Package) → is_met (facts_of ps) Rdepend p ≡ is_met (facts_of qs) Rdepend p
  same_met p = ap (λ (fact : AtomValue → Bool). all_hold (tree_of Rdepend p).empty_holds kind fact (has p.facts.enabled) (tree_of Rdepend p).groups) (λ i a. same_fact p.facts.enabled a i)

  back : (p : Package) → Has qs p → Has ps p
  back p there = has-moved qs ps p (IsPermutation-sym ps qs perm) there

  pub consistent_moved : AreConsistent ps → AreConsistent qs
  consistent_moved h = record {
    apart = distinct-moved (lines_of ps) (lines_of qs) (IsPermutation-map (λ (p : Package). line_of p.facts) ps qs perm) h.apart;
    required = λ p there. h.required p (back p there);
    unblocked = λ p q hp hq. h.unblocked p q (back p hp) (back q hq);
    runtime = λ p there. sym (same_met p) ∙ h.runtime p (back p there);
  }

-- The greatest version that an atom matches, as it is found line by line.
use Rattle.std.proofs.Common.{◌≡◌, ◌⊎◌, ◌<◌, ◌≤◌, ◌+◌, ◌∙◌, ℕ, zero, suc, Bool, true, false, cond, List, Option, None, Some, inl, inr, length, refl, ap, arith, subst, sym}
use Rattle.std.specs.Ordering.{is_eq, is_gt}
use Rattle.std.proofs.lemmas.Bool.{cases_lt}
use Rattle.std.proofs.lemmas.List.{length-map}
use Rattle.pms_grammar.specs.Grammar.{IsVersion, VersionValue}
use Rattle.pms_version.specs.Order.{version_cmp}
use Rattle.dep_atom.specs.Match.{value_matches}
use Rattle.dep_atom.specs.Values.{AtomValue}
use Rattle.pkg_state.specs.Package.{Package}
use Rattle.choice_law.specs.Tree.{Choice, filling}
use Rattle.choice_law.specs.Universe.{Stands, Universe, lines}
use Rattle.choice_tree.specs.Places.{Place, numbers, package_in, place_at as placed, places}
use Rattle.choice_tree.proofs.Numbers.{length_numbers}
use Rattle.choice_tree.proofs.Pick.{stands, there}
use Rattle.merge_edges.specs.Found.{HasVersion, Stander, best_among, best_in, better, matched_at, matched_here, place_at, with_one}
use Rattle.merge_edges.specs.Needs.{HasGreatest}
use Rattle.merge_edges.proofs.Ranked.{as_great, falls_apart, falls_behind, not_greater_itself}

abbrev pub version_of : Stander → VersionValue
version_of x = x.package_is.facts.id.version

-- what is matched on a line stands there
pub record IsMatched (ss : List Place) (a : AtomValue) (asker : List (List ℕ)) (l : ℕ) (x : Stander) : Type 0 where
  pub line : x.line ≡ l
  pub stands : package_in (place_at ss l) ≡ Some x.package_is
  pub matched : value_matches a x.package_is.facts asker ≡ true

matched_parts : (a : AtomValue) (asker : List (List ℕ)) (l : ℕ) (p : Package) (b : Bool) (x : Stander) → value_matches a p.facts asker ≡ b → cond b (Some (record { line = l; package_is = p })) None ≡ Some x → (x.line ≡ l) × (p ≡ x.package_is) × (value_matches a x.package_is.facts asker ≡ true)
matched_parts a asker l p false x e is = absurd (cc is)
matched_parts a asker l p true x e is =
    let y : Stander = record { line = l; package_is = p } in
    let same : y ≡ x = cc is in
    (sym (ap (λ (z : Stander). z.line) same), ap (λ (z : Stander). z.package_is) same, ap (λ (z : Stander). value_matches a z.package_is.facts asker) (sym same) ∙ e)

matched_of : (a : AtomValue) (asker : List (List ℕ)) (l : ℕ) (o : Option Package) (x : Stander) → matched_here a asker l o ≡ Some x → (x.line ≡ l) × (o ≡ Some x.package_is) × (value_matches a x.package_is.facts asker ≡ true)
matched_of a asker l None x is = absurd (cc is)
matched_of a asker l (Some p) x is =
    let r = matched_parts a asker l p (value_matches a p.facts asker) x refl is in (r.0, ap (λ (q : Package). Some q) r.1, r.2)

pub matched_is : (ss : List Place) (a : AtomValue) (asker : List (List ℕ)) (l : ℕ) (x : Stander) → matched_at ss a asker l ≡ Some x → IsMatched ss a asker l x
matched_is ss a asker l x is =
    let r = matched_of a asker l (package_in (place_at ss l)) x is in record { line = r.0; stands = r.1; matched = r.2 }

pub is_matched : (ss : List Place) (a : AtomValue) (asker : List (List ℕ)) (l : ℕ) (p : Package) → package_in (place_at ss l) ≡ Some p → value_matches a p.facts asker ≡ true → matched_at ss a asker l ≡ Some (record { line = l; package_is = p })
is_matched ss a asker l p is e =
    ap (matched_here a asker l) is ∙ ap (λ (b : Bool). cond b (Some (record { line = l; package_is = p })) None) e

last_or : (m k : ℕ) → m < suc k → (m ≡ k) ⊎ (m < k)
last_or m k less = elim (cases_lt m k) [ inl before ↦ inr before | inr past ↦ inl (omega (arith, past, less)) ]

-- the one on line m is no greater than the other, and if it is as great, it comes no earlier
pub record IsBehind (x : Stander) (m : ℕ) (y : Stander) : Type 0 where
  pub no_greater : is_gt (version_cmp (version_of y) (version_of x)) ≡ false
  pub later : is_eq (version_cmp (version_of y) (version_of x)) ≡ true → x.line ≤ m

module _ (ss : List Place) (a : AtomValue) (asker : List (List ℕ)) (versions : (l : ℕ) → HasVersion (place_at ss l)) where
  abbrev here : ℕ → Option Stander
  here l = matched_at ss a asker l

  -- the best of the first so many lines
  abbrev pub IsBest : ℕ → Option Stander → Type 0
  IsBest k None = (l : ℕ) → l < k → here l ≡ None
  IsBest k (Some x) = (x.line < k) × (here x.line ≡ Some x) × ((m : ℕ) (y : Stander) → m < k → here m ≡ Some y → IsBehind x m y)

  good : (l : ℕ) (x : Stander) → here l ≡ Some x → IsVersion (version_of x)
  good l x is = versions l x.package_is (matched_is ss a asker l x is).stands

  at_line : (l : ℕ) (x : Stander) → here l ≡ Some x → here x.line ≡ Some x
  at_line l x is = ap here (matched_is ss a asker l x is).line ∙ is

  same_here : (l : ℕ) (x y : Stander) → here l ≡ Some x → here l ≡ Some y → x ≡ y
  same_here l x y e f = let both : Some x ≡ Some y = sym e ∙ f in cc both

  itself : (k : ℕ) (y : Stander) → here k ≡ Some y → (m : ℕ) (z : Stander) → m ≡ k → here m ≡ Some z → IsBehind y m z
  itself k y is m z e there =
      let same : y ≡ z = same_here k y z is (ap here (sym e) ∙ there) in
      let line = (matched_is ss a asker k y is).line in
      subst (λ (w : Stander). IsBehind y m w) same (record {
        no_greater = not_greater_itself (version_of y) (version_of y) (good k y is) (good k y is);
        later = λ _. omega (arith, line, e);
      })

  module _ (k : ℕ) where
    none_more : here k ≡ None → IsBest k None → IsBest (suc k) None
    none_more is so l less = elim (last_or l k less) [ inl e ↦ ap here e ∙ is | inr before ↦ so l before ]

    kept : (x : Stander) → here k ≡ None → IsBest k (Some x) → IsBest (suc k) (Some x)
    kept x is so = (
      omega (arith, so.0),
      so.1,
      λ m y less there. elim (last_or m k less) [
        | inl e ↦ absurd (let bad : ◌≡◌ {A = Option Stander} None (Some y) = sym (ap here e ∙ is) ∙ there in cc bad)
        | inr before ↦ so.2 m y before there
      ],
    )

    first : (y : Stander) → here k ≡ Some y → IsBest k None → IsBest (suc k) (Some y)
    first y is so =
        let line = (matched_is ss a asker k y is).line in (
          omega (arith, line),
          at_line k y is,
          λ m z less there. elim (last_or m k less) [
            | inl e ↦ itself k y is m z e there
            | inr before ↦ absurd (let bad : ◌≡◌ {A = Option Stander} None (Some z) = sym (so m before) ∙ there in cc bad)
          ],
        )

    module _ (x y : Stander) (is : here k ≡ Some y) (so : IsBest k (Some x)) where
      taken : is_gt (version_cmp (version_of y) (version_of x)) ≡ true → IsBest (suc k) (Some y)
      taken greater =
          let line = (matched_is ss a asker k y is).line in
          let vx = good x.line x so.1 in
          let vy = good k y is in (
            omega (arith, line),
            at_line k y is,
            λ m z less there. elim (last_or m k less) [
              | inl e ↦ itself k y is m z e there
              | inr before ↦ record {
                no_greater = falls_behind (version_of x) (version_of y) vx vy (version_of z) (good m z there) greater (so.2 m z before there).no_greater;
                later = λ g. absurd (falls_apart (version_of x) (version_of y) vx vy (version_of z) (good m z there) greater (so.2 m z before there).no_greater g);
              }
            ],
          )

      left : is_gt (version_cmp (version_of y) (version_of x)) ≡ false → IsBest (suc k) (Some x)
      left low =
          let low_line = so.0 in (
            omega (arith, low_line),
            so.1,
            λ m z less there. elim (last_or m k less) [
              | inl e ↦ subst (λ (w : Stander). IsBehind x m w) (same_here k y z is (ap here (sym e) ∙ there)) (record {
                no_greater = low;
                later = λ _. omega (arith, low_line, e);
              })
              | inr before ↦ so.2 m z before there
            ],
          )

      either : (b : Bool) → is_gt (version_cmp (version_of y) (version_of x)) ≡ b → IsBest (suc k) (Some (cond b y x))
      either true e = taken e
      either false e = left e

    one_more : (best o : Option Stander) → here k ≡ o → IsBest k best → IsBest (suc k) (with_one best o)
    one_more None None is so = none_more is so
    one_more (Some x) None is so = kept x is so
    one_more None (Some y) is so = first y is so
    one_more (Some x) (Some y) is so = either x y is so (is_gt (version_cmp (version_of y) (version_of x))) refl

  best_upto : (n k : ℕ) (best : Option Stander) → IsBest k best → IsBest (k + n) (best_among ss a asker best (numbers n k))
  best_upto zero k best so = let done : k ≡ k + 0 = omega arith in subst (λ (j : ℕ). IsBest j best) done so
  best_upto (suc n) k best so =
      let on : suc k + n ≡ k + suc n = omega arith in
      subst (λ (j : ℕ). IsBest j (best_among ss a asker (with_one best (here k)) (numbers n (suc k)))) on
      (best_upto n (suc k) (with_one best (here k)) (one_more k best (here k) refl so))

  pub best_is : IsBest (length ss) (best_in ss a asker)
  best_is =
      let all : 0 + length ss ≡ length ss = omega arith in
      subst (λ (j : ℕ). IsBest j (best_in ss a asker)) all
      (best_upto (length ss) 0 None (λ l less. absurd (omega (arith, less))))

module _ (u : Universe) (c : Choice) (a : AtomValue) (asker : List (List ℕ)) (versions : (l : ℕ) → HasVersion (place_at (places u c) l)) where
  abbrev ss : List Place
  ss = places u c

  long : length (places u c) ≡ lines u
  long = length-map (numbers (lines u) 0) (placed u c) ∙ length_numbers (lines u) 0

  within : (l : ℕ) (p : Package) → Stands u (filling u c) l p → l < length (places u c)
  within l p st = let less = st.there in omega (arith, less, long)

  -- what is found has the greatest version
  pub greatest_found : (x : Stander) → best_in (places u c) a asker ≡ Some x → HasGreatest u c asker a x.line
  greatest_found x is =
      let best : IsBest ss a asker versions (length ss) (Some x) = subst (λ (o : Option Stander). IsBest ss a asker versions (length ss) o) is (best_is ss a asker versions) in
      let own = matched_is ss a asker x.line x best.1 in
      record {
        package_is = x.package_is;
        stands = there u c x.line x.package_is own.stands;
        matched = own.matched;
        greatest = λ m q st e. (best.2 m (record { line = m; package_is = q }) (within m q st) (is_matched ss a asker m q (stands u c m q st) e)).no_greater;
        smallest = λ m q st e. (best.2 m (record { line = m; package_is = q }) (within m q st) (is_matched ss a asker m q (stands u c m q st) e)).later;
      }

  -- the line that has it is found
  pub found_greatest : (l : ℕ) → HasGreatest u c asker a l → (x : Stander) × (best_in (places u c) a asker ≡ Some x) × (x.line ≡ l)
  found_greatest l h = by_case (best_in ss a asker) refl (best_is ss a asker versions) where
    own : matched_at ss a asker l ≡ Some (record { line = l; package_is = h.package_is })
    own = is_matched ss a asker l h.package_is (stands u c l h.package_is h.stands) h.matched

    less : l < length ss
    less = within l h.package_is h.stands

    by_case : (o : Option Stander) → best_in ss a asker ≡ o → IsBest ss a asker versions (length ss) o → (x : Stander) × (best_in ss a asker ≡ Some x) × (x.line ≡ l)
    by_case None is so = absurd (let bad : ◌≡◌ {A = Option Stander} None (Some (record { line = l; package_is = h.package_is })) = sym (so l less) ∙ own in cc bad)
    by_case (Some x) is so =
        let m = matched_is ss a asker x.line x so.1 in
        let st = there u c x.line x.package_is m.stands in
        let behind = so.2 l (record { line = l; package_is = h.package_is }) less own in
        let vx = versions x.line x.package_is m.stands in
        let vl = versions l h.package_is (stands u c l h.package_is h.stands) in
        let ahead = h.greatest x.line x.package_is st m.matched in
        let down = behind.later (as_great (version_of x) h.package_is.facts.id.version vx vl behind.no_greater ahead) in
        let up = h.smallest x.line x.package_is st m.matched (as_great h.package_is.facts.id.version (version_of x) vl vx ahead behind.no_greater) in
        (x, is, omega (arith, down, up))

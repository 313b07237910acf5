-- The lines under texts, and what is found among them.
use Rattle.std.proofs.Common.{◌≡◌, ◌∙◌, ◌<◌, ◌+◌, ◌-◌, ◌||◌, ◌++◌, ℕ, suc, Bool, true, false, cond, List, [], ◌∷◌, Option, None, Some, add-one, ap, arith, filter, get_or, inl, inr, length, nat_eq, refl, subst, sym, take}
use Rattle.std.specs.Prelude.{Vec, bytes_eq, if◌then◌else◌, slice_get}
use Rattle.std.specs.Global.{Global}
use Rattle.std.specs.BTreeMap.{get_by_text}
use Rattle.std.specs.List.{flat_map, list_any}
use Rattle.std.specs.Option.{option_and_then, option_map_or}
use Rattle.std.proofs.Math.Seq.{get_or-append_seam}
use Rattle.std.proofs.lemmas.Bool.{cases_Bool, or_left, or_parts, or_right}
use Rattle.std.proofs.lemmas.Bool.Decides.{eqb_tells}
use Rattle.std.proofs.lemmas.List.{append-nil, length-append, length-map}
use Rattle.std.proofs.lemmas.List.Elements.{filter-append}
use Rattle.std.proofs.lemmas.List.Folds.{list_any_more}
use Rattle.std.proofs.lemmas.Option.{slice_get-get_or}
use Rattle.std.proofs.lemmas.Slice.Eq.{bytes_eq-Decides}
use Rattle.basics.specs.Members.{Has}
use Rattle.basics.proofs.Membership.{has-filter_back, has-slice_get}
use Rattle.dep_atom.specs.Match.{value_matches}
use Rattle.dep_atom.specs.Values.{AtomValue}
use Rattle.dep_tree.specs.Truth.{some_match}
use Rattle.pkg_state.specs.Consistent.{facts_of}
use Rattle.pkg_state.specs.Package.{Package}
use Rattle.pkg_state.proofs.Lists.{any_of_kind}
use Rattle.pkg_state.proofs.Named.{same_package}
use Rattle.basics.proofs.Members.{passes_some}
use Rattle.choice_law.specs.Universe.{Offer, Value, absent, keep, no_offer, package_of, variant}
use Rattle.choice_tree.specs.Candidates.{Candidate, all_free, free_line, if_free, kept, of_line, varied}
use Rattle.choice_tree.specs.Keys.{AreKeyed, HasCome, Lists, ends_with, has_key, keyed, last_if, lines_at, offers_in, offers_key, with_last}
use Rattle.choice_tree.specs.Open.{decides}
use Rattle.choice_tree.specs.Places.{Place, is_one, no_place, numbers, package_in, packages_in}
use Rattle.choice_tree.specs.declared.key.Key.{Key}
use Rattle.choice_tree.specs.declared.key.Key.TheVariants.{Own}
use Rattle.choice_tree.proofs.Numbers.{numbers_have, numbers_last}
use Rattle.choice_tree.proofs.Packages.{any_here}
use Rattle.choice_tree.proofs.Turned.{offer_in}

nat_eq_itself : (l : ℕ) → nat_eq l l ≡ true
nat_eq_itself l = elim (eqb_tells l l) [ inl r ↦ r.0 | inr r ↦ absurd (r.1 refl) ]

pub bytes_swap : (a b : List ℕ) (x : Bool) → bytes_eq a b ≡ x → bytes_eq b a ≡ x
bytes_swap a b true e = (bytes_eq-Decides b a).1 (sym ((bytes_eq-Decides a b).0 e))
bytes_swap a b false e = elim (cases_Bool (bytes_eq b a)) [
  | inl y ↦ absurd (let r : true ≡ false = sym ((bytes_eq-Decides a b).1 (sym ((bytes_eq-Decides b a).0 y))) ∙ e in cc r)
  | inr n ↦ n
]

abbrev pub items_of : Option (Vec ℕ Global) → List ℕ
items_of o = option_map_or (λ v. v.items) o []

-- one line more under a text
pub put_line : (name : List ℕ) (old mid new : Lists) (list pushed : Vec ℕ Global) (line : ℕ) → list.items ≡ lines_at old name → pushed.items ≡ list.items ++ line ∷ []
    → ((q : List ℕ) → get_by_text mid q ≡ cond (bytes_eq name q) None (get_by_text old q)) → ((q : List ℕ) → get_by_text new q ≡ cond (bytes_eq name q) (Some pushed) (get_by_text mid q))
    → (other : List ℕ) → lines_at new other ≡ lines_at old other ++ (if bytes_eq other name then line ∷ [] else [])
put_line name old mid new list pushed line is push first second other = elim (cases_Bool (bytes_eq name other)) [
  | inl y ↦ (
      let same : name ≡ other = (bytes_eq-Decides name other).0 y in
      ap items_of (second other) ∙ (ap (λ (b : Bool). items_of (cond b (Some pushed) (get_by_text mid other))) y
      ∙ (push ∙ (ap (λ (l : List ℕ). l ++ line ∷ []) (is ∙ ap (lines_at old) same)
      ∙ sym (ap (λ (b : Bool). lines_at old other ++ cond b (line ∷ []) []) (bytes_swap name other true y))))))
  | inr n ↦ (
      ap items_of (second other) ∙ (ap (λ (b : Bool). items_of (cond b (Some pushed) (get_by_text mid other))) n
      ∙ (ap items_of (first other) ∙ (ap (λ (b : Bool). items_of (cond b None (get_by_text old other))) n
      ∙ (sym (append-nil (lines_at old other)) ∙ sym (ap (λ (b : Bool). lines_at old other ++ cond b (line ∷ []) []) (bytes_swap name other false n)))))))
]

module _ (l : ℕ) where
  ends_behind : (ls : List ℕ) → ends_with l (ls ++ l ∷ []) ≡ true
  ends_behind ls =
      let long : length (ls ++ l ∷ []) ≡ length ls + 1 = length-append ls (l ∷ []) in
      let last : length (ls ++ l ∷ []) - 1 ≡ length ls = omega (arith, long) in
      let there : slice_get (ls ++ l ∷ []) (length ls) ≡ Some l =
      slice_get-get_or (ls ++ l ∷ []) (length ls) 0 (omega (arith, long)) ∙ ap (λ (n : ℕ). Some n) (get_or-append_seam ls l [] 0) in
      ap (λ (i : ℕ). is_one (nat_eq l) (slice_get (ls ++ l ∷ []) i)) last ∙ (ap (is_one (nat_eq l)) there ∙ nat_eq_itself l)

  -- behind lesser ones it doesn't stand
  ends_below : (ls : List ℕ) → ((x : ℕ) → Has ls x → x < l) → ends_with l ls ≡ false
  ends_below ls less = by_case (slice_get ls (length ls - 1)) refl where
    by_case : (o : Option ℕ) → slice_get ls (length ls - 1) ≡ o → is_one (nat_eq l) o ≡ false
    by_case None e = refl
    by_case (Some x) e = elim (eqb_tells l x) [
      | inl r ↦ absurd (let low = less x (has-slice_get ls (length ls - 1) x e) in let same = r.1 in omega (arith, low, same))
      | inr r ↦ r.0
    ]

  last_now : (ls : List ℕ) → ends_with l ls ≡ true → with_last l ls ≡ ls
  last_now ls e = ap (λ (b : Bool). cond b ls (ls ++ l ∷ [])) e

  last_added : (ls : List ℕ) → ends_with l ls ≡ false → with_last l ls ≡ ls ++ l ∷ []
  last_added ls e = ap (λ (b : Bool). cond b ls (ls ++ l ∷ [])) e

  last_again : (ls : List ℕ) → with_last l (with_last l ls) ≡ with_last l ls
  last_again ls = elim (cases_Bool (ends_with l ls)) [
    | inl y ↦ ap (with_last l) (last_now ls y)
    | inr n ↦ ap (with_last l) (last_added ls n) ∙ (last_now (ls ++ l ∷ []) (ends_behind ls) ∙ sym (last_added ls n))
  ]

  last_twice : (a b : Bool) (ls : List ℕ) → last_if b l (last_if a l ls) ≡ last_if (a || b) l ls
  last_twice true true ls = last_again ls
  last_twice true false ls = refl
  last_twice false b ls = refl

  -- it stands there
  pub come_before : (lists : Lists) (text : List ℕ) → ends_with l (lines_at lists text) ≡ true → HasCome l (λ other. bytes_eq other text) lists lists
  come_before lists text ends other = elim (cases_Bool (bytes_eq other text)) [
    | inl y ↦ (
        let same : text ≡ other = sym ((bytes_eq-Decides other text).0 y) in
        let here : ends_with l (lines_at lists other) ≡ true = subst (λ (t : List ℕ). ends_with l (lines_at lists t) ≡ true) same ends in
        sym (ap (λ (b : Bool). last_if b l (lines_at lists other)) y ∙ last_now (lines_at lists other) here))
    | inr n ↦ sym (ap (λ (b : Bool). last_if b l (lines_at lists other)) n)
  ]

  -- it has come
  pub come_now : (old new : Lists) (text : List ℕ) → ends_with l (lines_at old text) ≡ false → ((other : List ℕ) → lines_at new other ≡ lines_at old other ++ (if bytes_eq other text then l ∷ [] else [])) → HasCome l (λ other. bytes_eq other text) old new
  come_now old new text ends is other = elim (cases_Bool (bytes_eq other text)) [
    | inl y ↦ (
        let same : text ≡ other = sym ((bytes_eq-Decides other text).0 y) in
        let here : ends_with l (lines_at old other) ≡ false = subst (λ (t : List ℕ). ends_with l (lines_at old t) ≡ false) same ends in
        is other ∙ (ap (λ (b : Bool). lines_at old other ++ cond b (l ∷ []) []) y
        ∙ sym (ap (λ (b : Bool). last_if b l (lines_at old other)) y ∙ last_added (lines_at old other) here)))
    | inr n ↦ is other ∙ (ap (λ (b : Bool). lines_at old other ++ cond b (l ∷ []) []) n
        ∙ (append-nil (lines_at old other) ∙ sym (ap (λ (b : Bool). last_if b l (lines_at old other)) n)))
  ]

  -- it comes under these, and then under those
  pub come_more : (one two : List ℕ → Bool) (old mid new : Lists) → HasCome l one old mid → HasCome l two mid new → HasCome l (λ text. one text || two text) old new
  come_more one two old mid new first second text =
      second text ∙ (ap (last_if (two text) l) (first text) ∙ last_twice (one text) (two text) (lines_at old text))

  -- the same item by item
  pub come_each : {A : Type 0} (f : List ℕ → A → Bool) (xs : List A) (i : ℕ) (x d : A) (old mid new : Lists) → i < length xs → x ≡ get_or xs i d
      → HasCome l (λ text. list_any (f text) (take i xs)) old mid → HasCome l (λ text. f text x) mid new → HasCome l (λ text. list_any (f text) (take (i + 1) xs)) old new
  come_each {A} f xs i x d old mid new less is first second text =
      come_more (λ t. list_any (f t) (take i xs)) (λ t. f t x) old mid new first second text
      ∙ ap (λ (b : Bool). last_if b l (lines_at old text)) (sym (list_any_more (f text) xs i d less ∙ ap (λ (y : A). list_any (f text) (take i xs) || f text y) (sym is)))

-- one line more is gone through
pub keyed_more : (key : Key) (os : List Offer) (l : ℕ) (o : Offer) (old new : Lists) → o ≡ get_or os l no_offer → ((text : List ℕ) → lines_at old text ≡ keyed key os text l)
    → HasCome l (λ text. offers_key key text o) old new → (text : List ℕ) → lines_at new text ≡ keyed key os text (l + 1)
keyed_more key os l o old new is before come text =
    let test : ℕ → Bool = λ (k : ℕ). offers_key key text (get_or os k no_offer) in
    let at_l : 0 + l ≡ l = omega arith in
    let less : (x : ℕ) → Has (keyed key os text l) x → x < l = λ (x : ℕ) (h : Has (keyed key os text l) x). let r = numbers_have l 0 x (has-filter_back test (numbers l 0) x h).0 in omega (arith, r.1) in
    let off = ends_below l (keyed key os text l) less in
    let here : offers_key key text o ≡ test l = ap (offers_key key text) is in
    come text ∙ (ap (last_if (offers_key key text o) l) (before text)
    ∙ (ap (λ (b : Bool). last_if b l (keyed key os text l)) here
    ∙ (by_case (test l) l (keyed key os text l) off
    ∙ sym (ap (λ (n : ℕ). filter test (numbers n 0)) (add-one l)
    ∙ (ap (filter test) (numbers_last l 0)
    ∙ (filter-append test (numbers l 0) ((0 + l) ∷ [])
    ∙ ap (λ (n : ℕ). keyed key os text l ++ filter test (n ∷ [])) at_l))))))
  where
    by_case : (b : Bool) (l : ℕ) (ls : List ℕ) → ends_with l ls ≡ false → last_if b l ls ≡ ls ++ cond b (l ∷ []) []
    by_case true l ls e = last_added l ls e
    by_case false l ls e = sym (append-nil ls)

pub offered : (test : Package → Bool) (o : Offer) (v : Value) → is_one test (package_of o v) ≡ true → (is_one test o.installed || list_any test o.variants) ≡ true
offered test o keep e = or_left (is_one test o.installed) (list_any test o.variants) e
offered test o absent e = absurd (cc e)
offered test o (variant i) e = or_right (is_one test o.installed) (list_any test o.variants) (by_case (slice_get o.variants i) refl e) where
  by_case : (x : Option Package) → slice_get o.variants i ≡ x → is_one test x ≡ true → list_any test o.variants ≡ true
  by_case None there passes = absurd (cc passes)
  by_case (Some p) there passes = passes_some test o.variants p (has-slice_get o.variants i p there) passes

-- what stands on a line is offered there
pub stands_offered : (test : Package → Bool) (ss : List Place) (l : ℕ) → is_one test (package_in (get_or ss l no_place)) ≡ true → (is_one test (get_or (offers_in ss) l no_offer).installed || list_any test (get_or (offers_in ss) l no_offer).variants) ≡ true
stands_offered test ss l e =
    subst (λ (o : Offer). (is_one test o.installed || list_any test o.variants) ≡ true) (offer_in ss l)
    (offered test (get_or ss l no_place).offer _ e)

any_from : (g : Place → Bool) (h : ℕ → Bool) (ss : List Place) (k : ℕ) → ((l : ℕ) → h (k + l) ≡ g (get_or ss l no_place)) → list_any g ss ≡ list_any h (numbers (length ss) k)
any_from g h [] k each = refl
any_from g h (s ∷ ss) k each =
    let at_k : k ≡ k + 0 = omega arith in
    let first : g s ≡ h k = sym (ap h at_k ∙ each 0) in
    ap (λ (b : Bool). b || list_any g ss) first
    ∙ ap (λ (b : Bool). h k || b) (any_from g h ss (suc k) (λ l. (let one_on : suc k + l ≡ k + suc l = omega arith in ap h one_on) ∙ each (suc l)))

pub any_numbered : (g : Place → Bool) (ss : List Place) → list_any g ss ≡ list_any (λ l. g (get_or ss l no_place)) (numbers (length ss) 0)
any_numbered g ss = any_from g (λ l. g (get_or ss l no_place)) ss 0 (λ l. let at_l : 0 + l ≡ l = omega arith in ap (λ (n : ℕ). g (get_or ss n no_place)) at_l)

module _ (key : Key) (text : List ℕ) (ss : List Place) (lists : Lists) (are : AreKeyed key (offers_in ss) lists) where
  abbrev offers : ℕ → Bool
  offers l = offers_key key text (get_or (offers_in ss) l no_offer)

  long : length (offers_in ss) ≡ length ss
  long = length-map ss (λ (s : Place). s.offer)

  -- where only lines that offer it pass, a look at these is enough
  pub any_keyed : (h : ℕ → Bool) → ((l : ℕ) → h l ≡ true → offers l ≡ true) → list_any h (lines_at lists text) ≡ list_any h (numbers (length ss) 0)
  any_keyed h each =
      ap (list_any h) (are text) ∙ (any_of_kind h offers each (numbers (length (offers_in ss)) 0)
      ∙ ap (λ (n : ℕ). list_any h (numbers n 0)) long)

  kept_of : (t : Candidate → Bool) (f : ℕ → List Candidate) → ((l : ℕ) → offers l ≡ false → filter t (f l) ≡ []) → (ls : List ℕ) → filter t (flat_map f (filter offers ls)) ≡ filter t (flat_map f ls)
  kept_of t f off [] = refl
  kept_of t f off (l ∷ ls) = elim (cases_Bool (offers l)) [
    | inl y ↦ ap (λ (b : Bool). filter t (flat_map f (cond b (l ∷ filter offers ls) (filter offers ls)))) y
        ∙ (filter-append t (f l) (flat_map f (filter offers ls))
        ∙ (ap (λ (xs : List Candidate). filter t (f l) ++ xs) (kept_of t f off ls) ∙ sym (filter-append t (f l) (flat_map f ls))))
    | inr n ↦ ap (λ (b : Bool). filter t (flat_map f (cond b (l ∷ filter offers ls) (filter offers ls)))) n
        ∙ (kept_of t f off ls
        ∙ sym (filter-append t (f l) (flat_map f ls) ∙ ap (λ (xs : List Candidate). xs ++ filter t (flat_map f ls)) (off l n)))
  ]

  pub gathered_keyed : (t : Candidate → Bool) (f : ℕ → List Candidate) → ((l : ℕ) → offers l ≡ false → filter t (f l) ≡ []) → filter t (flat_map f (lines_at lists text)) ≡ filter t (flat_map f (numbers (length ss) 0))
  gathered_keyed t f off =
      ap (λ (ls : List ℕ). filter t (flat_map f ls)) (are text) ∙ (kept_of t f off (numbers (length (offers_in ss)) 0)
      ∙ ap (λ (n : ℕ). filter t (flat_map f (numbers n 0))) long)

-- what the atom matches on the lines of its name is what it matches
pub match_keyed : (ss : List Place) (lists : Lists) (a : AtomValue) (asker : List (List ℕ)) (name ls : List ℕ) → AreKeyed Own (offers_in ss) lists → name ≡ a.name.«package» → ls ≡ lines_at lists name
    → list_any (λ l. is_one (λ p. value_matches a p.facts asker) (package_in (get_or ss l no_place))) ls ≡ some_match (facts_of (packages_in ss)) asker a
match_keyed ss lists a asker name ls are is those =
    let test : Package → Bool = λ (p : Package). value_matches a p.facts asker in
    let h : ℕ → Bool = λ (l : ℕ). is_one test (package_in (get_or ss l no_place)) in
    ap (list_any h) (those ∙ ap (lines_at lists) is)
    ∙ (any_keyed Own a.name.«package» ss lists are h (λ l e. stands_offered (has_key Own a.name.«package») ss l (named (package_in (get_or ss l no_place)) e))
    ∙ (sym (any_numbered (λ (s : Place). is_one test (package_in s)) ss)
    ∙ sym (any_here (λ f. value_matches a f asker) ss)))
  where
    named : (o : Option Package) → is_one (λ p. value_matches a p.facts asker) o ≡ true → is_one (has_key Own a.name.«package») o ≡ true
    named None e = absurd (cc e)
    named (Some p) e = same_package a p.facts asker e

module _ (a : AtomValue) (asker : List (List ℕ)) where
  abbrev serves : Candidate → Bool
  serves x = value_matches a x.is.facts asker

  abbrev named : Package → Bool
  named p = has_key Own a.name.«package» p

  unmatched : (p : Package) → named p ≡ false → value_matches a p.facts asker ≡ false
  unmatched p off = elim (cases_Bool (value_matches a p.facts asker)) [
    | inl y ↦ absurd (let r : true ≡ false = sym (same_package a p.facts asker y) ∙ off in cc r)
    | inr n ↦ n
  ]

  none_kept : (l : ℕ) (o : Option Package) → is_one named o ≡ false → filter serves (kept l o) ≡ []
  none_kept l None off = refl
  none_kept l (Some p) off = ap (λ (b : Bool). cond b (record { line = l; value = keep; is = p } ∷ []) []) (unmatched p off)

  none_varied : (l i : ℕ) (ps : List Package) → list_any named ps ≡ false → filter serves (varied l i ps) ≡ []
  none_varied l i [] off = refl
  none_varied l i (p ∷ ps) off =
      let both = or_parts (named p) (list_any named ps) off in
      ap (λ (b : Bool). cond b (record { line = l; value = variant i; is = p } ∷ filter serves (varied l (suc i) ps)) (filter serves (varied l (suc i) ps))) (unmatched p both.0)
      ∙ none_varied l (suc i) ps both.1

  none_free : (d : Option Value) (l : ℕ) (o : Offer) → offers_key Own a.name.«package» o ≡ false → filter serves (if_free d (of_line true l o)) ≡ []
  none_free (Some v) l o off = refl
  none_free None l o off =
      let both = or_parts (is_one named o.installed) (list_any named o.variants) off in
      filter-append serves (kept l o.installed) (varied l 0 o.variants)
      ∙ (ap (λ (xs : List Candidate). xs ++ filter serves (varied l 0 o.variants)) (none_kept l o.installed both.0) ∙ none_varied l 0 o.variants both.1)

  -- what serves an atom stands on the lines of its name
  pub served_keyed : (ss : List Place) (lists : Lists) (name ls : List ℕ) → AreKeyed Own (offers_in ss) lists → name ≡ a.name.«package» → ls ≡ lines_at lists name
      → filter serves (flat_map (λ l. free_line true ss l) ls) ≡ filter serves (all_free ss)
  served_keyed ss lists name ls are is those =
      ap (λ (ks : List ℕ). filter serves (flat_map (λ l. free_line true ss l) ks)) (those ∙ ap (lines_at lists) is)
      ∙ gathered_keyed Own a.name.«package» ss lists are serves (λ l. free_line true ss l) (λ l off.
      none_free (get_or ss l no_place).decided l (get_or ss l no_place).offer (ap (offers_key Own a.name.«package») (offer_in ss l) ∙ off))

-- what decides a wanted atom is found among the lines of its name
pub decided_keyed : (ss : List Place) (lists : Lists) (a : AtomValue) (name ls : List ℕ) → AreKeyed Own (offers_in ss) lists → name ≡ a.name.«package» → ls ≡ lines_at lists name
    → list_any (λ l. decides a (get_or ss l no_place)) ls ≡ list_any (decides a) ss
decided_keyed ss lists a name ls are is those =
    ap (list_any (λ (l : ℕ). decides a (get_or ss l no_place))) (those ∙ ap (lines_at lists) is)
    ∙ (any_keyed Own a.name.«package» ss lists are (λ (l : ℕ). decides a (get_or ss l no_place)) (λ l e.
    subst (λ (o : Offer). offers_key Own a.name.«package» o ≡ true) (offer_in ss l) (by_value (get_or ss l no_place).offer (get_or ss l no_place).decided e))
    ∙ sym (any_numbered (decides a) ss))
  where
    named : (o : Option Package) → is_one (λ p. value_matches a p.facts []) o ≡ true → is_one (has_key Own a.name.«package») o ≡ true
    named None e = absurd (cc e)
    named (Some p) e = same_package a p.facts [] e

    by_value : (o : Offer) (d : Option Value) → is_one (λ p. value_matches a p.facts []) (option_and_then (package_of o) d) ≡ true → offers_key Own a.name.«package» o ≡ true
    by_value o None e = absurd (cc e)
    by_value o (Some v) e = offered (has_key Own a.name.«package») o v (named (package_of o v) e)

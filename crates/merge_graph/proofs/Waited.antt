-- The components to which edges go, one edge after another.
use Rattle.std.proofs.Common.{◌≡◌, ◌≢◌, ◌∙◌, ◌<◌, ◌≤◌, ◌+◌, ◌⊎◌, ◌++◌, ◌↔◌, ℕ, suc, true, List, [], ◌∷◌, None, Option, Some, ap, arith, get_or, inl, inr, length, map, refl, subst, sym, take}
use Rattle.std.specs.Prelude.{slice_get, slice_index}
use Rattle.std.specs.BTreeSet.{BTreeSet, contains}
use Rattle.std.specs.List.{list_any}
use Rattle.std.specs.List.Sorted.{IsStrictlySortedBy}
use Rattle.std.specs.Option.{option_map}
use Rattle.std.specs.Ordering.{is_eq, nat_cmp}
use Rattle.std.specs.declared.cmp.Ordering.{Ordering}
use Rattle.std.specs.declared.cmp.Ordering.TheVariants.{Equal, Greater, Less}
use Rattle.std.proofs.lemmas.Bool.{cases_order, eq-eqb, false≢true, le-ltb, or_cases, or_left, or_right}
use Rattle.std.proofs.lemmas.List.{get_or-map, get_or_at, get_or_append_left, length-map, length_push, take_all}
use Rattle.std.proofs.lemmas.Option.{get_or_from_slice_get, slice_get_within}
use Rattle.std.proofs.lemmas.Map.Lookups.{exact_unsigned}
use Rattle.basics.specs.Members.{Has}
use Rattle.basics.proofs.Each.{all_has}
use Rattle.basics.proofs.Membership.{has-slice_get}
use Rattle.basics.proofs.Texts.{nat_cmp-greater}
use Rattle.merge_graph.specs.After.{AreAfter, IsAfter}
use Rattle.merge_graph.specs.Rows.{AreRising, places_of}
use Rattle.merge_graph.specs.declared.edge.Edge.{Edge}
use Rattle.merge_graph.proofs.Checking.{has_before, has_last, has_more}
use Rattle.merge_graph.proofs.RowLemmas.{has_place, place_holds}

tied : (o : Ordering) → is_eq o ≡ true → o ≡ Equal
tied Less e = absurd (cc e)
tied Equal e = refl
tied Greater e = absurd (cc e)

same_number : (j x : ℕ) → is_eq (nat_cmp j x) ≡ true → j ≡ x
same_number j x on = exact_unsigned j x (tied (nat_cmp j x) on)

itself : (j : ℕ) → is_eq (nat_cmp j j) ≡ true
itself j =
    let not_below = le-ltb j j (omega arith) in
    let same = eq-eqb j j refl in
    rw (not_below, same) refl

-- a set's keys are its members
pub has_key : (xs : List ℕ) (j : ℕ) → list_any (λ x. is_eq (nat_cmp j x)) xs ≡ true → Has xs j
has_key [] j on = absurd (false≢true on)
has_key (x ∷ xs) j on = elim (or_cases (is_eq (nat_cmp j x)) (list_any (λ y. is_eq (nat_cmp j y)) xs) on) [
  | inl here ↦ inl (sym (same_number j x here))
  | inr later ↦ inr (has_key xs j later)
]

pub key_has : (xs : List ℕ) (j : ℕ) → Has xs j → list_any (λ x. is_eq (nat_cmp j x)) xs ≡ true
key_has [] j h = absurd h
key_has (x ∷ xs) j (inl same) = or_left (is_eq (nat_cmp j x)) (list_any (λ y. is_eq (nat_cmp j y)) xs) (subst (λ (n : ℕ). is_eq (nat_cmp j n) ≡ true) (sym same) (itself j))
key_has (x ∷ xs) j (inr h) = or_right (is_eq (nat_cmp j x)) (list_any (λ y. is_eq (nat_cmp j y)) xs) (key_has xs j h)

less_below : (x y : ℕ) → nat_cmp x y ≡ Less → x < y
less_below x y less = elim (cases_order x y) [
  | inl same ↦ absurd (let e : Equal ≡ Less = sym (tied (nat_cmp x y) (subst (λ (n : ℕ). is_eq (nat_cmp x n) ≡ true) same (itself x))) ∙ less in cc e)
  | inr (inl below) ↦ below
  | inr (inr above) ↦ absurd (let e : Greater ≡ Less = sym (nat_cmp-greater x y above) ∙ less in cc e)
]

pub sorted_rise : (xs : List ℕ) → IsStrictlySortedBy nat_cmp xs → AreRising xs
unfolding IsStrictlySortedBy
sorted_rise [] s = tt
sorted_rise (x ∷ xs) s = ((λ y h. less_below x y (all_has (λ z. nat_cmp x z ≡ Less) xs y s.0 h)), sorted_rise xs s.1)

-- these are the components to which the edges at these places go, but for that one
pub record AreTargets (es : List Edge) (numbers : List ℕ) (places : List ℕ) (number : ℕ) (targets : BTreeSet ℕ) : Type 0 where
  pub sound : (j : ℕ) → contains nat_cmp targets j ≡ true → (j ≢ number) × (i : ℕ) × Has places i × (e : Edge) × (slice_get es i ≡ Some e) × (slice_index numbers e.to ≡ j)
  pub complete : (i : ℕ) (e : Edge) → Has places i → slice_get es i ≡ Some e → slice_index numbers e.to ≢ number → contains nat_cmp targets (slice_index numbers e.to) ≡ true

mapped_some : {A : Type 0} (f : A → ℕ) (o : Option A) (to : ℕ) → Some to ≡ option_map f o → (e : A) × (o ≡ Some e) × (f e ≡ to)
mapped_some f None to is = absurd (cc is)
mapped_some f (Some e) to is = (e, refl, (let same : to ≡ f e = cc is in sym same))

mapped_none : {A : Type 0} (f : A → ℕ) (o : Option A) (e : A) → None ≡ option_map f o → o ≡ Some e → ⊥
mapped_none f o e is some = let bad : None ≡ Some (f e) = is ∙ ap (option_map f) some in cc bad

one_of : {A : Type 0} (o : Option A) (e f : A) → o ≡ Some e → o ≡ Some f → e ≡ f
one_of {A = A} o e f a b = let same : Some e ≡ Some f = sym a ∙ b in cc same

module _ (es : List Edge) (numbers places : List ℕ) (n number i : ℕ) (less : n < length places) (is_i : i ≡ get_or places n 0) where
  -- one edge more
  pub targets_more : (old new : BTreeSet ℕ) (to : ℕ) → AreTargets es numbers (take n places) number old → Some to ≡ option_map (λ e. slice_index numbers e.to) (slice_get es i)
      → ((j : ℕ) → contains nat_cmp new j ≡ true ↔ (contains nat_cmp old j ≡ true ⊎ ((j ≢ number) × (to ≡ j)))) → AreTargets es numbers (take (n + 1) places) number new
  targets_more old new to are is both =
      let e = mapped_some (λ f. slice_index numbers f.to) (slice_get es i) to is in
      record {
        sound = λ j on. elim ((both j).0 on) [
          | inl before ↦ (let s = are.sound j before in (s.0, s.1, has_before places n 0 s.1 less s.2, s.3, s.4, s.5))
          | inr now ↦ (now.0, i, subst (λ (m : ℕ). Has (take (n + 1) places) m) (sym is_i) (has_last places n 0 less), e.0, e.1, e.2 ∙ now.1)
        ];
        complete = λ k f has at other. elim (has_more places n 0 k less has) [
          | inl before ↦ (both (slice_index numbers f.to)).1 (inl (are.complete k f before at other))
          | inr now ↦ (
              let same : f ≡ e.0 = one_of (slice_get es i) f e.0 (ap (slice_get es) (is_i ∙ now) ∙ at) e.1 in
              let to_same : to ≡ slice_index numbers f.to = sym (ap (λ (g : Edge). slice_index numbers g.to) same ∙ e.2) in
              (both (slice_index numbers f.to)).1 (inr (other, to_same))
              )
        ];
      }

  pub targets_same : (old new : BTreeSet ℕ) → AreTargets es numbers (take n places) number old → None ≡ option_map (λ e. slice_index numbers e.to) (slice_get es i)
      → new ≡ old → AreTargets es numbers (take (n + 1) places) number new
  targets_same old new are is same = subst (λ (t : BTreeSet ℕ). AreTargets es numbers (take (n + 1) places) number t) (sym same) record {
    sound = λ j on. (let s = are.sound j on in (s.0, s.1, has_before places n 0 s.1 less s.2, s.3, s.4, s.5));
    complete = λ k f has at other. elim (has_more places n 0 k less has) [
      | inl before ↦ are.complete k f before at other
      | inr now ↦ absurd (mapped_none (λ g. slice_index numbers g.to) (slice_get es i) f is (ap (slice_get es) (is_i ∙ now) ∙ at))
    ];
  }

pub no_targets : (es : List Edge) (numbers : List ℕ) (number : ℕ) (targets : BTreeSet ℕ) → targets.keys ≡ [] → AreTargets es numbers [] number targets
no_targets es numbers number targets empty = record {
  sound = λ j on. absurd (false≢true (sym (ap (λ (ks : List ℕ). list_any (λ x. is_eq (nat_cmp j x)) ks) empty) ∙ on));
  complete = λ i e has. absurd has;
}

pub slice_get_map : {A : Type 0} (f : A → ℕ) (es : List A) (i : ℕ) (e : A) → slice_get es i ≡ Some e → (i < length (map f es)) × (get_or (map f es) i 0 ≡ f e)
slice_get_map f es i e at =
    let within = slice_get_within es i e at in
    (omega (arith, within, length-map es f), get_or-map f es i e 0 within ∙ ap f (get_or_from_slice_get es i e e at))

pub has_slice : {A : Type 0} (es : List A) (e : A) → Has es e → (i : ℕ) × (slice_get es i ≡ Some e)
has_slice [] e h = absurd h
has_slice (f ∷ es) e (inl same) = (0, ap Some same)
has_slice (f ∷ es) e (inr h) = let r = has_slice es e h in (suc r.0, r.1)

-- all edges from a component are seen
pub after_all : (es : List Edge) (numbers places list : List ℕ) (n number : ℕ) (targets : BTreeSet ℕ) → length places ≤ n → places ≡ places_of (map (λ e. slice_index numbers e.from) es) number
    → AreTargets es numbers (take n places) number targets → AreRising list → list ≡ targets.keys → IsAfter es numbers number list
after_all es numbers places list n number targets past is are rise same =
    let from = λ (e : Edge). slice_index numbers e.from in
    let all : AreTargets es numbers places number targets = subst (λ (l : List ℕ). AreTargets es numbers l number targets) (take_all n places past) are in
    record {
      rising = rise;
      members = λ j. (
        (λ has.
            let s = all.sound j (key_has targets.keys j (subst (λ (l : List ℕ). Has l j) same has)) in
            let held = place_holds (map from es) number s.1 (subst (λ (l : List ℕ). Has l s.1) is s.2) in
            let at = slice_get_map from es s.1 s.3 s.4 in
            (s.0, s.3.from, s.3.to, (s.3, has-slice_get es s.1 s.3 s.4, refl, refl), sym at.1 ∙ held.1, s.5)),
        (λ waits.
            let g = waits.3 in
            let r = has_slice es g.0 g.1 in
            let at = slice_get_map from es r.0 g.0 r.1 in
            let from_same : get_or (map from es) r.0 0 ≡ number = at.1 ∙ (ap (slice_index numbers) g.2 ∙ waits.4) in
            let to_same : slice_index numbers g.0.to ≡ j = ap (slice_index numbers) g.3 ∙ waits.5 in
            let has : Has places r.0 = subst (λ (l : List ℕ). Has l r.0) (sym is) (has_place (map from es) number r.0 at.0 from_same) in
            let on = all.complete r.0 g.0 has r.1 (λ e. waits.0 (sym to_same ∙ e)) in
            subst (λ (l : List ℕ). Has l j) (sym same) (has_key targets.keys j (ap (contains nat_cmp targets) (sym to_same) ∙ on))),
      );
    }

-- one component more
pub afters_more : (es : List Edge) (numbers : List ℕ) (n : ℕ) (all : List (List ℕ)) (one : List ℕ) → AreAfter es numbers n all → IsAfter es numbers n one → AreAfter es numbers (n + 1) (all ++ one ∷ [])
afters_more es numbers n all one are is = record {
  each = length_push all one ∙ ap (λ (m : ℕ). m + 1) are.each;
  after = λ k less. elim (cases_order k n) [
    | inl same ↦ subst (λ (l : List ℕ). IsAfter es numbers k l) (sym (get_or_at all one [] [] k (are.each ∙ sym same))) (subst (λ (m : ℕ). IsAfter es numbers m one) (sym same) is)
    | inr (inl below) ↦ subst (λ (l : List ℕ). IsAfter es numbers k l) (sym (get_or_append_left all (one ∷ []) [] k (omega (arith, below, are.each)))) (are.after k below)
    | inr (inr above) ↦ absurd (omega (arith, less, above))
  ];
}

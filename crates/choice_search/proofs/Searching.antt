-- What a search keeps: the dead leaves that it met, and what is still ahead of it.
use Rattle.std.proofs.Common.{◌≡◌, ◌<◌, ◌≤◌, ◌+◌, ◌-◌, ◌*◌, ◌∙◌, ◌++◌, ℕ, suc, List, [], ◌∷◌, Option, None, Some, length, map, take, inl, inr, refl, sym, ap, arith, subst}
use Rattle.std.proofs.Math.Nat.{suc-mul}
use Rattle.std.proofs.Math.Seq.{take-append_seam}
use Rattle.std.proofs.lemmas.List.{append-nil, append_assoc, length-append}
use Rattle.basics.specs.Members.{Has}
use Rattle.basics.proofs.Membership.{has-append_cases}
use Rattle.choice_search.specs.Frames.{AreAmong, IsAhead, Level, left_over, resumed, to_try}
use Rattle.choice_search.specs.Laws.{IsDeep}
use Rattle.choice_search.specs.Shape.{Shape}
use Rattle.choice_search.specs.Visit.{Visit, barren, behind, ending, joined, over, reached, seen_as, visit, visit_by}
use Rattle.choice_search.proofs.Resuming.{resumed_behind, resumed_reached}
use Rattle.choice_search.proofs.Walk.{unfolds}

-- how high the tree of the next one is
abbrev pub high : {C : Type 0} → Shape C → Option C → ℕ
high shape None = 0
high shape (Some c) = suc (shape.room c)

-- the steps that a search has at most, where so many dead leaves may still come
abbrev pub steps_left : {C : Type 0} → Shape C → ℕ → ℕ → Option C → ℕ
steps_left shape top left next = left * suc (suc top) + high shape next

module _ {C : Type 0} (shape : Shape C) (root : C) (limit : ℕ) where
  -- these dead leaves were met, and what is ahead makes it the whole visit
  pub record IsSearching (met : List C) (levels : List (Level C)) (next : Option C) : Type 0 where
    pub fewer : length met < limit
    pub view : Visit C
    pub ahead : IsAhead shape levels view next
    pub whole : behind met view ≡ visit shape root
    pub low : (c : C) → Has (to_try levels next) c → shape.room c ≤ shape.room root

  pub begun : 0 < limit → IsSearching [] [] (Some root)
  begun some = record {
    fewer = some;
    view = visit shape root;
    ahead = refl;
    whole = refl;
    low = λ c at_c. elim at_c [
      | inl e ↦ (let same = ap shape.room e in omega (arith, same))
      | inr none ↦ absurd none
    ];
  }

  whole_of : (met : List C) (levels : List (Level C)) (c : C) (v : Visit C) → IsSearching met levels (Some c) → visit shape c ≡ v → behind met (resumed shape levels v) ≡ visit shape root
  whole_of met levels c v s e =
      ap (λ (w : Visit C). behind met (resumed shape levels w)) (sym e)
      ∙ ap (λ (w : Visit C). behind met w) (sym s.ahead)
      ∙ s.whole

  ends_at : (met : List C) (v : Visit C) → behind met v ≡ visit shape root → v.met ≡ [] → length met < limit → (ending (visit shape root).end ≡ ending v.end) × (length (visit shape root).met < limit)
  ends_at met v e none fewer = (
    ap (λ (w : Visit C). ending w.end) (sym e),
    subst (λ (xs : List C). length xs < limit) (sym (append-nil met) ∙ ap (λ (xs : List C). met ++ xs) (sym none) ∙ ap (λ (w : Visit C). w.met) e) fewer,
  )

  pub none_good : (met : List C) (levels : List (Level C)) → IsSearching met levels None → (ending (visit shape root).end ≡ None) × (met ≡ (visit shape root).met) × (length (visit shape root).met < limit)
  none_good met levels s =
      let same = ap (λ (w : Visit C). behind met w) (sym s.ahead.1) ∙ s.whole in
      let r = ends_at met (seen_as [] (barren s.ahead.0)) same refl s.fewer in
      (r.0, sym (append-nil met) ∙ ap (λ (w : Visit C). w.met) same, r.1)

  module _ (deep : IsDeep shape.options shape.room) where
    seen : (c : C) (x : Option (List C)) → shape.options c ≡ x → visit shape c ≡ visit_by shape (visit shape) c x
    seen c x is = unfolds shape deep c ∙ ap (λ (y : Option (List C)). visit_by shape (visit shape) c y) is

    pub found_good : (met : List C) (levels : List (Level C)) (c : C) → IsSearching met levels (Some c) → shape.options c ≡ None → (ending (visit shape root).end ≡ Some c) × (length (visit shape root).met < limit)
    found_good met levels c s is =
        let same = ap (λ (w : Visit C). behind met w) (sym (resumed_reached shape levels c)) ∙ whole_of met levels c (seen_as [] (reached c)) s (seen c None is) in
        ends_at met (seen_as [] (reached c)) same refl s.fewer

    -- of the dead leaf that is met, and what comes after it
    one_more : (met now : List C) (levels : List (Level C)) (c : C) (cause : List ℕ) → IsSearching met levels (Some c) → shape.options c ≡ Some [] → cause ≡ joined (shape.knows c) [] (shape.reason c) → now ≡ met ++ c ∷ [] → behind now (resumed shape levels (seen_as [] (barren cause))) ≡ visit shape root
    one_more met now levels c cause s is cause_is now_is =
        let rest = resumed shape levels (seen_as [] (barren cause)) in
        let here : visit shape c ≡ behind (c ∷ []) (seen_as [] (barren cause)) = seen c (Some []) is ∙ ap (λ (w : List ℕ). behind (c ∷ []) (seen_as [] (barren w))) (sym cause_is) in
        ap (λ (cs : List C). behind cs rest) now_is
        ∙ ap (λ (cs : List C). seen_as cs rest.end) (append_assoc met (c ∷ []) rest.met)
        ∙ ap (λ (w : Visit C). behind met w) (sym (resumed_behind shape levels (c ∷ []) (seen_as [] (barren cause))))
        ∙ whole_of met levels c (behind (c ∷ []) (seen_as [] (barren cause))) s here

    pub at_limit : (met now : List C) (levels : List (Level C)) (c : C) (cause : List ℕ) → IsSearching met levels (Some c) → shape.options c ≡ Some [] → cause ≡ joined (shape.knows c) [] (shape.reason c) → now ≡ met ++ c ∷ [] → length now ≡ limit → (now ≡ take limit (visit shape root).met) × (limit ≤ length (visit shape root).met)
    at_limit met now levels c cause s is cause_is now_is full =
        let rest = (resumed shape levels (seen_as [] (barren cause))).met in
        let same : now ++ rest ≡ (visit shape root).met = ap (λ (w : Visit C). w.met) (one_more met now levels c cause s is cause_is now_is) in
        let taken : take limit (visit shape root).met ≡ now = ap (take limit) (sym same) ∙ ap (λ (n : ℕ). take n (now ++ rest)) (sym full) ∙ take-append_seam now rest in
        let long : length (visit shape root).met ≡ length now + length rest = ap length (sym same) ∙ length-append now rest in
        (sym taken, omega (arith, long, full))

    pub back : (met now : List C) (levels levels' : List (Level C)) (c : C) (cause : List ℕ) (next : Option C) → IsSearching met levels (Some c) → shape.options c ≡ Some [] → cause ≡ joined (shape.knows c) [] (shape.reason c) → now ≡ met ++ c ∷ [] → ¬ (length now ≡ limit) → IsAhead shape levels' (resumed shape levels (seen_as [] (barren cause))) next → AreAmong (to_try levels' next) (to_try levels None) → IsSearching now levels' next
    back met now levels levels' c cause next s is cause_is now_is more ahead among =
        let longer : length now ≡ length met + 1 = ap length now_is ∙ length-append met (c ∷ []) in
        let few = s.fewer in
        record {
          fewer = omega (arith, longer, few, more);
          view = resumed shape levels (seen_as [] (barren cause));
          ahead = ahead;
          whole = one_more met now levels c cause s is cause_is now_is;
          low = λ x h. s.low x (inr (among x h));
        }

    pub searched_down : (met : List C) (levels levels' : List (Level C)) (c d : C) (opts : List C) (l : Level C) → IsSearching met levels (Some c) → shape.options c ≡ Some opts → opts ≡ d ∷ l.rest → levels' ≡ l ∷ levels → l.choice ≡ c → l.cause ≡ [] → IsSearching met levels' (Some d)
    searched_down met levels levels' c d opts l s is these pushed choice_is cause_is =
        let here : visit shape c ≡ over shape c [] (map (visit shape) (d ∷ l.rest)) = seen c (Some (d ∷ l.rest)) (is ∙ ap (λ (ds : List C). Some ds) these) in
        let framed : over shape c [] (map (visit shape) (d ∷ l.rest)) ≡ over shape l.choice l.cause (map (visit shape) (d ∷ l.rest)) =
        ap (λ (x : C). over shape x [] (map (visit shape) (d ∷ l.rest))) (sym choice_is)
        ∙ ap (λ (w : List ℕ). over shape l.choice w (map (visit shape) (d ∷ l.rest))) (sym cause_is) in
        let high_c = s.low c (inl refl) in
        let option_low : (x : C) → Has (d ∷ l.rest) x → shape.room x ≤ shape.room root = λ x h. (let less = deep c x opts is (subst (λ (xs : List C). Has xs x) (sym these) h) in omega (arith, less, high_c)) in
        record {
          fewer = s.fewer;
          view = s.view;
          ahead =
              s.ahead
              ∙ ap (resumed shape levels) (here ∙ framed)
              ∙ ap (λ (xs : List (Level C)). resumed shape xs (visit shape d)) (sym pushed);
          whole = s.whole;
          low = λ x h. elim h [
            | inl first ↦ option_low x (inl first)
            | inr later ↦ elim (has-append_cases l.rest (left_over levels) x (subst (λ (xs : List (Level C)). Has (left_over xs) x) pushed later)) [
              | inl its ↦ option_low x (inr its)
              | inr above ↦ s.low x (inr above)
            ]
          ];
        }

    pub lower : (left : ℕ) (c d : C) (opts rest : List C) → shape.options c ≡ Some opts → opts ≡ d ∷ rest → steps_left shape (shape.room root) left (Some d) < steps_left shape (shape.room root) left (Some c)
    lower left c d opts rest is these =
        let less = deep c d opts is (subst (λ (xs : List C). Has xs d) (sym these) (inl refl)) in
        omega (arith, less)

    high_low : (levels : List (Level C)) (next : Option C) → ((x : C) → Has (to_try levels next) x → shape.room x ≤ shape.room root) → high shape next ≤ suc (shape.room root)
    high_low levels None low = omega arith
    high_low levels (Some c) low = let here = low c (inl refl) in omega (arith, here)

    pub fewer_left : (met now : List C) (levels : List (Level C)) (c : C) (next : Option C) → length met < limit → now ≡ met ++ c ∷ [] → IsSearching now levels next → steps_left shape (shape.room root) (limit - length now) next < steps_left shape (shape.room root) (limit - length met) (Some c)
    fewer_left met now levels c next few now_is s =
        let top = shape.room root in
        let longer : length now ≡ length met + 1 = ap length now_is ∙ length-append met (c ∷ []) in
        let k = limit - length now in
        let one_more : limit - length met ≡ suc k = omega (arith, longer, few) in
        let times : (limit - length met) * suc (suc top) ≡ k * suc (suc top) + suc (suc top) = ap (λ (n : ℕ). n * suc (suc top)) one_more ∙ suc-mul k (suc (suc top)) in
        let rest = high_low levels next s.low in
        omega (arith, times, rest)

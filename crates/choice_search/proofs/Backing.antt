-- A search goes back, frame by frame.
use Rattle.std.proofs.Common.{◌≡◌, ◌≤◌, ◌∙◌, ◌++◌, ℕ, true, false, List, [], ◌∷◌, Some, length, map, reverse, refl, sym, ap, arith, subst}
use Rattle.std.specs.List.{list_all}
use Rattle.std.proofs.lemmas.List.{length-append}
use Rattle.choice_search.specs.Frames.{AreAmong, IsAhead, Level, left_over, level, levels, levels_at, resumed, to_try}
use Rattle.choice_search.specs.Path.{Path, down}
use Rattle.choice_search.specs.Shape.{Shape}
use Rattle.choice_search.specs.Visit.{barren, joined, seen_as, visit}
use Rattle.choice_search.specs.declared.frame.Frame.{Frame}
use Rattle.choice_search.proofs.Resuming.{among_next, among_rest, back_jump, back_last, back_next, levels_back, levels_down, rest_next}

pub no_levels : {C S : Type 0} (by : C → S → C) (cs : List C) → levels by cs [] ≡ []
no_levels by [] = refl
no_levels by (c ∷ cs) = refl

module _ {C S : Type 0} (shape : Shape C) (by : C → S → C) (first : List (Level C)) (begun : List ℕ) where
  -- where one is by now, what was kept at first comes to the same
  pub record IsBacking (p : Path C) (frames : List (Frame S)) (cause : List ℕ) : Type 0 where
    pub enough : length frames ≤ length p.above
    pub same : resumed shape first (seen_as [] (barren begun)) ≡ resumed shape (levels_at by p frames) (seen_as [] (barren cause))
    pub among : AreAmong (left_over (levels_at by p frames)) (left_over first)

  pub none_left : (p : Path C) (cause : List ℕ) → IsBacking p [] cause → resumed shape first (seen_as [] (barren begun)) ≡ seen_as [] (barren cause)
  none_left p cause s = s.same ∙ ap (λ (ls : List (Level C)). resumed shape ls (seen_as [] (barren cause))) (no_levels by p.above)

  -- one comes out at the choice above
  module _ (p q : Path C) (fs gs : List (Frame S)) (f : Frame S) (why : List ℕ) (s : IsBacking p fs why) (is : fs ≡ gs ++ f ∷ []) (came : (c : C) (before : Path C) → p ≡ down c before → q ≡ before) where
    there : (levels_at by p fs ≡ level by q.here f ∷ levels_at by q gs) × (length gs ≤ length q.above)
    there =
        let b = levels_back by p fs gs f is s.enough in
        subst (λ (x : Path C). (levels_at by p fs ≡ level by x.here f ∷ levels_at by x gs) × (length gs ≤ length x.above)) (sym (came p.here b.before b.from)) (b.levels_are, b.enough)

    fewer : AreAmong (left_over (levels_at by q gs)) (left_over first)
    fewer c h = s.among c (among_rest (levels_at by p fs) (levels_at by q gs) (level by q.here f) there.0 c h)

    pub jumped : list_all (shape.knows q.here) why ≡ true → IsBacking q gs why
    jumped known = record {
      enough = there.1;
      same = s.same ∙ back_jump shape (levels_at by p fs) (levels_at by q gs) (level by q.here f) why there.0 known;
      among = fewer;
    }

    pub exhausted : (whole cause : List ℕ) → list_all (shape.knows q.here) why ≡ false → f.rest.items ≡ [] → whole ≡ joined (shape.knows q.here) f.cause.items why → cause ≡ joined (shape.knows q.here) whole (shape.reason q.here) → IsBacking q gs cause
    exhausted whole cause known none whole_is cause_is = record {
      enough = there.1;
      same = s.same ∙ back_last shape (levels_at by p fs) (levels_at by q gs) (level by q.here f) why whole cause there.0 known (ap (λ (xs : List S). map (by q.here) (reverse xs)) none) whole_is cause_is;
      among = fewer;
    }

    -- and goes down again by the next step
    module _ (r : Path C) (hs : List (Frame S)) (g : Frame S) (step : S) (now_is : hs ≡ gs ++ g ∷ []) (gone : r ≡ down (by q.here step) q) (some : f.rest.items ≡ g.rest.items ++ step ∷ []) where
      here_is : r.here ≡ by q.here step
      here_is = ap (λ (x : Path C). x.here) gone

      next : levels_at by r hs ≡ level by q.here g ∷ levels_at by q gs
      next = levels_down by q r gs hs g (by q.here step) gone now_is

      rest_is : map (by q.here) (reverse f.rest.items) ≡ r.here ∷ map (by q.here) (reverse g.rest.items)
      rest_is = rest_next by q.here f.rest.items g.rest.items step some ∙ ap (λ (c : C). c ∷ map (by q.here) (reverse g.rest.items)) (sym here_is)

      pub next_enough : length hs ≤ length r.above
      next_enough =
          let above = ap (λ (x : Path C). length x.above) gone in
          let longer = ap length now_is ∙ length-append gs (g ∷ []) in
          let less = there.1 in
          omega (arith, above, longer, less)

      pub next_ahead : list_all (shape.knows q.here) why ≡ false → g.cause.items ≡ joined (shape.knows q.here) f.cause.items why → IsAhead shape (levels_at by r hs) (resumed shape first (seen_as [] (barren begun))) (Some r.here)
      next_ahead known cause_is =
          s.same
          ∙ back_next shape (levels_at by p fs) (levels_at by q gs) (level by q.here f) (level by q.here g) r.here why there.0 known rest_is refl cause_is
          ∙ ap (λ (ls : List (Level C)). resumed shape ls (visit shape r.here)) (sym next)

      pub next_among : AreAmong (to_try (levels_at by r hs) (Some r.here)) (left_over first)
      next_among c h =
          s.among c (among_next (levels_at by p fs) (levels_at by q gs) (levels_at by r hs) (level by q.here f) (level by q.here g) r.here there.0 next rest_is c h)

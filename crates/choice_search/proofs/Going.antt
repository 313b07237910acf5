-- A search begins, and goes down from a choice by a step.
use Rattle.std.proofs.Common.{◌≡◌, ◌<◌, ◌≤◌, ◌∙◌, ◌++◌, List, [], ◌∷◌, Some, ap, arith, length, map, refl, reverse, subst, sym, ℕ}
use Rattle.std.proofs.lemmas.List.{length-append, reverse-reverse}
use Rattle.choice_search.specs.Frames.{Level, level, levels_at}
use Rattle.choice_search.specs.Laws.{IsDeep}
use Rattle.choice_search.specs.Path.{Path, down}
use Rattle.choice_search.specs.Shape.{Shape}
use Rattle.choice_search.specs.declared.frame.Frame.{Frame}
use Rattle.choice_search.proofs.Backing.{no_levels}
use Rattle.choice_search.proofs.Resuming.{levels_down, popped}
use Rattle.choice_search.proofs.Searching.{IsSearching, begun, lower, searched_down, steps_left}

module _ {C S : Type 0} (shape : Shape C) (by : C → S → C) (limit : ℕ) where
  pub begun_at : (p : Path C) (met : List C) (frames : List (Frame S)) → met ≡ [] → frames ≡ [] → 0 < limit → IsSearching shape p.here limit met (levels_at by p frames) (Some p.here)
  begun_at p met frames none no_frame some =
      let bare : levels_at by p frames ≡ [] = ap (levels_at by p) no_frame ∙ no_levels by p.above in
      subst (λ (ls : List (Level C)). IsSearching shape p.here limit met ls (Some p.here)) (sym bare)
      (subst (λ (cs : List C). IsSearching shape p.here limit cs [] (Some p.here)) (sym none) (begun shape p.here limit some))

  -- these are the steps from a choice, of which the first is taken
  module _ (root : C) (deep : IsDeep shape.options shape.room) (p q : Path C) (f : Frame S) (steps back : List S) (step : S) (is : shape.options p.here ≡ Some (map (by p.here) steps)) (turned : back ≡ reverse steps) (popped_is : back ≡ f.rest.items ++ step ∷ []) (gone : q ≡ down (by p.here step) p) where
    here_is : by p.here step ≡ q.here
    here_is = sym (ap (λ (x : Path C). x.here) gone)

    these : map (by p.here) steps ≡ q.here ∷ map (by p.here) (reverse f.rest.items)
    these =
        ap (map (by p.here)) (sym (reverse-reverse steps) ∙ ap reverse (sym turned) ∙ popped back f.rest.items step popped_is)
        ∙ ap (λ (c : C). c ∷ map (by p.here) (reverse f.rest.items)) here_is

    pub down_at : (met : List C) (old new : List (Frame S)) → IsSearching shape root limit met (levels_at by p old) (Some p.here) → new ≡ old ++ f ∷ [] → f.cause.items ≡ [] → IsSearching shape root limit met (levels_at by q new) (Some q.here)
    down_at met old new s pushed cause_is =
        searched_down shape root limit deep met (levels_at by p old) (levels_at by q new) p.here q.here (map (by p.here) steps) (level by p.here f) s is these
        (levels_down by p q old new f (by p.here step) gone pushed) refl cause_is

    pub enough_at : (old new : List (Frame S)) → new ≡ old ++ f ∷ [] → length old ≤ length p.above → length new ≤ length q.above
    enough_at old new pushed enough =
        let above = ap (λ (x : Path C). length x.above) gone in
        let longer = ap length pushed ∙ length-append old (f ∷ []) in
        omega (arith, above, longer, enough)

    pub lower_at : (left : ℕ) → steps_left shape (shape.room root) left (Some q.here) < steps_left shape (shape.room root) left (Some p.here)
    lower_at left = lower shape root limit deep left p.here q.here (map (by p.here) steps) (map (by p.here) (reverse f.rest.items)) is these

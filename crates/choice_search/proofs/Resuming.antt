-- A walk goes down, and back up.
use Rattle.std.proofs.Common.{◌≡◌, ◌≤◌, ◌∙◌, ◌++◌, ℕ, Bool, true, false, cond, List, [], ◌∷◌, length, map, reverse, inl, inr, refl, sym, ap, arith, subst}
use Rattle.std.specs.List.{list_all}
use Rattle.std.proofs.lemmas.List.{append_assoc, length-append, reverse-append}
use Rattle.basics.specs.Members.{Has}
use Rattle.basics.proofs.Membership.{has-append_right}
use Rattle.choice_search.specs.Frames.{AreAmong, Level, left_over, level, levels, levels_at, resumed}
use Rattle.choice_search.specs.Path.{Path, down}
use Rattle.choice_search.specs.Shape.{Shape}
use Rattle.choice_search.specs.Visit.{End, Visit, after, barren, behind, joined, over, reached, seen_as, visit}
use Rattle.choice_search.specs.declared.frame.Frame.{Frame}

-- the last one of a stack is the nearest
pub popped : {A : Type 0} (old rest : List A) (x : A) → old ≡ rest ++ x ∷ [] → reverse old ≡ x ∷ reverse rest
popped old rest x is = ap reverse is ∙ reverse-append rest (x ∷ [])

pub nothing_left : {A : Type 0} {n : ℕ} (xs : List A) → n ≡ length xs → n ≡ 0 → xs ≡ []
nothing_left [] e z = refl
nothing_left (x ∷ xs) e z = absurd (omega (arith, e, z))

module _ {C S : Type 0} (by : C → S → C) where
  -- a step down from a choice whose frame is kept
  pub levels_down : (p q : Path C) (old new : List (Frame S)) (f : Frame S) (c : C) → q ≡ down c p → new ≡ old ++ f ∷ [] → levels_at by q new ≡ level by p.here f ∷ levels_at by p old
  levels_down p q old new f c is pushed =
      ap (λ (x : Path C). levels by x.above (reverse new)) is
      ∙ ap (levels by (p.here ∷ p.above)) (popped new old f pushed)

  -- where one comes out by a step back, and what is kept there
  pub record IsBack (p : Path C) (old rest : List (Frame S)) (f : Frame S) : Type 0 where
    pub before : Path C
    pub from : p ≡ down p.here before
    pub levels_are : levels_at by p old ≡ level by before.here f ∷ levels_at by before rest
    pub enough : length rest ≤ length before.above

  back_by : (here : C) (above : List C) (old rest : List (Frame S)) (f : Frame S) → old ≡ rest ++ f ∷ [] → length old ≤ length above → IsBack (record { here = here; above = above }) old rest f
  back_by here [] old rest f is enough =
      let longer = ap length is ∙ length-append rest (f ∷ []) in absurd (omega (arith, longer, enough))
  back_by here (c ∷ cs) old rest f is enough = record {
    before = record { here = c; above = cs };
    from = refl;
    levels_are = ap (levels by (c ∷ cs)) (popped old rest f is);
    enough = let longer = ap length is ∙ length-append rest (f ∷ []) in omega (arith, longer, enough);
  }

  pub levels_back : (p : Path C) (old rest : List (Frame S)) (f : Frame S) → old ≡ rest ++ f ∷ [] → length old ≤ length p.above → IsBack p old rest f
  levels_back p old rest f is enough = back_by p.here p.above old rest f is enough

  -- what is left of the options, where one more is tried
  pub rest_next : (c : C) (old rest : List S) (s : S) → old ≡ rest ++ s ∷ [] → map (by c) (reverse old) ≡ by c s ∷ map (by c) (reverse rest)
  rest_next c old rest s is = ap (map (by c)) (popped old rest s is)

module _ {C : Type 0} (shape : Shape C) where
  abbrev pub knows : C → ℕ → Bool
  knows = shape.knows

  behind_test : (b : Bool) (met ms : List C) (why : List ℕ) (v : Visit C) → cond b (seen_as (met ++ ms) (barren why)) (behind (met ++ ms) v) ≡ behind met (cond b (seen_as ms (barren why)) (behind ms v))
  behind_test true met ms why v = refl
  behind_test false met ms why v = ap (λ (cs : List C). seen_as cs v.end) (append_assoc met ms v.met)

  after_behind : (c : C) (cause : List ℕ) (others : List ℕ → Visit C) (met ms : List C) (x : End C) → after shape c cause others (met ++ ms) x ≡ behind met (after shape c cause others ms x)
  after_behind c cause others met ms (reached g) = refl
  after_behind c cause others met ms (barren why) = behind_test (list_all (knows c) why) met ms why (others (joined (knows c) cause why))

  abbrev pub rest_of : Level C → List ℕ → Visit C
  rest_of f w = over shape f.choice w (map (visit shape) f.rest)

  -- what was met before stays before
  pub resumed_behind : (fs : List (Level C)) (met : List C) (v : Visit C) → resumed shape fs (behind met v) ≡ behind met (resumed shape fs v)
  resumed_behind [] met v = refl
  resumed_behind (f ∷ fs) met v =
      ap (resumed shape fs) (after_behind f.choice f.cause (rest_of f) met v.met v.end)
      ∙ resumed_behind fs met (after shape f.choice f.cause (rest_of f) v.met v.end)

  -- a good leaf is the end
  pub resumed_reached : (fs : List (Level C)) (g : C) → resumed shape fs (seen_as [] (reached g)) ≡ seen_as [] (reached g)
  resumed_reached [] g = refl
  resumed_reached (f ∷ fs) g = resumed_reached fs g

  by_jump : (b : Bool) (why : List ℕ) (v : Visit C) → b ≡ true → cond b (seen_as [] (barren why)) (behind [] v) ≡ seen_as [] (barren why)
  by_jump true why v e = refl
  by_jump false why v e = absurd (cc e)

  no_jump : (b : Bool) (why : List ℕ) (v : Visit C) → b ≡ false → cond b (seen_as [] (barren why)) (behind [] v) ≡ v
  no_jump true why v e = absurd (cc e)
  no_jump false why v e = refl

  -- where a choice knows the whole cause, it is barren with that
  pub back_jump : (ls ms : List (Level C)) (l : Level C) (why : List ℕ) → ls ≡ l ∷ ms → list_all (knows l.choice) why ≡ true → resumed shape ls (seen_as [] (barren why)) ≡ resumed shape ms (seen_as [] (barren why))
  back_jump ls ms l why is known =
      ap (λ (xs : List (Level C)). resumed shape xs (seen_as [] (barren why))) is
      ∙ ap (resumed shape ms) (by_jump (list_all (knows l.choice) why) why (rest_of l (joined (knows l.choice) l.cause why)) known)

  back_on : (ls ms : List (Level C)) (l : Level C) (why : List ℕ) → ls ≡ l ∷ ms → list_all (knows l.choice) why ≡ false → resumed shape ls (seen_as [] (barren why)) ≡ resumed shape ms (rest_of l (joined (knows l.choice) l.cause why))
  back_on ls ms l why is known =
      ap (λ (xs : List (Level C)). resumed shape xs (seen_as [] (barren why))) is
      ∙ ap (resumed shape ms) (no_jump (list_all (knows l.choice) why) why (rest_of l (joined (knows l.choice) l.cause why)) known)

  -- .. where no option is left, with its reason, too
  pub back_last : (ls ms : List (Level C)) (l : Level C) (why whole cause : List ℕ) → ls ≡ l ∷ ms → list_all (knows l.choice) why ≡ false → l.rest ≡ [] → whole ≡ joined (knows l.choice) l.cause why → cause ≡ joined (knows l.choice) whole (shape.reason l.choice) → resumed shape ls (seen_as [] (barren why)) ≡ resumed shape ms (seen_as [] (barren cause))
  back_last ls ms l why whole cause is known none whole_is cause_is =
      back_on ls ms l why is known
      ∙ ap (λ (ds : List C). resumed shape ms (over shape l.choice (joined (knows l.choice) l.cause why) (map (visit shape) ds))) none
      ∙ ap (λ (w : List ℕ). resumed shape ms (seen_as [] (barren (joined (knows l.choice) w (shape.reason l.choice))))) (sym whole_is)
      ∙ ap (λ (w : List ℕ). resumed shape ms (seen_as [] (barren w))) (sym cause_is)

  -- .. else its next option is visited
  pub back_next : (ls ms : List (Level C)) (l m : Level C) (d : C) (why : List ℕ) → ls ≡ l ∷ ms → list_all (knows l.choice) why ≡ false → l.rest ≡ d ∷ m.rest → m.choice ≡ l.choice → m.cause ≡ joined (knows l.choice) l.cause why → resumed shape ls (seen_as [] (barren why)) ≡ resumed shape (m ∷ ms) (visit shape d)
  back_next ls ms l m d why is known some choice_is cause_is =
      back_on ls ms l why is known
      ∙ ap (λ (ds : List C). resumed shape ms (over shape l.choice (joined (knows l.choice) l.cause why) (map (visit shape) ds))) some
      ∙ ap (λ (w : List ℕ). resumed shape ms (over shape l.choice w (map (visit shape) (d ∷ m.rest)))) (sym cause_is)
      ∙ ap (λ (c : C). resumed shape ms (over shape c m.cause (map (visit shape) (d ∷ m.rest)))) (sym choice_is)

-- those without the nearest are among all
pub among_rest : {C : Type 0} (ls ms : List (Level C)) (l : Level C) → ls ≡ l ∷ ms → AreAmong (left_over ms) (left_over ls)
among_rest ls ms l is c h = subst (λ (xs : List _). Has (left_over xs) c) (sym is) (has-append_right l.rest (left_over ms) c h)

-- so are those where one more is tried
pub among_next : {C : Type 0} (ls ms ns : List (Level C)) (l m : Level C) (d : C) → ls ≡ l ∷ ms → ns ≡ m ∷ ms → l.rest ≡ d ∷ m.rest → AreAmong (d ∷ left_over ns) (left_over ls)
among_next ls ms ns l m d is now_is some c h =
    subst (λ (xs : List _). Has (left_over xs) c) (sym is)
    (subst (λ (ds : List _). Has (ds ++ left_over ms) c) (sym some)
    (elim h [
      | inl here ↦ inl here
      | inr later ↦ inr (subst (λ (xs : List _). Has (left_over xs) c) now_is later)
    ]))

-- What a walk that jumps back leaves out is of no account.
use Rattle.std.proofs.Common.{◌≡◌, ◌<◌, ◌∙◌, ◌++◌, ◌⊎◌, ℕ, zero, suc, Bool, true, false, cond, List, [], ◌∷◌, Option, None, Some, map, inl, inr, refl, sym, ap, arith, subst}
use Rattle.std.specs.List.{flat_map, list_all}
use Rattle.std.specs.Option.{is_some}
use Rattle.basics.specs.Members.{Has}
use Rattle.basics.proofs.Membership.{has-append_cases, has-flat_map_back}
use Rattle.choice_search.specs.Jumping.{Agrees, AgreesNew, AgreesOn, IsJumping, LosesNothing, nothing}
use Rattle.choice_search.specs.Leaves.{Leaf, dead, first_good, good, leaves_by, leaves_within}
use Rattle.choice_search.specs.Shape.{Shape}
use Rattle.choice_search.specs.Visit.{End, Visit, after, barren, behind, joined, over, reached, seen_as, visit_by, visit_within}
use Rattle.choice_search.proofs.Causes.{all_has, joined_new, joined_old}
use Rattle.choice_search.proofs.Parts.{IsRight, none_good, right_dead, right_good, right_jump, right_next, right_reached}

is_there : {V : Type 0} (x : Option V) → is_some x ≡ true → (v : V) × (x ≡ Some v)
is_there None e = absurd (cc e)
is_there (Some v) e = (v, refl)

some_same : {V : Type 0} (v w : V) → ◌≡◌ {A = Option V} (Some v) (Some w) → v ≡ w
some_same v w e = cc e

barren_same : {C : Type 0} (v w : List ℕ) → ◌≡◌ {A = End C} (barren v) (barren w) → v ≡ w
barren_same v w e = cc e

module _ {C V : Type 0} (shape : Shape C) (decided : C → ℕ → Option V) (fits : C → Type 0) (is_solution : (ℕ → V) → Type 0) (j : IsJumping shape decided fits is_solution) where
  -- no solution agrees with the choice on these lines
  abbrev Denies : C → List ℕ → Type 0
  Denies c why = (f : ℕ → V) → is_solution f → ¬ AgreesOn why (decided c) f

  -- .. and with what the option adds
  abbrev Excludes : C → List ℕ → C → Type 0
  Excludes c cause d = (f : ℕ → V) → is_solution f → AgreesOn cause (decided c) f → ¬ AgreesNew (decided c) (decided d) f

  known_if : (c : C) (l : ℕ) (v : V) → decided c l ≡ Some v → shape.knows c l ≡ true
  known_if c l v e = j.known c l ∙ ap is_some e

  if_known : (c : C) (l : ℕ) → shape.knows c l ≡ true → (v : V) × (decided c l ≡ Some v)
  if_known c l e = is_there (decided c l) (sym (j.known c l) ∙ e)

  module _ (c : C) (all : List C) (fit : fits c) (is : shape.options c ≡ Some all) where
    -- what the choice decides, its option decides alike
    same_value : (d : C) → Has all d → (l : ℕ) (v w : V) → decided c l ≡ Some v → decided d l ≡ Some w → v ≡ w
    same_value d in_all l v w e k = some_same v w (sym (j.extends c d all fit is in_all l v e) ∙ k)

    decided_or : (d : C) (f : ℕ → V) (l : ℕ) (w : V) → Has all d → AgreesNew (decided c) (decided d) f → decided d l ≡ Some w → (x : Option V) → decided c l ≡ x → ((v : V) → decided c l ≡ Some v → f l ≡ v) → f l ≡ w
    decided_or d f l w in_all new k None e old = new l w e k
    decided_or d f l w in_all new k (Some v) e old = old v e ∙ same_value d in_all l v w e k

    excluded : (d : C) (why cause : List ℕ) → Has all d → Denies d why → ((l : ℕ) → Has why l → shape.knows c l ≡ true → Has cause l) → Excludes c cause d
    excluded d why cause in_all denies in_cause f s agree new = denies f s (λ l w h k.
        decided_or d f l w in_all new k (decided c l) refl (λ v e. agree l v (in_cause l h (known_if c l v e)) e))

    jumps : (d : C) (why : List ℕ) → Has all d → Denies d why → list_all (shape.knows c) why ≡ true → Denies c why
    jumps d why in_all denies known f s agree = denies f s (λ l w h k.
        let r = if_known c l (all_has (shape.knows c) why l known h) in
        agree l r.0 h r.1 ∙ same_value d in_all l r.0 w r.1 k)

    more : (d : C) (cause ls : List ℕ) → Excludes c cause d → Excludes c (joined (shape.knows c) cause ls) d
    more d cause ls ex f s agree new = ex f s (λ l v h e. agree l v (joined_old (shape.knows c) cause ls l h) e) new

    exhausted : (cause : List ℕ) → ((d : C) → Has all d → Excludes c cause d) → Denies c (joined (shape.knows c) cause (shape.reason c))
    exhausted cause done f s agree =
        let r = j.kept c all f fit is s (λ l v h e. agree l v (joined_new (shape.knows c) cause (shape.reason c) l h (known_if c l v e)) e) in
        done r.0 r.1 f s (λ l v h e. agree l v (joined_old (shape.knows c) cause (shape.reason c) l h) e) r.2

    by_test : (b : Bool) (met why : List ℕ) (v : Visit C) (mets : List C) (w : List ℕ) → list_all (shape.knows c) why ≡ b → (b ≡ true → Denies c why) → (v.end ≡ barren w → Denies c w) → (cond b (seen_as mets (barren why)) (behind mets v)).end ≡ barren w → Denies c w
    by_test true met why v mets w same jump go e = subst (λ (x : List ℕ). Denies c x) (barren_same {C = C} why w e) (jump refl)
    by_test false met why v mets w same jump go e = go e

    after_denies : (d : C) (cause : List ℕ) (others : List ℕ → Visit C) (met : List C) (x : End C) (w : List ℕ) → Has all d → ((why : List ℕ) → x ≡ barren why → Denies d why) → ((why : List ℕ) → x ≡ barren why → (others (joined (shape.knows c) cause why)).end ≡ barren w → Denies c w) → (after shape c cause others met x).end ≡ barren w → Denies c w
    after_denies d cause others met (reached g) w in_all denies go e = absurd (let bad : ◌≡◌ {A = End C} (reached g) (barren w) = e in cc bad)
    after_denies d cause others met (barren why) w in_all denies go e =
        by_test (list_all (shape.knows c) why) [] why (others (joined (shape.knows c) cause why)) met w refl
        (λ known. jumps d why in_all (denies why refl) known) (go why refl) e

    module _ (below : C → Visit C) (denied : (d : C) → Has all d → (why : List ℕ) → (below d).end ≡ barren why → Denies d why) where
      still : (d : C) (ds : List C) (cause why : List ℕ) → Has all d → (below d).end ≡ barren why → ((e : C) → Has all e → Has (d ∷ ds) e ⊎ Excludes c cause e) → (e : C) → Has all e → Has ds e ⊎ Excludes c (joined (shape.knows c) cause why) e
      still d ds cause why in_all end done e in_e = elim (done e in_e) [
        | inl (inl same) ↦ inr (subst (λ (x : C). Excludes c (joined (shape.knows c) cause why) x) same
            (excluded d why (joined (shape.knows c) cause why) in_all (denied d in_all why end) (λ l h known. joined_new (shape.knows c) cause why l h known)))
        | inl (inr later) ↦ inl later
        | inr ex ↦ inr (more e cause why ex)
      ]

      none_left : (cause : List ℕ) → ((d : C) → Has all d → Has [] d ⊎ Excludes c cause d) → (d : C) → Has all d → Excludes c cause d
      none_left cause done d in_all = elim (done d in_all) [ inl h ↦ absurd h | inr ex ↦ ex ]

      pub over_denies : (ds : List C) (cause w : List ℕ) → ((d : C) → Has ds d → Has all d) → ((d : C) → Has all d → Has ds d ⊎ Excludes c cause d) → (over shape c cause (map below ds)).end ≡ barren w → Denies c w
      over_denies [] cause w inside done e =
          subst (λ (x : List ℕ). Denies c x) (barren_same {C = C} (joined (shape.knows c) cause (shape.reason c)) w e) (exhausted cause (none_left cause done))
      over_denies (d ∷ ds) cause w inside done e =
          after_denies d cause (λ (x : List ℕ). over shape c x (map below ds)) (below d).met (below d).end w (inside d (inl refl)) (denied d (inside d (inl refl)))
          (λ why end. over_denies ds (joined (shape.knows c) cause why) w (λ x h. inside x (inr h)) (still d ds cause why (inside d (inl refl)) end done)) e

  -- a good leaf is a solution, which has all that the choices above it decide
  abbrev Solves : C → Type 0
  Solves c = (f : ℕ → V) × is_solution f × Agrees (decided c) f

  good_by : (n : ℕ) (c g : C) → fits c → (x : Option (List C)) → shape.options c ≡ x → ((d : C) → fits d → Has (leaves_within shape.options n d) (good g) → Solves d) → Has (leaves_by (leaves_within shape.options n) c x) (good g) → Solves c
  good_by n c g fit None is below h = j.good_is c fit is
  good_by n c g fit (Some []) is below (inl same) = absurd (let bad : ◌≡◌ {A = Leaf C} (dead c) (good g) = same in cc bad)
  good_by n c g fit (Some []) is below (inr h) = absurd h
  good_by n c g fit (Some (d ∷ ds)) is below h =
      let r = has-flat_map_back (leaves_within shape.options n) (d ∷ ds) (good g) h in
      let s = below r.0 (j.stays c r.0 (d ∷ ds) fit is r.1) r.2 in
      (s.0, s.1, λ l v e. s.2 l v (j.extends c r.0 (d ∷ ds) fit is r.1 l v e))

  good_below : (n : ℕ) (c g : C) → fits c → Has (leaves_within shape.options n c) (good g) → Solves c
  good_below zero c g fit h = absurd h
  good_below (suc n) c g fit h = good_by n c g fit (shape.options c) refl (λ d fit_d in_d. good_below n d g fit_d in_d) h

  module _ (c : C) (all : List C) (fit : fits c) (is : shape.options c ≡ Some all) (n : ℕ) where
    abbrev found : C → List (Leaf C)
    found = leaves_within shape.options n

    -- no leaf further on is good, where no solution agrees with the choice on these lines
    no_rest : (ds : List C) (why : List ℕ) → ((d : C) → Has ds d → Has all d) → Denies c why → first_good (flat_map found ds) ≡ None
    no_rest ds why inside denies = none_good (flat_map found ds) (λ g h.
        let r = has-flat_map_back found ds (good g) h in
        let s = good_below n r.0 g (j.stays c r.0 all fit is (inside r.0 r.1)) r.2 in
        denies s.0 s.1 (λ l v in_why e. s.2 l v (j.extends c r.0 all fit is (inside r.0 r.1) l v e)))

    right_test : (b : Bool) (met : List C) (why : List ℕ) (v : Visit C) (ls ms : List (Leaf C)) → IsRight (seen_as met (barren why)) ls → (b ≡ true → first_good ms ≡ None) → IsRight v ms → IsRight (cond b (seen_as met (barren why)) (behind met v)) (ls ++ ms)
    right_test true met why v ls ms r none s = right_jump met why ls ms r (none refl)
    right_test false met why v ls ms r none s = right_next met why v ls ms r s

    after_right : (d : C) (ds : List C) (cause : List ℕ) (others : List ℕ → Visit C) (met : List C) (x : End C) → ((e : C) → Has (d ∷ ds) e → Has all e) → ((why : List ℕ) → x ≡ barren why → Denies d why) → IsRight (seen_as met x) (found d) → ((w : List ℕ) → IsRight (others w) (flat_map found ds)) → IsRight (after shape c cause others met x) (found d ++ flat_map found ds)
    after_right d ds cause others met (reached g) inside denies r later = right_reached met g (found d) (flat_map found ds) r
    after_right d ds cause others met (barren why) inside denies r later =
        right_test (list_all (shape.knows c) why) met why (others (joined (shape.knows c) cause why)) (found d) (flat_map found ds) r
        (λ known. no_rest ds why (λ e h. inside e (inr h)) (jumps c all fit is d why (inside d (inl refl)) (denies why refl) known))
        (later (joined (shape.knows c) cause why))

    right_over : ((d : C) → Has all d → IsRight (visit_within shape n d) (found d)) → ((d : C) → Has all d → (why : List ℕ) → (visit_within shape n d).end ≡ barren why → Denies d why) → (ds : List C) (cause : List ℕ) → ((e : C) → Has ds e → Has all e) → IsRight (over shape c cause (map (visit_within shape n) ds)) (flat_map found ds)
    right_over right denied [] cause inside = record { first = refl; part = nothing }
    right_over right denied (d ∷ ds) cause inside =
        after_right d ds cause (λ (w : List ℕ). over shape c w (map (visit_within shape n) ds)) (visit_within shape n d).met (visit_within shape n d).end inside (denied d (inside d (inl refl))) (right d (inside d (inl refl)))
        (λ w. right_over right denied ds w (λ e h. inside e (inr h)))

  -- the walk is right below the choice, and no solution agrees on its cause
  abbrev IsSound : Visit C → List (Leaf C) → C → Type 0
  IsSound v ls c = IsRight v ls × ((why : List ℕ) → v.end ≡ barren why → Denies c why)

  sound_by : (n : ℕ) (c : C) → fits c → (x : Option (List C)) → shape.options c ≡ x → ((ds : List C) → x ≡ Some ds → (d : C) → Has ds d → IsSound (visit_within shape n d) (leaves_within shape.options n d) d) → IsSound (visit_by shape (visit_within shape n) c x) (leaves_by (leaves_within shape.options n) c x) c
  sound_by n c fit None is below = (right_good c, λ why e. absurd (let bad : ◌≡◌ {A = End C} (reached c) (barren why) = e in cc bad))
  sound_by n c fit (Some []) is below = (
    right_dead c (joined (shape.knows c) [] (shape.reason c)),
    λ why e. over_denies c [] fit is (visit_within shape n) (λ d h. absurd h) [] [] why (λ d h. h) (λ d h. inl h) e,
  )
  sound_by n c fit (Some (d ∷ ds)) is below = (
    right_over c (d ∷ ds) fit is n (λ e h. (below (d ∷ ds) refl e h).0) (λ e h. (below (d ∷ ds) refl e h).1) (d ∷ ds) [] (λ e h. h),
    λ why e. over_denies c (d ∷ ds) fit is (visit_within shape n) (λ x h. (below (d ∷ ds) refl x h).1) (d ∷ ds) [] why (λ x h. h) (λ x h. inl h) e,
  )

  sound : (n : ℕ) (c : C) → fits c → shape.room c < n → IsSound (visit_within shape n c) (leaves_within shape.options n c) c
  sound zero c fit low = absurd (omega (arith, low))
  sound (suc n) c fit low = sound_by n c fit (shape.options c) refl (λ ds is d in_ds.
      let less = j.smaller c d ds is in_ds in
      sound n d (j.stays c d ds fit is in_ds) (omega (arith, less, low)))

  -- what is met is met below some option
  test_met : (b : Bool) (met : List C) (why : List ℕ) (v : Visit C) (x : C) → Has (cond b (seen_as met (barren why)) (behind met v)).met x → Has met x ⊎ Has v.met x
  test_met true met why v x h = inl h
  test_met false met why v x h = has-append_cases met v.met x h

  after_met : (c : C) (cause : List ℕ) (others : List ℕ → Visit C) (met : List C) (e : End C) (x : C) → Has (after shape c cause others met e).met x → Has met x ⊎ ((w : List ℕ) × Has (others w).met x)
  after_met c cause others met (reached g) x h = inl h
  after_met c cause others met (barren why) x h =
      elim (test_met (list_all (shape.knows c) why) met why (others (joined (shape.knows c) cause why)) x h) [
        | inl here ↦ inl here
        | inr later ↦ inr (joined (shape.knows c) cause why, later)
      ]

  over_met : (c : C) (below : C → Visit C) (ds : List C) (cause : List ℕ) (x : C) → Has (over shape c cause (map below ds)).met x → (d : C) × Has ds d × Has (below d).met x
  over_met c below [] cause x h = absurd h
  over_met c below (d ∷ ds) cause x h =
      elim (after_met c cause (λ (w : List ℕ). over shape c w (map below ds)) (below d).met (below d).end x h) [
        | inl here ↦ (d, inl refl, here)
        | inr later ↦ (let r = over_met c below ds later.0 x later.1 in (r.0, inr r.1, r.2))
      ]

  abbrev IsDead : C → Type 0
  IsDead d = fits d × (shape.options d ≡ Some [])

  met_by : (n : ℕ) (c : C) → fits c → (x : Option (List C)) → shape.options c ≡ x → ((e d : C) → fits e → Has (visit_within shape n e).met d → IsDead d) → (d : C) → Has (visit_by shape (visit_within shape n) c x).met d → IsDead d
  met_by n c fit None is below d h = absurd h
  met_by n c fit (Some []) is below d (inl same) = subst (λ (x : C). IsDead x) same (fit, is)
  met_by n c fit (Some []) is below d (inr h) = absurd h
  met_by n c fit (Some (e ∷ es)) is below d h =
      let r = over_met c (visit_within shape n) (e ∷ es) [] d h in
      below r.0 d (j.stays c r.0 (e ∷ es) fit is r.1) r.2

  met_dead : (n : ℕ) (c : C) → fits c → (d : C) → Has (visit_within shape n c).met d → IsDead d
  met_dead zero c fit d h = absurd h
  met_dead (suc n) c fit d h = met_by n c fit (shape.options c) refl (λ e x fit_e in_e. met_dead n e fit_e x in_e) d h

  dead_refuted : (d : C) (f : ℕ → V) → IsDead d → is_solution f → ¬ Agrees (decided d) f
  dead_refuted d f is_dead s agree = let r = j.kept d [] f is_dead.0 is_dead.1 s (λ l v h e. agree l v e) in r.1

  pub loses_nothing : (c : C) → fits c → LosesNothing shape decided is_solution c
  loses_nothing c fit =
      let r = sound (suc (shape.room c)) c fit (omega arith) in
      record {
        cause_holds = λ why f e s. r.1 why e f s;
        same_end = r.0.first;
        met_are = r.0.part;
        dead = λ d h. (met_dead (suc (shape.room c)) c fit d h).1;
        refuted = λ d f h s. dead_refuted d f (met_dead (suc (shape.room c)) c fit d h) s;
      }

-- The lines of a plan follow one another just where the plan is in form.
use Rattle.std.proofs.Common.{◌≡◌, ◌∙◌, ◌+◌, ◌<◌, ◌&&◌, Bool, true, false, ℕ, List, [], ◌∷◌, ◌++◌, length, map, refl, sym, ap, arith}
use Rattle.std.specs.List.{AllByRecursion, flat_map}
use Rattle.basics.proofs.Tests.{and-true}
use Rattle.build_pool.specs.declared.orders.Order.{Order}
use Rattle.dep_atom.specs.declared.slot.Bind.{Bind}
use Rattle.plan_text.specs.Lines.{IsLine, LineValue, line_of, line_text}
use Rattle.plan_text.specs.Numbers.{rise_between}
use Rattle.plan_text.specs.Plans.{GroupValue}
use Rattle.plan_text.specs.Standing.{StandingValue, ends, follows, may_end, next, runs, standing, takes_addition, takes_removal}
use Rattle.plan_text.specs.Texts.{add_line, addition_lines, after_lines, remove_line}
use Rattle.plan_text.specs.Words.{is_before, rise}
use Rattle.plan_text.specs.declared.kind.Kind.TheVariants as kinds
use Rattle.plan_text.specs.declared.plan.Removal.{Removal}
use Rattle.plan_text.specs.declared.standing.Place.{Place}
use Rattle.plan_text.specs.declared.standing.Place.TheVariants as places

abbrev pub removal_text : Removal → List ℕ
removal_text r = line_text (remove_line r)

abbrev pub addition_text : Order → List ℕ
addition_text a = line_text (add_line a)

and_assoc : (a b c : Bool) → ((a && b) && c) ≡ (a && (b && c))
and_assoc true b c = refl
and_assoc false b c = refl

pub runs-append : (s : StandingValue) (xs ys : List LineValue) → runs s (xs ++ ys) ≡ (runs s xs && runs (ends s xs) ys)
runs-append s [] ys = refl
runs-append s (x ∷ xs) ys = ap (λ b. follows s x && b) (runs-append (next s x) xs ys) ∙ sym (and_assoc (follows s x) (runs (next s x) xs) (runs (ends (next s x) xs) ys))

pub ends-append : (s : StandingValue) (xs ys : List LineValue) → ends s (xs ++ ys) ≡ ends (ends s xs) ys
ends-append s [] ys = refl
ends-append s (x ∷ xs) ys = ends-append (next s x) xs ys

-- the parts of a group

removals_run : (n : ℕ) (t : List ℕ) (rs : List Removal) → runs (standing n places.Removals t) (map remove_line rs) ≡ rise (t ∷ map removal_text rs)
removals_run n t [] = refl
removals_run n t (r ∷ rs) = ap (λ b. is_before t (removal_text r) && b) (removals_run n (removal_text r) rs)

removals_first : (n : ℕ) (p : Place) (t : List ℕ) (rs : List Removal) → ((u : List ℕ) → takes_removal p t u ≡ true) → runs (standing n p t) (map remove_line rs) ≡ rise (map removal_text rs)
removals_first n p t [] h = refl
removals_first n p t (r ∷ rs) h = ap (λ b. b && runs (standing n places.Removals (removal_text r)) (map remove_line rs)) (h (removal_text r)) ∙ removals_run n (removal_text r) rs

binds_run : (n : ℕ) (t : List ℕ) (bs : List Bind) → runs (standing n places.Additions t) (map (line_of kinds.Bind) bs) ≡ true
binds_run n t [] = refl
binds_run n t (b ∷ bs) = binds_run n t bs

binds_end : (n : ℕ) (t : List ℕ) (bs : List Bind) → ends (standing n places.Additions t) (map (line_of kinds.Bind) bs) ≡ standing n places.Additions t
binds_end n t [] = refl
binds_end n t (b ∷ bs) = binds_end n t bs

behind_binds : (n : ℕ) (t : List ℕ) (bs : List Bind) (ls : List LineValue) → runs (standing n places.Additions t) (map (line_of kinds.Bind) bs ++ ls) ≡ runs (standing n places.Additions t) ls
behind_binds n t bs ls =
    runs-append (standing n places.Additions t) (map (line_of kinds.Bind) bs) ls
    ∙ ap (λ b. b && runs (ends (standing n places.Additions t) (map (line_of kinds.Bind) bs)) ls) (binds_run n t bs)
    ∙ ap (λ s. runs s ls) (binds_end n t bs)

additions_run : (n : ℕ) (t : List ℕ) (xs : List Order) → runs (standing n places.Additions t) (flat_map addition_lines xs) ≡ rise (t ∷ map addition_text xs)
additions_run n t [] = refl
additions_run n t (a ∷ xs) =
    ap (λ b. is_before t (addition_text a) && b) (behind_binds n (addition_text a) a.binds (flat_map addition_lines xs) ∙ additions_run n (addition_text a) xs)

additions_first : (n : ℕ) (p : Place) (t : List ℕ) (xs : List Order) → ((u : List ℕ) → takes_addition p t u ≡ true) → runs (standing n p t) (flat_map addition_lines xs) ≡ rise (map addition_text xs)
additions_first n p t [] h = refl
additions_first n p t (a ∷ xs) h =
    ap (λ b. b && runs (standing n places.Additions (addition_text a)) (map (line_of kinds.Bind) a.binds ++ flat_map addition_lines xs)) (h (addition_text a))
    ∙ behind_binds n (addition_text a) a.binds (flat_map addition_lines xs) ∙ additions_run n (addition_text a) xs

after_run : (n : ℕ) (t : List ℕ) (ns : List ℕ) → runs (standing n places.Group t) (after_lines ns) ≡ rise_between 0 n ns
after_run n t [] = refl
after_run n t (m ∷ ns) = and-true (rise_between 0 n (m ∷ ns))

-- where the parts end

abbrev pub place_if : {A : Type 0} → List A → Place → Place → Place
place_if [] some none = none
place_if (x ∷ xs) some none = some

abbrev pub after_place : List ℕ → Place
after_place ns = place_if ns places.After places.Group

after_end : (n : ℕ) (t : List ℕ) (ns : List ℕ) → ends (standing n places.Group t) (after_lines ns) ≡ standing n (after_place ns) t
after_end n t [] = refl
after_end n t (m ∷ ns) = refl

removals_stay : (n : ℕ) (t : List ℕ) (rs : List Removal) → (u : List ℕ) × (ends (standing n places.Removals t) (map remove_line rs) ≡ standing n places.Removals u)
removals_stay n t [] = (t, refl)
removals_stay n t (r ∷ rs) = removals_stay n (removal_text r) rs

removals_end : (n : ℕ) (p : Place) (t : List ℕ) (rs : List Removal) → (u : List ℕ) × (ends (standing n p t) (map remove_line rs) ≡ standing n (place_if rs places.Removals p) u)
removals_end n p t [] = (t, refl)
removals_end n p t (r ∷ rs) = removals_stay n (removal_text r) rs

additions_stay : (n : ℕ) (t : List ℕ) (xs : List Order) → (u : List ℕ) × (ends (standing n places.Additions t) (flat_map addition_lines xs) ≡ standing n places.Additions u)
additions_stay n t [] = (t, refl)
additions_stay n t (a ∷ xs) =
    let rest = additions_stay n (addition_text a) xs in (
      rest.0,
      ends-append (standing n places.Additions (addition_text a)) (map (line_of kinds.Bind) a.binds) (flat_map addition_lines xs)
          ∙ ap (λ s. ends s (flat_map addition_lines xs)) (binds_end n (addition_text a) a.binds) ∙ rest.1,
    )

additions_end : (n : ℕ) (p : Place) (t : List ℕ) (xs : List Order) → (u : List ℕ) × (ends (standing n p t) (flat_map addition_lines xs) ≡ standing n (place_if xs places.Additions p) u)
additions_end n p t [] = (t, refl)
additions_end n p t (a ∷ xs) =
    let rest = additions_stay n (addition_text a) xs in (
      rest.0,
      ends-append (standing n places.Additions (addition_text a)) (map (line_of kinds.Bind) a.binds) (flat_map addition_lines xs)
          ∙ ap (λ s. ends s (flat_map addition_lines xs)) (binds_end n (addition_text a) a.binds) ∙ rest.1,
    )

-- a whole group

abbrev pub removals_place : GroupValue → Place
removals_place g = place_if g.removals places.Removals (after_place g.after)

abbrev pub group_place : GroupValue → Place
group_place g = place_if g.additions places.Additions (removals_place g)

takes_removals : (ns : List ℕ) (t u : List ℕ) → takes_removal (after_place ns) t u ≡ true
takes_removals [] t u = refl
takes_removals (n ∷ ns) t u = refl

takes_additions : (rs : List Removal) (ns : List ℕ) (t u : List ℕ) → takes_addition (place_if rs places.Removals (after_place ns)) t u ≡ true
takes_additions [] [] t u = refl
takes_additions [] (n ∷ ns) t u = refl
takes_additions (r ∷ rs) ns t u = refl

-- the tests on a group's own lines
abbrev pub group_rises : ℕ → GroupValue → Bool
group_rises n g = rise_between 0 n g.after && (rise (map removal_text g.removals) && rise (map addition_text g.additions))

changes_run : (n : ℕ) (p : Place) (t : List ℕ) (rs : List Removal) (xs : List Order) → ((u v : List ℕ) → takes_removal p u v ≡ true) → ((u v : List ℕ) → takes_addition (place_if rs places.Removals p) u v ≡ true)
    → runs (standing n p t) (map remove_line rs ++ flat_map addition_lines xs) ≡ (rise (map removal_text rs) && rise (map addition_text xs))
changes_run n p t rs xs h k =
    let e = removals_end n p t rs in
    runs-append (standing n p t) (map remove_line rs) (flat_map addition_lines xs)
    ∙ ap (λ b. b && runs (ends (standing n p t) (map remove_line rs)) (flat_map addition_lines xs)) (removals_first n p t rs (h t))
    ∙ ap (λ s. rise (map removal_text rs) && runs s (flat_map addition_lines xs)) e.1
    ∙ ap (λ b. rise (map removal_text rs) && b) (additions_first n (place_if rs places.Removals p) e.0 xs (k e.0))

pub inside_runs : (n : ℕ) (t : List ℕ) (g : GroupValue) → runs (standing n places.Group t) (after_lines g.after ++ (map remove_line g.removals ++ flat_map addition_lines g.additions)) ≡ group_rises n g
inside_runs n t g =
    runs-append (standing n places.Group t) (after_lines g.after) (map remove_line g.removals ++ flat_map addition_lines g.additions)
    ∙ ap (λ b. b && runs (ends (standing n places.Group t) (after_lines g.after)) (map remove_line g.removals ++ flat_map addition_lines g.additions)) (after_run n t g.after)
    ∙ ap (λ s. rise_between 0 n g.after && runs s (map remove_line g.removals ++ flat_map addition_lines g.additions)) (after_end n t g.after)
    ∙ ap (λ b. rise_between 0 n g.after && b) (changes_run n (after_place g.after) t g.removals g.additions (takes_removals g.after) (takes_additions g.removals g.after))

pub inside_ends : (n : ℕ) (t : List ℕ) (g : GroupValue) → (u : List ℕ) × (ends (standing n places.Group t) (after_lines g.after ++ (map remove_line g.removals ++ flat_map addition_lines g.additions)) ≡ standing n (group_place g) u)
inside_ends n t g =
    let e = removals_end n (after_place g.after) t g.removals in
    let f = additions_end n (removals_place g) e.0 g.additions in (
      f.0,
      ends-append (standing n places.Group t) (after_lines g.after) (map remove_line g.removals ++ flat_map addition_lines g.additions)
          ∙ ap (λ s. ends s (map remove_line g.removals ++ flat_map addition_lines g.additions)) (after_end n t g.after)
          ∙ ends-append (standing n (after_place g.after) t) (map remove_line g.removals) (flat_map addition_lines g.additions)
          ∙ ap (λ s. ends s (flat_map addition_lines g.additions)) e.1 ∙ f.1,
    )

pub may_end_if : (g : GroupValue) → may_end (group_place g) ≡ true → 0 < length g.removals + length g.additions
may_end_if g e = go g.after g.removals g.additions e
  where
    go : (ns : List ℕ) (rs : List Removal) (xs : List Order) → may_end (place_if xs places.Additions (place_if rs places.Removals (after_place ns))) ≡ true → 0 < length rs + length xs
    go [] [] [] e = absurd (let f : false ≡ true = e in cc)
    go (n ∷ ns) [] [] e = absurd (let f : false ≡ true = e in cc)
    go ns (r ∷ rs) [] e = omega arith
    go ns rs (x ∷ xs) e = omega arith

pub may_end_of : (g : GroupValue) → 0 < length g.removals + length g.additions → may_end (group_place g) ≡ true
may_end_of g lt = go g.after g.removals g.additions lt
  where
    go : (ns : List ℕ) (rs : List Removal) (xs : List Order) → 0 < length rs + length xs → may_end (place_if xs places.Additions (place_if rs places.Removals (after_place ns))) ≡ true
    go ns [] [] lt = absurd (omega (arith, lt))
    go ns (r ∷ rs) [] lt = refl
    go ns rs (x ∷ xs) lt = refl

-- all groups, where `k` have begun before them

abbrev pub AreInForm : List LineValue → Type 0
AreInForm ls = AllByRecursion IsLine ls

pub all_left : (xs ys : List LineValue) → AreInForm (xs ++ ys) → AreInForm xs
all_left [] ys h = tt
all_left (x ∷ xs) ys h = (h.0, all_left xs ys h.1)

pub all_right : (xs ys : List LineValue) → AreInForm (xs ++ ys) → AreInForm ys
all_right [] ys h = h
all_right (x ∷ xs) ys h = all_right xs ys h.1

pub all_both : (xs ys : List LineValue) → AreInForm xs → AreInForm ys → AreInForm (xs ++ ys)
all_both [] ys h k = k
all_both (x ∷ xs) ys h k = (h.0, all_both xs ys h.1 k)

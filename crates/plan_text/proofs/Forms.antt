-- A plan is in form just where its lines are, and follow one another to an end.
use Rattle.std.proofs.Common.{◌≡◌, ◌∙◌, ◌+◌, ◌<◌, ◌≤◌, ◌&&◌, ◌==◌, true, ℕ, List, [], ◌∷◌, ◌++◌, length, map, refl, sym, ap, arith}
use Rattle.std.specs.Prelude.{nat_lt}
use Rattle.std.specs.List.{AllByRecursion, flat_map}
use Rattle.std.specs.Cmp.Derive.{both_true}
use Rattle.std.proofs.lemmas.Bool.{and_parts, eq-eqb, lt-ltb, ltb-true}
use Rattle.build_pool.specs.declared.orders.Order.{Order}
use Rattle.dep_atom.specs.declared.slot.Bind.{Bind}
use Rattle.plan_text.specs.Lines.{LineValue, line_of}
use Rattle.plan_text.specs.Numbers.{IsNumber, rise_between}
use Rattle.plan_text.specs.Plans.{GroupValue}
use Rattle.plan_text.specs.Standing.{StandingValue, ends, may_end, runs, standing, start}
use Rattle.plan_text.specs.Texts.{AreGroups, IsAddition, IsPlan, addition_lines, after_lines, group_lines, groups_lines, plan_lines, remove_line}
use Rattle.basics.specs.Limits.{most_groups}
use Rattle.plan_text.specs.Words.{IsBind, IsEntry, IsRemoval, rise}
use Rattle.plan_text.specs.declared.kind.Kind.TheVariants as kinds
use Rattle.plan_text.specs.declared.plan.Removal.{Removal}
use Rattle.plan_text.specs.declared.standing.Place.{Place}
use Rattle.plan_text.specs.declared.standing.Place.TheVariants as places
use Rattle.plan_text.proofs.Runs.{AreInForm, addition_text, all_both, all_left, all_right, ends-append, group_place, group_rises, inside_ends, inside_runs, may_end_if, may_end_of, removal_text, runs-append}

-- the parts of a group

removals_of : (rs : List Removal) → AreInForm (map remove_line rs) → AllByRecursion IsRemoval rs
removals_of [] h = tt
removals_of (r ∷ rs) h = (h.0, removals_of rs h.1)

removal_lines : (rs : List Removal) → AllByRecursion IsRemoval rs → AreInForm (map remove_line rs)
removal_lines [] h = tt
removal_lines (r ∷ rs) h = (h.0, removal_lines rs h.1)

binds_of : (bs : List Bind) → AreInForm (map (line_of kinds.Bind) bs) → AllByRecursion IsBind bs
binds_of [] h = tt
binds_of (b ∷ bs) h = (h.0, binds_of bs h.1)

bind_lines : (bs : List Bind) → AllByRecursion IsBind bs → AreInForm (map (line_of kinds.Bind) bs)
bind_lines [] h = tt
bind_lines (b ∷ bs) h = (h.0, bind_lines bs h.1)

additions_of : (xs : List Order) → AreInForm (flat_map addition_lines xs) → AllByRecursion IsAddition xs
additions_of [] h = tt
additions_of (a ∷ xs) h =
    let says : IsEntry _ = h.0.0 in (
      record {
        says = record { id = says.id; slot = says.slot; subslot = says.subslot; enabled = says.enabled };
        binds = binds_of a.binds (all_left (map (line_of kinds.Bind) a.binds) (flat_map addition_lines xs) h.1);
      },
      additions_of xs (all_right (map (line_of kinds.Bind) a.binds) (flat_map addition_lines xs) h.1),
    )

additions_lines : (xs : List Order) → AllByRecursion IsAddition xs → AreInForm (flat_map addition_lines xs)
additions_lines [] h = tt
additions_lines (a ∷ xs) h =
    let says : IsEntry a = h.0.says in (
      (record { id = says.id; slot = says.slot; subslot = says.subslot; enabled = says.enabled }, refl),
      all_both (map (line_of kinds.Bind) a.binds) (flat_map addition_lines xs) (bind_lines a.binds h.0.binds) (additions_lines xs h.1),
    )

numbers : (low high : ℕ) (ns : List ℕ) → high ≤ most_groups → rise_between low high ns ≡ true → AllByRecursion IsNumber ns
numbers low high [] few h = tt
numbers low high (n ∷ ns) few h =
    let both = and_parts (nat_lt low n && nat_lt n high) (rise_between n high ns) h in
    let ends_of = and_parts (nat_lt low n) (nat_lt n high) both.0 in
    let l : low < n = ltb-true low n ends_of.0 in
    let u : n < high = ltb-true n high ends_of.1 in
    (record { some = omega (arith, l); few = omega (arith, u, few) }, numbers n high ns few both.1)

after_form : (high : ℕ) (ns : List ℕ) → high ≤ most_groups → rise_between 0 high ns ≡ true → AreInForm (after_lines ns)
after_form high [] few h = tt
after_form high (n ∷ ns) few h = ((omega arith, numbers 0 high (n ∷ ns) few h), tt)

-- all groups, where `k` have begun before them

pub record Ends (k : ℕ) (p : Place) (t : List ℕ) (gs : List GroupValue) : Type 0 where
  pub follow : runs (standing k p t) (groups_lines (k + 1) gs) ≡ true
  pub ended : may_end (ends (standing k p t) (groups_lines (k + 1) gs)).place ≡ true

first_number : (k : ℕ) → k + 1 ≤ most_groups → IsNumber (k + 1)
first_number k few = record { some = omega arith; few = omega (arith, few) }

abbrev inside : GroupValue → List LineValue
inside g = after_lines g.after ++ (map remove_line g.removals ++ flat_map addition_lines g.additions)

pub groups_end : (k : ℕ) (p : Place) (t : List ℕ) (gs : List GroupValue) → AreGroups (k + 1) gs → may_end p ≡ true → k + length gs ≤ most_groups → Ends k p t gs
groups_end k p t [] h m few = record { follow = refl; ended = m }
groups_end k p t (g ∷ gs) h m few =
    let lt : k < most_groups = omega (arith, few) in
    let e = inside_ends (k + 1) t g in
    let rest = groups_end (k + 1) (group_place g) e.0 gs h.1 (may_end_of g h.0.changes) (omega (arith, few)) in
    let rises : group_rises (k + 1) g ≡ true = both_true h.0.earlier (both_true h.0.removals_rise h.0.additions_rise) in
    let here : runs (standing k p t) (group_lines (k + 1) g) ≡ true = both_true (both_true m (both_true (eq-eqb (k + 1) (k + 1) refl) (lt-ltb k most_groups lt))) (inside_runs (k + 1) t g ∙ rises) in
    record {
      follow = runs-append (standing k p t) (group_lines (k + 1) g) (groups_lines (k + 1 + 1) gs)
          ∙ both_true here (ap (λ s. runs s (groups_lines (k + 1 + 1) gs)) e.1 ∙ rest.follow);
      ended = ap (λ (s : StandingValue). may_end s.place) (ends-append (standing k p t) (group_lines (k + 1) g) (groups_lines (k + 1 + 1) gs) ∙ ap (λ s. ends s (groups_lines (k + 1 + 1) gs)) e.1) ∙ rest.ended;
    }

pub groups_form : (k : ℕ) (gs : List GroupValue) → AreGroups (k + 1) gs → k + length gs ≤ most_groups → AreInForm (groups_lines (k + 1) gs)
groups_form k [] h few = tt
groups_form k (g ∷ gs) h few =
    let n : k + 1 ≤ most_groups = omega (arith, few) in
    all_both (group_lines (k + 1) g) (groups_lines (k + 1 + 1) gs)
    (first_number k n, all_both (after_lines g.after) (map remove_line g.removals ++ flat_map addition_lines g.additions) (after_form (k + 1) g.after n h.0.earlier) (all_both (map remove_line g.removals) (flat_map addition_lines g.additions) (removal_lines g.removals h.0.removals) (additions_lines g.additions h.0.additions)))
    (groups_form (k + 1) gs h.1 (omega (arith, few)))

pub groups_are : (k : ℕ) (p : Place) (t : List ℕ) (gs : List GroupValue) → AreInForm (groups_lines (k + 1) gs) → Ends k p t gs → k ≤ most_groups → AreGroups (k + 1) gs × (k + length gs ≤ most_groups) × (may_end p ≡ true)
groups_are k p t [] form e few = (tt, omega (arith, few), e.ended)
groups_are k p t (g ∷ gs) form e few =
    let ls : List LineValue = group_lines (k + 1) g in
    let more : List LineValue = groups_lines (k + 1 + 1) gs in
    let both = and_parts (runs (standing k p t) (group_lines (k + 1) g)) (runs (ends (standing k p t) (group_lines (k + 1) g)) (groups_lines (k + 1 + 1) gs)) (sym (runs-append (standing k p t) (group_lines (k + 1) g) (groups_lines (k + 1 + 1) gs)) ∙ e.follow) in
    let first = and_parts (may_end p && (((k + 1) == (k + 1)) && nat_lt k most_groups)) (runs (standing (k + 1) places.Group t) (inside g)) both.0 in
    let head = and_parts (may_end p) (((k + 1) == (k + 1)) && nat_lt k most_groups) first.0 in
    let lt : k < most_groups = ltb-true k most_groups (and_parts ((k + 1) == (k + 1)) (nat_lt k most_groups) head.1).1 in
    let at_end = inside_ends (k + 1) t g in
    let later = groups_are (k + 1) (group_place g) at_end.0 gs (all_right (group_lines (k + 1) g) (groups_lines (k + 1 + 1) gs) form) (record {
      follow = ap (λ s. runs s (groups_lines (k + 1 + 1) gs)) (sym at_end.1) ∙ both.1;
      ended = ap (λ (s : StandingValue). may_end s.place) (ap (λ s. ends s (groups_lines (k + 1 + 1) gs)) (sym at_end.1) ∙ sym (ends-append (standing k p t) (group_lines (k + 1) g) (groups_lines (k + 1 + 1) gs))) ∙ e.ended;
    }) (omega (arith, lt)) in
    let rises = and_parts (rise_between 0 (k + 1) g.after) (rise (map removal_text g.removals) && rise (map addition_text g.additions)) (sym (inside_runs (k + 1) t g) ∙ first.1) in
    let kinds_rise = and_parts (rise (map removal_text g.removals)) (rise (map addition_text g.additions)) rises.1 in
    let mine : AreInForm (inside g) = (all_left (group_lines (k + 1) g) (groups_lines (k + 1 + 1) gs) form).1 in
    let changes = all_right (after_lines g.after) (map remove_line g.removals ++ flat_map addition_lines g.additions) mine in (
      (
        record {
          earlier = rises.0;
          changes = may_end_if g later.2;
          removals = removals_of g.removals (all_left (map remove_line g.removals) (flat_map addition_lines g.additions) changes);
          removals_rise = kinds_rise.0;
          additions = additions_of g.additions (all_right (map remove_line g.removals) (flat_map addition_lines g.additions) changes);
          additions_rise = kinds_rise.1;
        },
        later.0,
      ),
      omega (arith, later.1),
      head.0,
    )

-- a whole plan

pub plan_form : (gs : List GroupValue) → IsPlan gs → AreInForm (plan_lines gs)
plan_form gs is = (tt, groups_form 0 gs is.groups (omega (arith, is.few)))

pub plan_ends : (gs : List GroupValue) → IsPlan gs → (runs start (plan_lines gs) ≡ true) × (may_end (ends start (plan_lines gs)).place ≡ true)
plan_ends gs is = let e = groups_end 0 places.Header [] gs is.groups refl (omega (arith, is.few)) in (e.follow, e.ended)

pub plan_is : (gs : List GroupValue) → AreInForm (plan_lines gs) → runs start (plan_lines gs) ≡ true → may_end (ends start (plan_lines gs)).place ≡ true → IsPlan gs
plan_is gs form follow ended =
    let all = groups_are 0 places.Header [] gs form.1 (record { follow = follow; ended = ended }) (omega arith) in
    record { few = omega (arith, all.1); groups = all.0 }

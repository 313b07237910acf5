use Rattle.std.proofs.Common.{◌≡◌, ◌∙◌, ◌++◌, ◌∷◌, ◌<◌, ◌+◌, ℕ, List, [], Option, None, Some, ap, arith, get_or, length, map, subst, sym, take, true, false}
use Rattle.std.specs.Prelude.{MatchOption}
use Rattle.std.specs.Option.{option_map}
use Rattle.std.proofs.lemmas.List.{map-append, take_all, take_more}
use Rattle.basics.specs.Members.{Has}
use Rattle.basics.proofs.Membership.{has-at, has-map}
use Rattle.plan_law.specs.Accepted.{Changes}
use Rattle.plan_law.specs.Plans.{Group}
use Rattle.plan_lives.specs.IsReach.{IsReach}
use Rattle.plan_lives.specs.declared.reach.Reach.{Reach}
use Rattle.plan_lives.proofs.Places.{place_has}
use Rattle.plan_rules.specs.Changes.{change_of, changes_from, groups_on, pair_of}
use Rattle.plan_rules.specs.Pairs.{Pair}
use Rattle.plan_rules.specs.Rules.{IsFirstUnordered, line_rule}
use Rattle.plan_rules.specs.declared.change.Change.{Change}
use Rattle.plan_rules.specs.declared.change.FoundPair.{FoundPair}
use Rattle.plan_rules.proofs.Ordered.{Changed, IsBest, IsSeen, IsSeenWith, all_with, changes_at, first_apart, first_of_all, is_there, none_apart, not_unordered, on_line, unordered, with_none, with_pair}
use Rattle.plan_rules.proofs.order.first_apart.Goals as goal
use Rattle.plan_rules.proofs.order.first_apart.Goals.{then-are_apart, else-are_apart}

here : (plan : List Group) (changes : List Change) → map change_of changes ≡ changes_from 0 plan → (i : ℕ) (item : Change) → i < length changes → item ≡ get_or changes i item → Changes plan item.group item.line
here plan changes is i item lt at_i = changes_at plan (map change_of changes) is item.line item.group (has-map change_of changes item (has-at changes i item lt at_i))

there : (plan : List Group) (all : List Changed) → all ≡ changes_from 0 plan → (line : List ℕ) (items : List ℕ) (j : ℕ) → items ≡ groups_on line all → j < length items → Changes plan (get_or items j 0) line
there plan all is line items j are lt = changes_at plan all is line (get_or items j 0) (on_line all line (get_or items j 0) (subst (λ (gs : List ℕ). Has gs (get_or items j 0)) are (place_has items j lt)))

finish : (reach : Reach) → IsReach reach → (o : Option FoundPair) → IsBest reach.groups.now (λ q. Unit {0}) (option_map pair_of o) → MatchOption o (line_rule reach.groups.now None) (λ p. IsFirstUnordered reach.groups.now (pair_of p))
finish reach is None best = none_apart reach.groups.now (map (λ row. row.items) reach.rows.items) is.rows_are is.form.earlier best
finish reach is (Some p) best = first_apart reach.groups.now (pair_of p) best

pub are_apart-requires-clause-lower : goal.are_apart-requires-clause-lower
are_apart-requires-clause-lower c =
    let item = c.change-item.result in
    is_there c.args.reach.now.groups.now item.line item.group (here c.args.reach.now.groups.now c.args.changes.now c.requires.changes c.loop-change.change-index item (omega arith) c.change-item.is)

pub are_apart-requires-clause-higher : goal.are_apart-requires-clause-higher
are_apart-requires-clause-higher c =
    let plan = c.args.reach.now.groups.now in
    let all = map change_of c.args.changes.now in
    let item = c.change-item.result in
    let items = c.get-higher-items.result.now in
    let are : items ≡ groups_on item.line all = c.get-higher-items.ensures ∙ (c.requires.by_line c.text.result.now ∙ ap (λ (l : List ℕ). groups_on l all) c.text.ensures) in
    is_there plan item.line (get_or items c.loop-higher.higher-index 0) (there plan all c.requires.changes item.line items c.loop-higher.higher-index are (omega arith))

pub loop-higher-preserved : goal.loop-higher-preserved
loop-higher-preserved c =
    let plan = c.args.reach.now.groups.now in
    let all = map change_of c.args.changes.now in
    let item = c.change-item.result in
    let items = c.get-higher-items.result.now in
    let j = c.loop-higher.higher-index in
    let h = get_or items j 0 in
    let cs = map change_of (take c.loop-change.change-index c.args.changes.now) in
    let are : items ≡ groups_on item.line all = c.get-higher-items.ensures ∙ (c.requires.by_line c.text.result.now ∙ ap (λ (l : List ℕ). groups_on l all) c.text.ensures) in
    let one = here plan c.args.changes.now c.requires.changes c.loop-change.change-index item (omega arith) c.change-item.is in
    let other = there plan all c.requires.changes item.line items j are (omega arith) in
    let more : take (j + 1) items ≡ take j items ++ h ∷ [] = take_more items j 0 (omega arith) in
    let old = option_map pair_of c.loop-higher.first in
    subst (λ (gs : List ℕ). IsBest plan (IsSeenWith cs (change_of item) gs) (option_map pair_of c.if-are_apart.first)) (sym more) (elim c.if-are_apart.branch [
      | then-are_apart w ↦ subst (λ (o : Option Pair). IsBest plan (IsSeenWith cs (change_of item) (take j items ++ h ∷ [])) o) (sym (ap (option_map pair_of) w.first-is ∙ ap Some w.earlier.ensures))
          (with_pair plan cs (change_of item) (take j items) h old c.loop-higher.invariant (unordered plan c.requires.is.form.earlier item.line item.group h one other (c.are_apart.ensures.0 w.if-are_apart.true)))
      | else-are_apart w ↦ subst (λ (o : Option FoundPair). IsBest plan (IsSeenWith cs (change_of item) (take j items ++ h ∷ [])) (option_map pair_of o)) (sym w.first-is)
          (with_none plan cs (change_of item) (take j items) h old c.loop-higher.invariant (λ u. let y = c.are_apart.ensures.1 (not_unordered plan (record { line = item.line; lower = item.group; higher = h }) u) in let n = w.if-are_apart.false in let off : true ≡ false = sym y ∙ n in cc off))
    ])

pub loop-change-preserved : goal.loop-change-preserved
loop-change-preserved c =
    let plan = c.args.reach.now.groups.now in
    let changes = c.args.changes.now in
    let all = map change_of changes in
    let i = c.loop-change.change-index in
    let item = c.change-item.result in
    let items = c.get-higher-items.result.now in
    let cs = map change_of (take i changes) in
    let are : items ≡ groups_on item.line all = c.get-higher-items.ensures ∙ (c.requires.by_line c.text.result.now ∙ ap (λ (l : List ℕ). groups_on l all) c.text.ensures) in
    let more : map change_of (take (i + 1) changes) ≡ cs ++ change_of item ∷ [] =
    ap (map change_of) (take_more changes i item (omega arith) ∙ ap (λ (x : Change). take i changes ++ x ∷ []) (sym c.change-item.is)) ∙ map-append change_of (take i changes) (item ∷ []) in
    let o = option_map pair_of c.loop-higher.first in
    subst (λ (xs : List Changed). IsBest plan (IsSeen xs) o) (sym more)
    (all_with plan all c.requires.changes cs (change_of item) o
    (subst (λ (gs : List ℕ). IsBest plan (IsSeenWith cs (change_of item) gs) o) (take_all c.loop-higher.higher-index items (omega arith) ∙ are) c.loop-higher.invariant))

pub returns : goal.returns
returns c =
    let plan = c.args.reach.now.groups.now in
    let o = option_map pair_of c.loop-change.first in
    finish c.args.reach.now c.requires.is c.loop-change.first
    (first_of_all plan (map change_of c.args.changes.now) c.requires.changes o
    (subst (λ (xs : List Change). IsBest plan (IsSeen (map change_of xs)) o) (take_all c.loop-change.change-index c.args.changes.now (omega arith)) c.loop-change.invariant))

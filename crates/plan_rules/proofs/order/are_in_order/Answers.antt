use Rattle.std.proofs.Common.{◌≡◌, ◌<◌, ◌+◌, ◌∙◌, ◌∷◌, ◌++◌, ℕ, List, [], Option, None, Some, map, take, get_or, length, ap, sym, subst, arith, inl, inr, rules, zero, suc}
use Rattle.std.specs.BTreeMap.{get_by}
use Rattle.std.specs.Cmp.Lexicographic.{slice_cmp}
use Rattle.std.specs.Ordering.{nat_cmp}
use Rattle.std.proofs.lemmas.List.{map-append, take_all, take_more}
use Rattle.std.proofs.lemmas.Map.Text.{btree_map_updates_str}
use Rattle.basics.specs.Members.{Has}
use Rattle.basics.proofs.Membership.{has-at, has-map}
use Rattle.plan_law.specs.Plans.{Group, Reaches}
use Rattle.plan_rules.specs.Changes.{change_of, changes_from}
use Rattle.plan_rules.specs.declared.change.Change.{Change}
use Rattle.plan_rules.proofs.Gone.{AreGone, gone_more}
use Rattle.plan_rules.proofs.Ordered.{Changed, at_changes, changes_at, is_there}
use Rattle.plan_rules.proofs.order.are_in_order.Goals as goal
use Rattle.plan_rules.proofs.order.are_in_order.Goals.{in-Some+else-not-reaches, in_default}

has_seen : (xs : List Change) (i : ℕ) (x : Changed) → Has (map change_of (take i xs)) x → Has (map change_of xs) x
has_seen xs zero x has = absurd has
has_seen [] (suc i) x has = has
has_seen (y ∷ xs) (suc i) x (inl is) = inl is
has_seen (y ∷ xs) (suc i) x (inr has) = inr (has_seen xs i x has)

here : (plan : List Group) (changes : List Change) → map change_of changes ≡ changes_from 0 plan → (i : ℕ) (item : Change) → i < length changes → item ≡ get_or changes i item → item.group < length plan
here plan changes is i item lt at_i = is_there plan item.line item.group (changes_at plan (map change_of changes) is item.line item.group (has-map change_of changes item (has-at changes i item lt at_i)))

before_there : (plan : List Group) (changes : List Change) → map change_of changes ≡ changes_from 0 plan → (i : ℕ) (last : List ℕ → Option ℕ) → AreGone plan (map change_of (take i changes)) last → (line : List ℕ) (k : ℕ) → last line ≡ Some k → k < length plan
before_there plan changes is i last gone line k was = is_there plan line k (changes_at plan (map change_of changes) is line k (has_seen changes i (line, k) (gone.noted line k was)))

pub reaches-requires-clause-earlier : goal.reaches-requires-clause-earlier
reaches-requires-clause-earlier c =
    let last : List ℕ → Option ℕ = λ line. get_by (λ k. slice_cmp nat_cmp line k.now) c.loop-change.last in
    before_there c.args.reach.now.groups.now c.args.changes.now c.requires.changes c.loop-change.change-index last c.loop-change.invariant c.text.result.now c.in-Some.before (sym c.in_ok-before.ensures.old ∙ c.in-Some.is)

pub reaches-requires-clause-later : goal.reaches-requires-clause-later
reaches-requires-clause-later c =
    here c.args.reach.now.groups.now c.args.changes.now c.requires.changes c.loop-change.change-index c.change-item.result (omega arith) c.change-item.is

pub loop-change-preserved : goal.loop-change-preserved
loop-change-preserved c =
    let last : List ℕ → Option ℕ = λ line. get_by (λ k. slice_cmp nat_cmp line k.now) c.loop-change.last in
    let now : List ℕ → Option ℕ = λ line. get_by (λ k. slice_cmp nat_cmp line k.now) c.insert.new.self in
    let items = c.args.changes.now in
    let item = c.change-item.result in
    let reaches : (k : ℕ) → last c.text.result.now ≡ Some k → Reaches c.args.reach.now.groups.now item.group k = λ k was. elim c.match-branch-2.branch [
      | in-Some+else-not-reaches w ↦ (
          let both : Some w.in-Some.before ≡ Some k = sym w.in-Some.is ∙ (c.in_ok-before.ensures.old ∙ was) in
          let same : w.in-Some.before ≡ k = cc both in
          subst (λ (n : ℕ). Reaches c.args.reach.now.groups.now item.group n) same (w.reaches.ensures.0 (let f = w.if-not-reaches.false in search rules)))
      | in_default w ↦ absurd (let both : None ≡ Some k = sym w.in_default.is ∙ (c.in_ok-before.ensures.old ∙ was) in cc both)
    ] in
    let more : map change_of (take (c.loop-change.change-index + 1) items) ≡ map change_of (take c.loop-change.change-index items) ++ (c.text.result.now, item.group) ∷ [] =
    ap (map change_of) (take_more items c.loop-change.change-index item (omega arith) ∙ ap (λ (x : Change). take c.loop-change.change-index items ++ x ∷ []) (sym c.change-item.is))
    ∙ (map-append change_of (take c.loop-change.change-index items) (item ∷ [])
    ∙ ap (λ (l : List ℕ). map change_of (take c.loop-change.change-index items) ++ (l, item.group) ∷ []) (sym c.text.ensures)) in
    subst (λ (cs : List Changed). AreGone c.args.reach.now.groups.now cs now) (sym more)
    (gone_more c.args.reach.now.groups.now (map change_of (take c.loop-change.change-index items)) last now c.text.result.now item.group c.loop-change.invariant reaches
    (btree_map_updates_str c.text.result.now c.loop-change.last c.insert.new.self (Some item.group) c.in_ok-before.ensures.updates))

pub returns : goal.returns
returns c t g h line less one other =
    let last : List ℕ → Option ℕ = λ line. get_by (λ k. slice_cmp nat_cmp line k.now) c.loop-change.last in
    let items = c.args.changes.now in
    let plan = c.args.reach.now.groups.now in
    let gone : AreGone plan (map change_of items) last = subst (λ (cs : List Change). AreGone plan (map change_of cs) last) (take_all c.loop-change.change-index items (omega arith)) c.loop-change.invariant in
    gone.ordered g h line (at_changes plan (map change_of items) c.requires.changes line g one) (at_changes plan (map change_of items) c.requires.changes line h other)

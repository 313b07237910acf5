use Rattle.std.proofs.Common.{◌≡◌, ◌∙◌, true, List, ℕ, ap, sym, subst, arith}
use Rattle.basics.specs.Members.{Has}
use Rattle.plan_law.specs.Plans.{Group}
use Rattle.plan_lives.proofs.Places.{group_is}
use Rattle.plan_lives.proofs.plan.waits_for_earlier.Goals as goal

pub returns-then-not-are_below : goal.returns-then-not-are_below
returns-then-not-are_below c = (
  λ t. cc,
  λ f. absurd (
      let p = c.args.groups.now in
      let e = group_is p c.loop-g.g c.index-groups-g.result (omega arith) c.index-groups-g.is in
      let a = c.deref.ensures.value ∙ (ap (λ (x : Group). x.after) (c.group.view_is) ∙ ap (λ (x : Group). x.after) (sym e)) in
      let t : c.are_below.result ≡ true = c.are_below.ensures.1 (λ h has. f c.loop-g.g h (subst (λ (xs : List ℕ). Has xs h) a has)) in
      let n = c.if-not-are_below.true in cc (t, n)),
)

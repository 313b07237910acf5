use Rattle.std.proofs.Common.{◌≡◌, ◌∙◌, ◌+◌, List, arith, subst, sym, true, false, ℕ}
use Rattle.plan_lives.specs.Lives.{lives_of}
use Rattle.plan_lives.specs.Meeting.{MayMeet}
use Rattle.plan_lives.specs.Stretches.{stretch_value}
use Rattle.plan_lives.proofs.Numbered.{Goes, goes_on, goes_past, gone_through}
use Rattle.plan_lives.proofs.meetings.numbers_of.Goals as goal
use Rattle.plan_lives.proofs.meetings.numbers_of.Goals.{then-may_meet+in_ok-push, else-may_meet}

pub loop-g-preserved : goal.loop-g-preserved
loop-g-preserved c =
    let plan = c.args.reach.now.groups.now in
    let P = MayMeet plan (stretch_value c.args.stretch.now) (lives_of c.args.lives.now) in
    let g = c.loop-g.g in
    let found = c.loop-g.numbers.items in
    elim c.if-may_meet.branch [
      | then-may_meet+in_ok-push w ↦ subst (λ v. Goes P plan (g + 1) v.items) (sym w.numbers-is)
          (subst (λ (ns : List ℕ). Goes P plan (g + 1) ns) (sym w.in_ok-push.ensures.items)
          (goes_on P plan g found (omega arith) c.loop-g.invariant (c.may_meet.ensures.0 w.if-may_meet.true)))
      | else-may_meet w ↦ subst (λ v. Goes P plan (g + 1) v.items) (sym w.numbers-is)
          (goes_past P plan g found (omega arith) c.loop-g.invariant (λ holds. let y = c.may_meet.ensures.1 holds in let n = w.if-may_meet.false in let off : true ≡ false = sym y ∙ n in cc off))
    ]

pub returns : goal.returns
returns c =
    let plan = c.args.reach.now.groups.now in
    let P = MayMeet plan (stretch_value c.args.stretch.now) (lives_of c.args.lives.now) in
    gone_through P plan c.loop-g.g c.loop-g.numbers.items (omega arith) c.loop-g.invariant

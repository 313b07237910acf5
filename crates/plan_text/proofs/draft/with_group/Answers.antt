use Rattle.std.proofs.Common.{◌∙◌, ap}
use Rattle.plan_text.specs.Drafts.{whole_groups}
use Rattle.plan_text.specs.Plans.{group_value}
use Rattle.plan_text.specs.Standing.{standing_value}
use Rattle.plan_text.proofs.Steps.{first_group, next_group, values-snoc}
use Rattle.plan_text.proofs.draft.with_group.Goals as goal
use Rattle.plan_text.proofs.draft.with_group.Goals.{in-Some+in_ok-push, in_default}

pub returns : goal.returns
returns c =
    let s = standing_value c.args.standing.now in
    let gs = whole_groups c.args.draft in
    let bare = group_value c.bare.result in
    elim c.match-current.branch [
      | in-Some+in_ok-push w ↦
          let pushed = values-snoc c.args.draft.groups.items _ w.in-Some.group (ap (λ v. v.items) w.groups-is ∙ w.in_ok-push.ensures.items) in
          rw w.in-Some.is (next_group s c.args.number gs _ (group_value w.in-Some.group) bare (rw w.in-Some.is at c.requires.count) c.requires.follows c.bare.ensures pushed)
      | in_default w ↦
          rw (w.groups-is, w.in_default.is) (first_group s c.args.number gs bare (rw w.in_default.is at c.requires.count) c.requires.follows c.bare.ensures)
    ]

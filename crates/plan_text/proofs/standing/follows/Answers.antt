use Rattle.std.proofs.Common.{◌∙◌, ◌&&◌, ap, sym}
use Rattle.plan_text.specs.Numbers.{rise_between}
use Rattle.plan_text.specs.Reading.{line_value}
use Rattle.plan_text.specs.Standing.{is_bare, standing_value, takes}
use Rattle.plan_text.specs.declared.line.Line.{Line}
use Rattle.plan_text.proofs.standing.follows.Goals as goal

pub returns-in-After : goal.returns-in-After
returns-in-After c =
    c.takes_after.ensures ∙ ap (λ ns. is_bare c.args.standing.now.place && rise_between 0 c.args.standing.now.groups ns) c.deref.ensures.value
    ∙ ap (λ (x : Line). takes (line_value x).kind (line_value x).said (standing_value c.args.standing.now) c.args.text.now) (sym c.in-After.is)

pub returns-in-Group : goal.returns-in-Group
returns-in-Group c =
    c.takes_group.ensures ∙ ap (λ (x : Line). takes (line_value x).kind (line_value x).said (standing_value c.args.standing.now) c.args.text.now) (sym c.in-Group.is)

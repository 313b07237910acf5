use Rattle.std.proofs.Common.{◌∙◌, ◌∷◌, ap, sym}
use Rattle.config_text.proofs.Items.{blank_skips, comment_skips}
use Rattle.config_text.proofs.assignment.skipped.Goals as goal

pub returns-in-Some : goal.returns-in-Some
returns-in-Some c = blank_skips c.args.text.now c.in-Some.rest.now c.in-Some.byte c.requires.utf8 c.in-Some.ensures (sym c.if-is_blank.ensures)

pub returns-in-Some-eq35-default : goal.returns-in-Some-eq35-default
returns-in-Some-eq35-default c =
    comment_skips c.args.text.now c.in-Some.rest.now c.cut.result.0.now c.cut.result.1.now c.requires.utf8 (c.in-Some.ensures ∙ ap (λ b. b ∷ c.in-Some.rest.now) c.in-Some-eq35-default.field-0-0-test) c.cut.ensures

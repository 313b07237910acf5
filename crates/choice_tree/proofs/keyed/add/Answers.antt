use Rattle.std.proofs.Common.{◌∙◌, ap, sym}
use Rattle.choice_tree.specs.Keys.{ends_with}
use Rattle.choice_tree.proofs.Under.{come_before, come_now}
use Rattle.choice_tree.proofs.keyed.add.Goals as goal

pub returns-then-ends_with : goal.returns-then-ends_with
returns-then-ends_with c =
    come_before c.args.line c.args.lists.now c.args.text.now
    (ap (ends_with c.args.line) (sym c.listed.ensures) ∙ (sym c.ends_with.ensures ∙ c.if-ends_with.true))

pub returns : goal.returns
returns c =
    come_now c.args.line c.args.lists.now c.put.new.lists c.args.text.now
    (ap (ends_with c.args.line) (sym c.listed.ensures) ∙ (sym c.ends_with.ensures ∙ c.if-ends_with.false)) c.in_ok-put.ensures

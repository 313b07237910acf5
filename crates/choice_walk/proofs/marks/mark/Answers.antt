use Rattle.std.proofs.Common.{◌∙◌, None, ap, arith, refl, sym}
use Rattle.std.specs.Prelude.{is_some}
use Rattle.choice_walk.proofs.Marked.{held, marked_before, marked_now, marked_outside}
use Rattle.choice_walk.proofs.marks.mark.Goals as goal

pub returns-then-decision-len : goal.returns-then-decision-len
returns-then-decision-len c count newer are =
    marked_outside count newer c.args.decision.now.line c.args.decision.now.value c.args.marks.now.items are (let test = c.if-decision-len.true in omega (arith, test))

pub returns-then-is_some : goal.returns-then-is_some
returns-then-is_some c count newer are =
    let test = c.if-decision-len.false in
    marked_before count newer c.args.decision.now.line c.args.decision.now.value c.args.marks.now.items are
    (ap is_some (held c.args.marks.now.items c.args.decision.now.line c.index.result.now None (omega (arith, test)) c.index.ensures) ∙ sym c.if-is_some.ensures)

pub returns : goal.returns
returns c count newer are =
    let test = c.if-decision-len.false in
    marked_now count newer c.args.decision.now.line c.args.decision.now.value c.args.marks.now.items are _ (omega (arith, test))
    (ap is_some (held c.args.marks.now.items c.args.decision.now.line c.index.result.now None (omega (arith, test)) c.index.ensures) ∙ sym c.if-is_some.ensures) refl

use Rattle.std.proofs.Common.{flat_map, sym, ap, subst, ◌∙◌, map-id}
use Rattle.std.proofs.lemmas.Iterator.{YieldsList-from_chars}
use Rattle.std.proofs.lemmas.Iterator.Consumers.{YieldsList-end}
use Rattle.merge_report.specs.Shown.{IsPlain, shown_char}
use Rattle.merge_report.proofs.Plain.{shown_plain}
use Rattle.merge_report.proofs.escapes.shown.Goals as goal

pub returns-clause-text : goal.returns-clause-text
returns-clause-text c =
    let end = YieldsList-end (YieldsList-from_chars c.args.text.now c.utf8.text cc) c.loop-letter.yielded _ c.loop-letter.yielded_by _ _ c.in-None.is c.next.ensures.steps in
    c.loop-letter.invariant ∙ ap (flat_map shown_char) (sym (map-id c.loop-letter.yielded) ∙ end.0)

pub returns-clause-plain : goal.returns-clause-plain
returns-clause-plain c = subst IsPlain (sym (returns-clause-text c)) (shown_plain c.args.text.now)

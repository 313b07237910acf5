use Rattle.std.proofs.Common.{◌∙◌, ◌≡◌, get_or, sym, ap, arith, true}
use Rattle.pms_grammar.specs.declared.place.Place.TheVariants.{Number}
use Rattle.pms_grammar.specs.Machine.{may_end, is_nowhere, next, run}
use Rattle.pms_grammar.proofs.Stops.{run-whole, stops_inside, stops_at_end, text_completed}
use Rattle.pms_grammar.proofs.recognise.version_stop.Goals as goal

pub returns-then-is_nowhere-clause-stop : goal.returns-then-is_nowhere-clause-stop
returns-then-is_nowhere-clause-stop c =
    let byte = get_or c.args.bytes.now c.loop-at.at 0 in
    let here : is_nowhere (next c.loop-at.place byte) ≡ true = ap is_nowhere (sym c.next-next.ensures) ∙ (sym c.is_nowhere.ensures ∙ c.if-is_nowhere.true) in
    stops_inside c.args.bytes.now c.loop-at.at (omega arith) (ap is_nowhere (sym c.loop-at.invariant.place) ∙ c.loop-at.invariant.somewhere) (ap (λ q. is_nowhere (next q byte)) (sym c.loop-at.invariant.place) ∙ here)

pub returns-then-may_end-clause-version : goal.returns-then-may_end-clause-version
returns-then-may_end-clause-version c =
    let place : c.loop-at.place ≡ run Number c.args.bytes.now = c.loop-at.invariant.place ∙ run-whole c.args.bytes.now c.loop-at.at (omega arith) in
    text_completed c.args.bytes.now (ap may_end (sym place) ∙ (sym c.may_end.ensures ∙ c.if-may_end.true))

pub returns-else-may_end-clause-stop : goal.returns-else-may_end-clause-stop
returns-else-may_end-clause-stop c =
    let place : c.loop-at.place ≡ run Number c.args.bytes.now = c.loop-at.invariant.place ∙ run-whole c.args.bytes.now c.loop-at.at (omega arith) in
    stops_at_end c.args.bytes.now (ap is_nowhere (sym place) ∙ c.loop-at.invariant.somewhere) (ap may_end (sym place) ∙ (sym c.may_end.ensures ∙ c.if-may_end.false))

use Rattle.std.proofs.Common.{◌∙◌, ◌≡◌, ◌++◌, drop, sym, ap, subst}
use Rattle.std.proofs.lemmas.List.{take-append-drop}
use Rattle.pms_grammar.specs.Grammar.{AreDigits}
use Rattle.pms_version.proofs.Steps.{digits_are_short}
use Rattle.pms_version.proofs.reading.split_digits.Goals as goal

pub returns-clause-short : goal.returns-clause-short
returns-clause-short c =
    let digits : AreDigits c.split_at.result.0.now = subst AreDigits (sym c.split_at.ensures.front) c.loop-end.invariant.digits in
    let whole : c.args.bytes.now ≡ c.split_at.result.0.now ++ drop c.loop-end.end c.args.bytes.now =
    sym (take-append-drop c.loop-end.end c.args.bytes.now) ∙ ap (λ xs. xs ++ drop c.loop-end.end c.args.bytes.now) (sym c.split_at.ensures.front) in
    digits_are_short c.args.bytes.now c.split_at.result.0.now (drop c.loop-end.end c.args.bytes.now) whole digits c.requires

use Rattle.std.proofs.Common.{◌≡◌, arith}
use Rattle.std.proofs.lemmas.Fmt.{parse-decimal}
use Rattle.plan_text.proofs.number.read_number.Goals as goal

pub returns-in_default : goal.returns-in_default
returns-in_default c = λ n is e.
    let good = parse-decimal 32 n c.args.word.now c.parse.result (omega (arith, is.few)) (omega (arith, is.few)) e c.parse.ensures.value.0 in
    cc (good, c.in_default.is)

pub returns-then-not-is_written : goal.returns-then-not-is_written
returns-then-not-is_written c = λ n is e.
    let good = parse-decimal 32 n c.args.word.now c.parse.result (omega (arith, is.few)) (omega (arith, is.few)) e c.parse.ensures.value.0 in
    let same : c.in-Ok.number ≡ n = cc (good, c.in-Ok.is) in
    cc (c.is_written.ensures.1 (rw same (is.some, e)), c.if-not-is_written.true)

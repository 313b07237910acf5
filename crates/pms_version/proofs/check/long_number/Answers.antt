use Rattle.std.proofs.Common.{◌∙◌, ◌≡◌, ◌<◌, ◌≤◌, ◌+◌, ℕ, sym, get_or, arith, true}
use Rattle.basics.specs.Bytes.{is_digit}
use Rattle.pms_version.specs.Reading.{IsShortBefore}
use Rattle.pms_version.proofs.Faults.{digit_count-row, row-more, short_past, short_to_end}
use Rattle.pms_version.proofs.check.long_number.Goals as goal
use Rattle.pms_version.proofs.check.long_number.Goals.{then-not-is_digit, else-not-is_digit+else-at-start-eq-MOST_DIGITS}

pub returns-then-at-start-eq-MOST_DIGITS-clause-first : goal.returns-then-at-start-eq-MOST_DIGITS-clause-first
returns-then-at-start-eq-MOST_DIGITS-clause-first c =
    let bytes = c.args.bytes.now in
    let row : (k : ℕ) → c.loop-at.start ≤ k → k < c.loop-at.at + 1 → is_digit (get_or bytes k 0) ≡ true =
    row-more bytes c.loop-at.start c.loop-at.at c.loop-at.invariant.digits (sym c.is_digit.ensures ∙ c.if-not-is_digit.false) in
    (digit_count-row bytes c.loop-at.start 39 (omega arith) (λ k from below. row k from (omega arith)), c.loop-at.invariant.short)

pub loop-at-preserved : goal.loop-at-preserved
loop-at-preserved c = elim c.if-not-is_digit.branch [
  | then-not-is_digit w ↦
      let past : IsShortBefore c.args.bytes.now (c.loop-at.at + 1) =
      short_past c.args.bytes.now c.loop-at.start c.loop-at.at c.loop-at.invariant.short c.loop-at.invariant.few (sym c.is_digit.ensures ∙ w.if-not-is_digit.true) in
      record {
        started = omega arith;
        few = omega arith;
        digits = λ k from below. absurd (omega arith);
        short = λ k below. past k (omega arith);
      }
  | else-not-is_digit+else-at-start-eq-MOST_DIGITS w ↦
      let row : (k : ℕ) → c.loop-at.start ≤ k → k < c.loop-at.at + 1 → is_digit (get_or c.args.bytes.now k 0) ≡ true =
      row-more c.args.bytes.now c.loop-at.start c.loop-at.at c.loop-at.invariant.digits (sym c.is_digit.ensures ∙ w.if-not-is_digit.false) in
      record {
        started = omega arith;
        few = omega arith;
        digits = λ k from below. row k (omega arith) below;
        short = λ k below. c.loop-at.invariant.short k (omega arith);
      }
]

pub returns-clause-none : goal.returns-clause-none
returns-clause-none c = short_to_end c.args.bytes.now c.loop-at.start c.loop-at.invariant.short (omega arith)

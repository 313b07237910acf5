use Rattle.std.proofs.Common.{◌∙◌, ◌∷◌, ◌++◌, [], ◌≡◌, ap, sym, subst}
use Rattle.pms_version.specs.Steps.{ReadsNumbers}
use Rattle.pms_version.proofs.Steps.{number_read, numbers_end, short_behind}
use Rattle.pms_version.proofs.reading.read_numbers.Goals as goal

pub split_digits-requires : goal.split_digits-requires
split_digits-requires c = short_behind 1 c.dots.behind.now c.skip.result.now c.skip.ensures c.dots.invariant.short

pub dots-preserved : goal.dots-preserved
dots-preserved c =
    let items : c.push.new.self.items ≡ c.dots.numbers.items ++ c.split_digits.result.0.now ∷ [] =
    c.in_ok-push.ensures.items ∙ ap (λ x. c.dots.numbers.items ++ x ∷ []) c.in_ok-number.ensures in
    record {
      short = c.split_digits.ensures.rest;
      reads =
          subst (λ xs. ReadsNumbers c.args.bytes.now xs c.split_digits.result.1.now) (sym items)
          (number_read c.args.bytes.now c.dots.behind.now c.split_digits.result.0.now c.split_digits.result.1.now c.dots.numbers.items c.dots.invariant.reads
          (sym c.byte_at.ensures ∙ c.dots-test.true)
          c.split_digits.ensures.digits
          (sym c.skip.ensures ∙ c.split_digits.ensures.whole)
          c.split_digits.ensures.ends);
    }

pub returns-clause-numbers : goal.returns-clause-numbers
returns-clause-numbers c = numbers_end c.args.bytes.now c.dots.behind.now c.dots.numbers.items c.dots.invariant.reads (λ e. c.dots-test.false (c.byte_at.ensures ∙ e))

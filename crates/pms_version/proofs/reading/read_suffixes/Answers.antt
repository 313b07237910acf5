use Rattle.std.proofs.Common.{◌∙◌, ◌∷◌, ◌++◌, [], ◌≡◌, ap, sym, subst, drop, length}
use Rattle.pms_grammar.specs.Grammar.{kind_at, word}
use Rattle.pms_version.specs.Inside.{kind_of}
use Rattle.pms_version.specs.Steps.{ReadsSuffixes}
use Rattle.pms_version.proofs.Steps.{suffix_read, suffixes_end, short_behind, shorter_behind}
use Rattle.pms_version.proofs.reading.read_suffixes.Goals as goal

pub split_digits-requires : goal.split_digits-requires
split_digits-requires c =
    short_behind c.word_len.result c.skip-tail.result.now c.skip.result.now c.skip.ensures
    (short_behind 1 c.underscores.behind.now c.skip-tail.result.now c.skip-tail.ensures c.underscores.invariant.short)

pub underscores-smaller : goal.underscores-smaller
underscores-smaller c =
    shorter_behind c.word_len.result c.underscores.behind.now c.split_digits.result.0.now c.split_digits.result.1.now
    (sym c.byte_at.ensures ∙ c.underscores-test.true)
    (ap (drop c.word_len.result) (sym c.skip-tail.ensures) ∙ (sym c.skip.ensures ∙ c.split_digits.ensures.whole))

pub underscores-preserved : goal.underscores-preserved
underscores-preserved c =
    let kind = kind_of c.kind_at-kind.result in
    let items : c.push.new.self.items ≡ c.underscores.suffixes.items ++ record { kind = kind; digits = c.split_digits.result.0.now } ∷ [] =
    c.in_ok-push.ensures.items ∙ ap (λ x. c.underscores.suffixes.items ++ record { kind = kind; digits = x } ∷ []) c.in_ok-number.ensures in
    let left : drop (length (word kind)) (drop 1 c.underscores.behind.now) ≡ c.split_digits.result.0.now ++ c.split_digits.result.1.now =
    ap (λ n. drop n (drop 1 c.underscores.behind.now)) (sym c.word_len.ensures)
    ∙ (ap (drop c.word_len.result) (sym c.skip-tail.ensures) ∙ (sym c.skip.ensures ∙ c.split_digits.ensures.whole)) in
    record {
      short = c.split_digits.ensures.rest;
      reads =
          subst (λ xs. ReadsSuffixes c.args.bytes.now xs c.split_digits.result.1.now) (sym items)
          (suffix_read c.args.bytes.now c.underscores.behind.now c.split_digits.result.0.now c.split_digits.result.1.now kind c.underscores.suffixes.items c.underscores.invariant.reads
          (sym c.byte_at.ensures ∙ c.underscores-test.true)
          (c.kind_at-kind.ensures ∙ ap kind_at c.skip-tail.ensures)
          c.split_digits.ensures.digits
          left
          c.split_digits.ensures.ends);
    }

pub returns-clause-suffixes : goal.returns-clause-suffixes
returns-clause-suffixes c = suffixes_end c.args.bytes.now c.underscores.behind.now c.underscores.suffixes.items c.underscores.invariant.reads (λ e. c.underscores-test.false (c.byte_at.ensures ∙ e))

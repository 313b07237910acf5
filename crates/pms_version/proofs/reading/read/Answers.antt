use Rattle.std.specs.Option.{option_to_list}
use Rattle.std.proofs.Common.{◌∙◌, ◌≡◌, ◌++◌, ap, sym, subst}
use Rattle.pms_grammar.specs.Grammar.{AreDigits, VersionValue, spelling}
use Rattle.pms_version.specs.Limits.{IsReadable}
use Rattle.pms_version.proofs.Steps.{all_read, readable_text}
use Rattle.pms_version.proofs.reading.read.Goals as goal

pub returns : goal.returns
returns c p v e =
    let digits : AreDigits c.in_ok-first.first = subst AreDigits (sym c.in_ok-first.ensures) c.split_digits.ensures.digits in
    let whole : c.args.text.now ≡ c.in_ok-first.first ++ c.split_digits.result.1.now =
    sym c.as_bytes.ensures.value ∙ (c.split_digits.ensures.whole ∙ ap (λ xs. xs ++ c.split_digits.result.1.now) (sym c.in_ok-first.ensures)) in
    all_read p c.args.text.now c.in_ok-first.first c.split_digits.result.1.now c.in-Ok.read.0.items c.in-Ok.read.1.now (option_to_list c.read_letter-letter.result.0) c.read_letter-letter.result.1.now c.in-Ok-read_suffixes.read.0.items c.in-Ok-read_suffixes.read.1.now c.in_ok-revision.revision v e digits whole c.split_digits.ensures.ends c.in-Ok.ensures.numbers c.read_letter-letter.ensures.letter c.in-Ok-read_suffixes.ensures.suffixes c.in_ok-revision.ensures

pub invariant_of-result : goal.invariant_of-result
invariant_of-result c =
    let p : VersionValue = c.requires.version.0 in
    let e : c.args.text.now ≡ spelling p = c.requires.version.2 in
    let digits : AreDigits c.in_ok-first.first = subst AreDigits (sym c.in_ok-first.ensures) c.split_digits.ensures.digits in
    let whole : c.args.text.now ≡ c.in_ok-first.first ++ c.split_digits.result.1.now =
    sym c.as_bytes.ensures.value ∙ (c.split_digits.ensures.whole ∙ ap (λ xs. xs ++ c.split_digits.result.1.now) (sym c.in_ok-first.ensures)) in
    let same = all_read p c.args.text.now c.in_ok-first.first c.split_digits.result.1.now c.in-Ok.read.0.items c.in-Ok.read.1.now (option_to_list c.read_letter-letter.result.0) c.read_letter-letter.result.1.now c.in-Ok-read_suffixes.read.0.items c.in-Ok-read_suffixes.read.1.now c.in_ok-revision.revision c.requires.version.1 e digits whole c.split_digits.ensures.ends c.in-Ok.ensures.numbers c.read_letter-letter.ensures.letter c.in-Ok-read_suffixes.ensures.suffixes c.in_ok-revision.ensures in
    record {
      readable = subst IsReadable (sym same) (readable_text p c.args.text.now c.requires.version.1 e c.requires.length c.requires.short);
      text = c.in_ok-text.ensures ∙ (e ∙ ap (λ q. spelling q) (sym same));
    }

use Rattle.std.proofs.Common.{◌≡◌, ◌∙◌, rules, ap, sym, true, if◌then◌else◌, Some, None}
use Rattle.std.specs.Result.{result_ok}
use Rattle.std.specs.Str.Parse.{digits_value}
use Rattle.emerge_words.specs.Numbers.{is_numeral}
use Rattle.emerge_words.proofs.Numerals.{numeral_read}
use Rattle.emerge_words.proofs.numbers.numeral.Goals as goal

pub returns : goal.returns
returns c =
    let text = c.args.text.now in
    let is : is_numeral text ≡ true = search rules in
    c.ok.ensures.value ∙ ap result_ok (numeral_read text c.parse.result is c.parse.ensures.value.0)
    ∙ ap (λ b. if b then Some (digits_value 10 text) else None) (sym is)

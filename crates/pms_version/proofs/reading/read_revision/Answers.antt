use Rattle.std.proofs.Common.{◌∙◌, ◌≡◌, IfOk, sym, subst}
use Rattle.pms_version.proofs.Steps.{revision_read, short_behind}
use Rattle.pms_version.proofs.reading.read_revision.Goals as goal

pub split_digits-requires : goal.split_digits-requires
split_digits-requires c = short_behind 2 c.args.bytes.now c.skip.result.now c.skip.ensures c.requires

pub returns : goal.returns
returns c r h e =
    let same : c.split_digits.result.0.now ≡ r =
    revision_read c.args.bytes.now c.split_digits.result.0.now c.split_digits.result.1.now r c.split_digits.ensures.digits (sym c.skip.ensures ∙ c.split_digits.ensures.whole) c.split_digits.ensures.ends h e in
    subst (λ x. IfOk c.new.result (λ n. n ≡ x)) same c.new.ensures

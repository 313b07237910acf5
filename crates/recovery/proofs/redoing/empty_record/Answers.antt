use Rattle.std.proofs.Common.{◌∙◌, ap, Err}
use Rattle.merge_record.specs.declared.fault.DecodeFault.{DecodeFault}
use Rattle.recovery.proofs.Steps.{empty_passes}
use Rattle.recovery.proofs.redoing.empty_record.Goals as goal

pub unreachable-requires : goal.unreachable-requires
unreachable-requires c = empty_passes c.args.group c.new.result.items c.new-2.result.items c.new.ensures.items c.new-2.ensures.items (c.encode.ensures.limit (c.in-Err-Limit.is ∙ ap (λ (e : DecodeFault). Err e) c.in-Err-Limit.field-0-is))

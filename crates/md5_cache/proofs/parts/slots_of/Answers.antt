use Rattle.std.proofs.Common.{◌∙◌}
use Rattle.pms_slot.specs.Reading.{SaysNone}
use Rattle.md5_cache.proofs.EntryLemmas.{slots_are_said}
use Rattle.md5_cache.proofs.parts.slots_of.Goals as goal

pub unreachable-requires : goal.unreachable-requires
unreachable-requires c =
    let none : SaysNone c.as_bytes.result.now = rw c.in-None.is at c.in_ok-slots.ensures in
    slots_are_said c.args.pairs.now c.as_bytes.result.now c.requires (c.as_bytes.ensures.value ∙ c.value_of.ensures) none

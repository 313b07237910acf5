use Rattle.md5_cache.proofs.FieldLemmas.{slot_told}
use Rattle.md5_cache.proofs.form.is_slot.Goals as goal

pub returns-in-Ok : goal.returns-in-Ok
returns-in-Ok c = slot_told c.in-Ok.found c.as_bytes.result.now c.args.value.now c.is_some.result c.in-Ok.ensures c.as_bytes.ensures.value c.is_some.ensures

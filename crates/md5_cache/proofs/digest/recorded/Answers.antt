use Rattle.std.proofs.Common.{◌∙◌}
use Rattle.md5_cache.proofs.EntryLemmas.{digest_is_said}
use Rattle.md5_cache.proofs.digest.recorded.Goals as goal

pub unreachable-requires : goal.unreachable-requires
unreachable-requires c = digest_is_said c.args.pairs.now c.as_bytes.result.now c.requires (c.as_bytes.ensures.value ∙ c.value_of.ensures) c.in-None.ensures

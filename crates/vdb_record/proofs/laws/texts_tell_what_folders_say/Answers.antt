use Rattle.std.proofs.Common.{refl}
use Rattle.vdb_record.proofs.laws.texts_tell_what_folders_say.Goals as goal

pub returns : goal.returns
returns c = λ f p. (λ t. record { there = t.there; reads = t.reads }, λ s. record { of = refl; there = s.there; reads = s.reads })

use Rattle.std.proofs.Common.{◌∙◌}
use Rattle.std.proofs.lemmas.List.{append-nil}
use Rattle.merge_record.specs.Spelling.{number_text}
use Rattle.merge_record.proofs.Written.{appended}
use Rattle.merge_record.proofs.writing.put_u32.Goals as goal

pub returns : goal.returns
unfolding number_text
returns c = appended c.extend_from_slice.result c.args.out.now.items _ _ _ c.extend_from_slice.ensures.items (c.write_u32.ensures ∙ append-nil _)

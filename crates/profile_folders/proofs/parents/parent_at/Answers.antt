use Rattle.std.proofs.Common.{subst}
use Rattle.std.specs.Str.{IsTrimAscii}
use Rattle.profile_folders.proofs.Followed.{leads_nowhere, none_of}
use Rattle.profile_folders.proofs.parents.parent_at.Goals as goal

pub returns-in_default : goal.returns-in_default
returns-in_default c = leads_nowhere c.args.folder.now c.args.line.now c.trim_ascii-text.result.now (subst (λ t. IsTrimAscii t c.trim_ascii-text.result.now) c.as_str.ensures c.trim_ascii-text.ensures.value) (none_of c.in_ok-target.field-0 _ _ c.in_default.is c.in_ok-target.ensures)

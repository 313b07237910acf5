use Rattle.merge_group.proofs.Caused.{end_told}
use Rattle.merge_group.proofs.clearing.clear.Goals as goal

pub returns-in-Ok-clause-cleared : goal.returns-in-Ok-clause-cleared
returns-in-Ok-clause-cleared g c t healthy fed m shut = c.in-Ok.ensures.cleared t m shut

pub returns-in-Ok-clause-told : goal.returns-in-Ok-clause-told
returns-in-Ok-clause-told g c = end_told c.args.end

use Rattle.visible_verdicts.proofs.OneVerdict.{no_reason, one_reason}
use Rattle.visible_verdicts.proofs.law.one_verdict.Goals as goal

pub returns-clause-visible : goal.returns-clause-visible
returns-clause-visible c rules id bytes ebuild e reason visible is = no_reason rules id bytes ebuild c.one_slot_value.ensures.one e reason visible is

pub returns-clause-reason : goal.returns-clause-reason
returns-clause-reason c rules id bytes ebuild a b f g = one_reason rules id bytes ebuild c.one_slot_value.ensures.one a b f g

use Rattle.std.proofs.Common.{length}
use Rattle.merge_groups.proofs.Drafted.{fine_form}
use Rattle.merge_groups.proofs.laws.fine_plans_are_partings.Goals as goal

pub returns : goal.returns
returns c = λ start cs es texts is. (
  is.numbered.numbering.components,
  (fine_form cs es is.numbers is.count (length cs) is.plan c.waits_fall.ensures is.numbered.numbering is.numbered.few is.fine).earlier,
)

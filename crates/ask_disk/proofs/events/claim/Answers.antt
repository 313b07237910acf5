use Rattle.std.proofs.Common.{◌∙◌, sym}
use Rattle.merge_core.specs.Event.{Claim}
use Rattle.ask_disk.proofs.Within.{on_ok, three_on}
use Rattle.ask_disk.proofs.events.claim.Goals as goal

pub returns : goal.returns
returns c = record {
  three = λ is. three_on c.args.site.now c.claim-answer.new.self (Claim c.args.group) c.requires.three tt (on_ok c.claim-answer.result _ c.claim-answer.ensures.event (sym c.is_ok-came.ensures.value ∙ is));
}

use Rattle.std.proofs.Common.{◌∙◌, sym}
use Rattle.merge_core.specs.Event.{PutStage}
use Rattle.ask_disk.proofs.Within.{on_ok, three_on}
use Rattle.ask_disk.proofs.events.stage.Goals as goal

pub returns : goal.returns
returns c = record {
  three = λ is. three_on c.args.site.now c.stage.new.self (PutStage c.args.group _ _) c.requires.three c.requires.at.phase (on_ok c.stage.result _ c.stage.ensures.ok (sym c.is_ok.ensures.value ∙ is));
}

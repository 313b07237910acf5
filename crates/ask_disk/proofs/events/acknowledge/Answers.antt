use Rattle.std.proofs.Common.{◌∙◌, sym}
use Rattle.std.specs.Prelude.{is_ok}
use Rattle.merge_core.specs.Event.{Acknowledge}
use Rattle.ask_disk.proofs.Within.{three_if}
use Rattle.ask_disk.proofs.events.acknowledge.Goals as goal

pub returns : goal.returns
returns c = record {
  three = λ is. three_if c.args.site.now c.acknowledge.new.self (Acknowledge c.args.group) (is_ok c.acknowledge.result) c.requires.three tt c.acknowledge.ensures.event (sym c.is_ok.ensures.value ∙ is);
}

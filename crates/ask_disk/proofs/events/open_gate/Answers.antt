use Rattle.std.proofs.Common.{◌∙◌, sym}
use Rattle.std.specs.Prelude.{is_ok}
use Rattle.merge_core.specs.Event.{OpenGate}
use Rattle.ask_disk.proofs.Within.{three_if}
use Rattle.ask_disk.proofs.events.open_gate.Goals as goal

pub returns : goal.returns
returns c = record {
  three = λ is. three_if c.args.site.now c.open_gate.new.self (OpenGate c.args.group) (is_ok c.open_gate.result) c.requires.three tt c.open_gate.ensures.event (sym c.is_ok.ensures.value ∙ is);
}

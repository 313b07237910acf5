use Rattle.std.proofs.Common.{◌∙◌, sym}
use Rattle.std.specs.Prelude.{is_ok}
use Rattle.merge_core.specs.Event.{SyncClosed}
use Rattle.ask_disk.proofs.Within.{three_if}
use Rattle.ask_disk.proofs.events.sync_closed.Goals as goal

pub returns : goal.returns
returns c = record {
  three = λ is. three_if c.args.site.now c.sync_closed.new.self (SyncClosed c.args.group) (is_ok c.sync_closed.result) c.requires.three tt c.sync_closed.ensures.event (sym c.is_ok.ensures.value ∙ is);
}

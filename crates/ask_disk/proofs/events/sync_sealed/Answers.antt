use Rattle.std.proofs.Common.{◌∙◌, sym}
use Rattle.std.specs.Prelude.{is_ok}
use Rattle.merge_core.specs.Event.{SyncSealed}
use Rattle.ask_disk.proofs.Within.{three_if}
use Rattle.ask_disk.proofs.events.sync_sealed.Goals as goal

pub returns : goal.returns
returns c = record {
  three = λ is. three_if c.args.site.now c.sync_sealed.new.self (SyncSealed c.args.group) (is_ok c.sync_sealed.result) c.requires.three tt c.sync_sealed.ensures.event (sym c.is_ok.ensures.value ∙ is);
}

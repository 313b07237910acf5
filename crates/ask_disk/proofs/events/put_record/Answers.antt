use Rattle.std.proofs.Common.{◌∙◌, sym}
use Rattle.merge_core.specs.Event.{PutRecord}
use Rattle.ask_disk.proofs.Within.{on_ok, three_on}
use Rattle.ask_disk.proofs.events.put_record.Goals as goal

pub returns : goal.returns
returns c = record {
  three = λ is. three_on c.args.site.now c.put_record.new.self (PutRecord c.args.group _) c.requires.three tt (on_ok c.put_record.result _ c.put_record.ensures.ok (sym c.is_ok.ensures.value ∙ is));
}

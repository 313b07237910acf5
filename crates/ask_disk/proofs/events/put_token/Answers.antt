use Rattle.std.proofs.Common.{◌∙◌, sym}
use Rattle.std.specs.Prelude.{is_ok}
use Rattle.merge_core.specs.Event.{PutToken}
use Rattle.ask_disk.proofs.Within.{no_error, three_if}
use Rattle.ask_disk.proofs.events.put_token.Goals as goal

pub returns : goal.returns
returns c = record {
  three = λ is. three_if c.args.site.now c.put_token.new.self (PutToken c.args.group) (is_ok c.put_token.result) c.requires.three tt (c.put_token.ensures.event (no_error c.put_token.result _ (sym c.is_ok.ensures.value ∙ is))) (sym c.is_ok.ensures.value ∙ is);
}

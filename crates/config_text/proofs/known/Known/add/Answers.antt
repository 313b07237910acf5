use Rattle.std.proofs.Common.{◌∙◌, Some}
use Rattle.config_text.proofs.KnownValues.{changed, knows_more}
use Rattle.config_text.proofs.known.Known.add.Goals as goal

pub returns : goal.returns
returns c =
    knows_more c.args.self.now.values c.insert.new.self c.in_ok-key.key.items c.in_ok-value.value c.args.assignment.now (c.in_ok-key.ensures.items ∙ (c.as_bytes.ensures.value ∙ c.as_str.ensures)) c.in_ok-value.ensures
    (changed c.in_ok-key.key.items (Some c.in_ok-value.value) c.args.self.now.values c.insert.new.self c.in_ok-insert.ensures.updates.1 c.in_ok-insert.ensures.updates.3)

use Rattle.std.proofs.Common.{Some}
use Rattle.std.proofs.lemmas.Map.Text.{btree_map_updates_str}
use Rattle.visible_rules.proofs.Putting.{put_text}
use Rattle.visible_rules.proofs.keywords.put.Goals as goal

pub returns : goal.returns
returns c q = put_text c.args.text.now c.args.set.now c.insert.new.self q (btree_map_updates_str c.args.text.now c.args.set.now c.insert.new.self (Some tt) c.in_ok-insert.ensures.updates q)

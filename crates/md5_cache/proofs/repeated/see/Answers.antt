use Rattle.std.proofs.Common.{Some}
use Rattle.std.proofs.lemmas.Map.Text.{btree_map_updates_str}
use Rattle.md5_cache.proofs.Keys.{seen_more}
use Rattle.md5_cache.proofs.repeated.see.Goals as goal

pub returns : goal.returns
returns c = λ keys h. seen_more c.args.seen.now c.insert.new.self c.args.key.now tt (btree_map_updates_str c.args.key.now c.args.seen.now c.insert.new.self (Some tt) c.in_ok-insert.ensures.updates) keys h

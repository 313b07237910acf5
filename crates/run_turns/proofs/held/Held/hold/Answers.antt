use Rattle.std.proofs.Common.{◌∙◌, Some, ap, bytes_eq}
use Rattle.std.specs.Prelude.{string_bytes}
use Rattle.std.specs.BTreeMap.{get_by_text}
use Rattle.std.proofs.lemmas.Map.Text.{btree_map_updates_text}
use Rattle.run_turns.specs.Held.{paths_or_none}
use Rattle.run_turns.proofs.Remembered.{held_cond}
use Rattle.run_turns.proofs.held.Held.hold.Goals as goal

pub returns : goal.returns
returns c q =
    let old = c.args.self.now.paths in
    let bytes = string_bytes c.args.folder in
    ap paths_or_none (btree_map_updates_text bytes old c.insert.new.self (Some c.args.paths) c.in_ok-_before.ensures.updates q)
    ∙ held_cond (bytes_eq bytes q) c.args.paths (get_by_text old q)

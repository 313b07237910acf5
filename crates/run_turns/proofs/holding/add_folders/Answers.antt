use Rattle.std.proofs.Common.{◌∙◌, ap, arith, true}
use Rattle.std.specs.BTreeSet.{contains_text}
use Rattle.std.specs.Prelude.{string_bytes}
use Rattle.std.proofs.lemmas.Map.Text.{btree_set_updates_text}
use Rattle.dep_atom.specs.Ids.{id_text}
use Rattle.plan_law.specs.Plans.{Removal}
use Rattle.run_turns.proofs.Remembered.{folder_more}
use Rattle.run_turns.proofs.holding.add_folders.Goals as goal

pub loop-removal-preserved : goal.loop-removal-preserved
loop-removal-preserved c =
    let bytes = string_bytes c.in_ok-print.field-0 in
    folder_more c.args.removals.now c.loop-removal.removal-index c.removal-item.result bytes (contains_text c.args.named.now) (contains_text c.loop-removal.named) (contains_text c.insert.new.self)
    (omega arith) c.removal-item.is (c.in_ok-print.ensures ∙ ap (λ (r : Removal). id_text r.id) c.removal.view_is) c.loop-removal.invariant
    (btree_set_updates_text bytes c.loop-removal.named c.insert.new.self true c.in_ok-insert.ensures.updates)

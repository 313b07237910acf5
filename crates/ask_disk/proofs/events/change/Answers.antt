use Rattle.std.proofs.Common.{◌<◌, ◌∙◌, arith, length, sym}
use Rattle.std.specs.Prelude.{is_ok}
use Rattle.merge_core.specs.Core.{standing_in}
use Rattle.merge_core.specs.Event.{PlacePath, RemovePath, SyncPlaced}
use Rattle.ask_disk.proofs.Within.{three_if}
use Rattle.ask_disk.proofs.events.change.Goals as goal

pub returns-then-placements-gt0 : goal.returns-then-placements-gt0
returns-then-placements-gt0 c =
    let due : (standing_in c.args.site.now.keeping.standings c.args.group).placed < length (standing_in c.args.site.now.keeping.standings c.args.group).placements = omega (arith, c.left-placements.ensures.placements, c.if-placements-gt0.true) in
    record {
      three = λ is. three_if c.args.site.now c.place.new.self (PlacePath c.args.group) (is_ok c.place.result) c.requires.three due c.place.ensures.event (sym c.is_ok.ensures.value ∙ is);
    }

pub returns-then-removals-gt0 : goal.returns-then-removals-gt0
returns-then-removals-gt0 c =
    let due : (standing_in c.args.site.now.keeping.standings c.args.group).removed < length (standing_in c.args.site.now.keeping.standings c.args.group).removals = omega (arith, c.left-placements.ensures.removals, c.if-removals-gt0.true) in
    record {
      three = λ is. three_if c.args.site.now c.remove_path.new.self (RemovePath c.args.group) (is_ok c.remove_path.result) c.requires.three due c.remove_path.ensures.event (sym c.is_ok-then-removals-gt0.ensures.value ∙ is);
    }

pub returns-else-removals-gt0 : goal.returns-else-removals-gt0
returns-else-removals-gt0 c = record {
  three = λ is. three_if c.args.site.now c.sync_placed.new.self (SyncPlaced c.args.group) (is_ok c.sync_placed.result) c.requires.three tt c.sync_placed.ensures.event (sym c.is_ok-else-removals-gt0.ensures.value ∙ is);
}

use Rattle.merge_core.specs.Event.{Begin}
use Rattle.ask_disk.proofs.Within.{three_on}
use Rattle.ask_disk.proofs.events.begin.Goals as goal

pub returns : goal.returns
returns c = record {
  three = λ is. three_on c.args.site.now c.begin.new.self (Begin c.args.group) c.requires.three tt c.begin.ensures.event;
}

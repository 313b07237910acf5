use Rattle.use_flags.specs.Changes.{IsChange}
use Rattle.use_flags.specs.Items.{IsItem}
use Rattle.use_flags.proofs.Once.{no_fault, one_fault}
use Rattle.use_flags.proofs.laws.one_fault.Goals as goal

pub returns : goal.returns
returns c =
    record {
      items = one_fault IsItem;
      no_item = λ text all a f. no_fault IsItem text a all f;
      changes = one_fault IsChange;
      no_change = λ text all a f. no_fault IsChange text a all f;
    }

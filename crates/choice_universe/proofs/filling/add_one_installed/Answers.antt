use Rattle.std.proofs.Common.{Some, ap}
use Rattle.choice_universe.proofs.Filled.{changes, put_installed}
use Rattle.choice_universe.proofs.filling.add_one_installed.Goals as goal

pub returns : goal.returns
returns c = λ before filled free.
    put_installed before c.args.one.now c.in_ok-line.line c.args.offers.now.entries c.insert.new.self.entries _ c.in_ok-line.ensures free
    (ap Some c.in_ok-copy.ensures) c.new.ensures.items
    (changes c.in_ok-line.line c.args.offers.now.entries c.insert.new.self.entries _ c.in_ok-insert.ensures.updates.0)
    c.in_ok-insert.ensures.ordered filled

use Rattle.std.proofs.Common.{rules}
use Rattle.site_hall.proofs.Opening.{opens}
use Rattle.site_hall.proofs.hall.Hall.open.Goals as goal

pub new-requires : goal.new-requires
new-requires g c =
    let small = c.ranges.parts in
    opens g.X.Logged.log g.X.Logged.same _ c.args.value _ (search rules) (search rules) c.requires.empty (rw c.of.ensures c.requires.same)

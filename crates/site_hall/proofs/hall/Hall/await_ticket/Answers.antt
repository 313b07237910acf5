use Rattle.std.proofs.Common.{rules}
use Rattle.site_hall.proofs.Looking.{looks_allow}
use Rattle.site_hall.proofs.hall.Hall.await_ticket.Goals as goal

pub load-serving-requires : goal.load-serving-requires
load-serving-requires g c = (
  search rules,
  search rules,
  rw c.loop.invariant.me (looks_allow g.X.Logged.log g.X.Logged.same _ _ _ c.args.pass.now.seat.me c.requires.waits.0 c.requires.waits.2 c.requires.waits.3),
)

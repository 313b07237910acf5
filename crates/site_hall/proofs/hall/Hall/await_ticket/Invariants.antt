use Rattle.std.proofs.Common.{◌≡◌}
use Rattle.site_hall.proofs.hall.Hall.await_ticket.Given as goal

abbrev pub invariant-loop : goal.invariant-loop
invariant-loop g l = record {
  table : l.pass.seat.table_id ≡ l.fn.pass.seat.table_id;
  me : l.pass.seat.me ≡ l.fn.pass.seat.me;
}

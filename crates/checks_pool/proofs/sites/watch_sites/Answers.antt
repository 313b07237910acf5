use denote.Param.{param}
use denote.Param.Send.{sendable}
use Rattle.merge_site.proofs.Crossing.{site_send}
use Rattle.checks_pool.proofs.sites.watch_sites.Goals as goal

pub for_each_mut-requires-send-T : goal.for_each_mut-requires-send-T
for_each_mut-requires-send-T g c κs within =
    let site = site_send (param 0 g.row.T) (param 1 g.row.S) g.T.Tree g.S.Sink c.type_bounds.send-T c.type_bounds.send-S in
    search sendable depth 20

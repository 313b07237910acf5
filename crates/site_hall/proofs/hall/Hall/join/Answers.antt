use Rattle.std.proofs.Common.{rules}
use Rattle.site_hall.proofs.Joining.{joins_keep}
use Rattle.site_hall.proofs.hall.Hall.join.Goals as goal

pub join_seat-requires : goal.join_seat-requires
join_seat-requires g c = (
  c.requires.own.0.0,
  c.requires.own.1.0,
  c.requires.rests.1.1,
  search rules,
  joins_keep _ _ _ _ _ _ _ c.requires.rests.0.0 c.requires.rests.1.0 c.requires.rests.0.2,
)

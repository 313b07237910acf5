use Rattle.std.proofs.Common.{rules}
use Rattle.site_hall.proofs.Splitting.{splits_keep}
use Rattle.site_hall.proofs.hall.Hall.split.Goals as goal

pub split_seat-seat-requires : goal.split_seat-seat-requires
split_seat-seat-requires g c = (c.requires.own.0, search rules, splits_keep _ _ _ _ _ c.requires.parts)

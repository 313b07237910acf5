use Rattle.std.proofs.Common.{◌∙◌, ap}
use mathlib.Core.Option.{some}
use Rattle.site_hall.proofs.Closing.{leaves_some, leaves_this}
use Rattle.site_hall.proofs.hall.Hall.close.Goals as goal

pub unreachable-requires : goal.unreachable-requires
unreachable-requires g c =
    let left = leaves_some g.X.Logged.log g.X.Logged.same c.args.self.table.shared.key _ _ c.requires.rests.0 c.requires.rests.2 c.requires.all _ _ c.close_with-closed.ensures.values.2 _ c.take-found.ensures.value in
    c.in_default.not-Some left.0 left.1

pub returns : goal.returns
returns g c =
    let left = leaves_this g.X.Logged.log g.X.Logged.same c.args.self.table.shared.key _ _ c.requires.rests.0 c.requires.rests.2 c.requires.all _ _ c.close_with-closed.ensures.values.2 c.in-Some.value (c.take-found.ensures.value ∙ ap some c.in-Some.is) in
    record { same = left.same; goes_on = left.goes_on; others = left.others; calm = left.calm }

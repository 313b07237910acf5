use Rattle.std.proofs.Common.{rules, [], ◌∷◌, Some, refl}
use Rattle.site_hall.proofs.Passing.{passing_allows, put_in}
use Rattle.site_hall.proofs.hall.Hall.leave.Goals as goal

pub fetch_add-requires : goal.fetch_add-requires
fetch_add-requires g c =
    let old = c.args.pass.now.seat.me in
    let mine = put_in c.exchange-gone.new.seat.me old c.args.turn.value c.exchange-gone.ensures.3 c.requires.turn.1 in (
      search rules,
      search rules,
      rw mine (passing_allows g.X.Logged.log g.X.Logged.same _ _ _ (old.0, (0, Some c.args.turn.value) ∷ []) c.args.turn.value c.requires.turn.0 refl c.requires.same c.requires.step c.requires.calm),
    )

use Rattle.std.proofs.Common.{rules, ◌∙◌, [], ◌∷◌, ap, sym, List, ℕ, Option, Some}
use Rattle.atomic_table.specs.Table.{rest}
use Rattle.site_hall.proofs.Lists.{first_held}
use Rattle.site_hall.proofs.Looking.{goes_on_before}
use Rattle.site_hall.proofs.Tickets.{tickets_allow}
use Rattle.site_hall.proofs.hall.Hall.enter.Goals as goal

pub fetch_add-mine-requires : goal.fetch_add-mine-requires
fetch_add-mine-requires g c = (
  c.requires.own.0,
  search rules,
  tickets_allow g.X.Logged.log g.X.Logged.same _ _ _ _ c.requires.rests.0 c.requires.rests.2,
)

pub exchange-found-requires : goal.exchange-found-requires
exchange-found-requires g c =
    let turn = c.await_ticket.ensures.turn in (
      search rules,
      (Some turn.0, turn.1.0 ∙ ap (λ (taken : List (ℕ × Option g.row.X.Denot)). (0, Some turn.0) ∷ taken) (sym (ap rest turn.1.0))),
    )

pub returns-clause-goes_on : goal.returns-clause-goes_on
returns-clause-goes_on g c =
    let turn = c.await_ticket.ensures.turn in
    let took = c.fetch_add-mine.ensures.2 in
    let found = rw c.in-Some.is at c.exchange-found.ensures.2 in
    let same = first_held turn.0 c.in-Some.value [] _ (sym turn.1.0 ∙ found) in
    goes_on_before _ c.fetch_add-mine.new.seat.me.0 took.0 _ _ (ap (λ m. m.0) took.1) (ap g.X.Logged.log same) turn.1.3

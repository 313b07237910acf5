use Rattle.std.proofs.Common.{[], ap, arith, subst, sym}
use Rattle.owner_book.specs.Book.{Book}
use Rattle.merge_site.specs.Booking.{IsBooked, lists_of}
use Rattle.merge_site.specs.Site.{IsSiteInOrder}
use Rattle.merge_site.proofs.Booked.{opened_booked}
use Rattle.merge_site.proofs.Opened.{opened_kept}
use Rattle.merge_site.proofs.site.Site.open.Goals as goal

pub invariant_of-result : goal.invariant_of-result
invariant_of-result g c =
    let parts = c.in-Ok.parts in
    let start = g.T.Tree.story c.of-opened.result.value in
    let now = g.T.Tree.story c.args.tree in
    let none = sym c.new-log.ensures in (
      subst (λ l. IsSiteInOrder g.T.Tree.tells parts.core l c.args.groups.items parts.jobs.items start now parts.mark) none
          (opened_kept g.T.Tree.tells parts.core _ c.args.groups.items parts.jobs.items start now parts.mark c.in-Ok.ensures.rest c.in-Ok.ensures.machine c.in-Ok.ensures.jobs
          (omega (arith, c.len.ensures, c.requires.small)) c.in-Ok.ensures.mark (ap g.T.Tree.story c.of-opened.ensures) c.requires.rest),
      subst (λ l. IsBooked parts.core l (lists_of parts.wishes.items) c.of-opened_book.result.value c.args.book) none
          (subst (λ (b : Book). IsBooked parts.core [] (lists_of parts.wishes.items) b c.args.book) (sym c.of-opened_book.ensures)
          (opened_booked parts.core _ (lists_of parts.wishes.items) c.args.book c.in-Ok.ensures.rest c.in-Ok.ensures.wishes c.requires.unclaimed)),
    )

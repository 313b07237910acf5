use Rattle.std.proofs.Common.{subst, sym}
use Rattle.run_opening.specs.Rows.{AreRows}
use Rattle.run_opening.proofs.Owned.{Rows, owners_of}
use Rattle.run_opening.proofs.owners.book_of.Goals as goal

pub returns-clause-owners : goal.returns-clause-owners
returns-clause-owners g c t db tidy =
    let m = (g.T.Tree.story c.args.tree.now).now.holds in
    let ps = c.args.packages.now in
    let rows : Rows = c.deref.result.now in
    let are : AreRows m 0 ps rows = subst (λ (l : Rows). AreRows m 0 ps l) (sym c.deref.ensures.value) (c.in_ok-rows.ensures.rows t) in
    owners_of m ps db tidy rows c.in_ok-from_records.field-0 are c.in_ok-from_records.ensures.owners c.in_ok-from_records.ensures.claims

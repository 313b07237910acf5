use Rattle.std.proofs.Common.{Bool, arith, refl, subst}
use Rattle.merge_record.specs.declared.record.OwnerKey.{OwnerKey}
use Rattle.owner_book.specs.Going.{is_among}
use Rattle.owner_book.specs.Removing.{IsFirstKept}
use Rattle.owner_book.proofs.Removed.{first_kept_at, removable_more}
use Rattle.owner_book.proofs.book.OwnerBook.first_kept.Goals as goal

pub returns-then-not-may_remove : goal.returns-then-not-may_remove
returns-then-not-may_remove c =
    subst (λ (d : OwnerKey → Bool). IsFirstKept c.args.self.now d c.args.paths.now c.in_ok-try_clone.field-0) c.in_ok-going.ensures
    (first_kept_at c.args.self.now (is_among c.in_ok-going.going) c.args.paths.now c.loop-path.path-index c.path-item.result c.in_ok-try_clone.field-0 (omega arith) c.path-item.is c.in_ok-try_clone.ensures
    c.loop-path.invariant (c.if-not-may_remove.ensures.not refl))

pub loop-path-preserved : goal.loop-path-preserved
loop-path-preserved c =
    removable_more c.args.self.now (is_among c.in_ok-going.going) c.args.paths.now c.loop-path.path-index c.path-item.result (omega arith) c.path-item.is (c.if-not-may_remove.ensures.may refl) c.loop-path.invariant

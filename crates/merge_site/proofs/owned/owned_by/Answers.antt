use Rattle.std.proofs.Common.{arith, refl}
use Rattle.merge_site.proofs.Gone.{gone_list, gone_more}
use Rattle.merge_site.proofs.owned.owned_by.Goals as goal

pub loop-owner-preserved : goal.loop-owner-preserved
loop-owner-preserved c =
    let ks = c.args.owners.now in
    let i = c.loop-owner.owner-index in (
      gone_list c.args.book.now ks i _ _ (omega (arith, c.loop-owner-test.true)) refl c.loop-owner.paths.items c.append.new.self.items c.in_ok-owned.owned.items c.in_ok-append.ensures.items c.in_ok-owned.ensures.paths c.loop-owner.invariant.0,
      λ q. gone_more c.args.book.now ks i _ _ (omega (arith, c.loop-owner-test.true)) refl c.loop-owner.paths.items c.append.new.self.items c.in_ok-owned.owned.items c.in_ok-append.ensures.items q (c.in_ok-owned.ensures.owned q) (c.loop-owner.invariant.1 q),
    )

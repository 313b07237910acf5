use Rattle.std.proofs.Common.{◌≡◌, map, true, false, sym, arith}
use Rattle.std.proofs.lemmas.List.{length-map}
use Rattle.merge_journal.specs.Judging.{is_free}
use Rattle.merge_journal.proofs.Free.{on_true, walk_step, walk_stop, walk_end}
use Rattle.owner_book.specs.Book.{path_of}
use Rattle.merge_site.proofs.Judged.{path_at}
use Rattle.merge_site.proofs.judging.take_wishes.Goals as goal

pub returns-then-not-branch : goal.returns-then-not-branch
returns-then-not-branch c =
    let free : is_free c.loop-wish.taken c.wish-item.result.path ≡ false = cc (c.in_ok-take_free.ensures.free, c.if-not-branch.true) in
    sym (walk_stop c.args.taken.now c.loop-wish.taken (map path_of c.args.wishes.now) c.loop-wish.wish-index c.wish-item.result.path (omega (arith, length-map c.args.wishes.now path_of, c.loop-wish-test.true))
    (path_at c.args.wishes.now c.loop-wish.wish-index c.wish-item.result c.loop-wish-test.true c.wish-item.is) free c.loop-wish.invariant)

pub loop-wish-preserved : goal.loop-wish-preserved
loop-wish-preserved c =
    let free : is_free c.loop-wish.taken c.wish-item.result.path ≡ true = cc (c.in_ok-take_free.ensures.free, c.if-not-branch.false) in
    let ok : c.in_ok-take_free.field-0 ≡ true = cc (c.if-not-branch.false) in
    walk_step c.args.taken.now c.loop-wish.taken c.take_free.new.taken (map path_of c.args.wishes.now) c.loop-wish.wish-index c.wish-item.result.path (omega (arith, length-map c.args.wishes.now path_of, c.loop-wish-test.true))
    (path_at c.args.wishes.now c.loop-wish.wish-index c.wish-item.result c.loop-wish-test.true c.wish-item.is) free (on_true c.in_ok-take_free.field-0 _ ok c.in_ok-take_free.ensures.taken) c.loop-wish.invariant

pub returns : goal.returns
returns c = sym (walk_end c.args.taken.now c.loop-wish.taken (map path_of c.args.wishes.now) c.loop-wish.wish-index (omega (arith, length-map c.args.wishes.now path_of, c.loop-wish-test.false)) c.loop-wish.invariant).0

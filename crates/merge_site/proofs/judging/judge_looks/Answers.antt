use Rattle.std.proofs.Common.{Bool, List, ℕ, Option, MatchOption, ap, subst}
use Rattle.file_tree.specs.Disk.{Map, Story}
use Rattle.merge_fit.specs.Images.{IsClear, IsFirstBlock}
use Rattle.merge_fit.proofs.Ways.{first_at}
use Rattle.owner_book.specs.Book.{owner_in}
use Rattle.merge_site.specs.Claiming.{IsClearFor, may_hold}
use Rattle.merge_site.proofs.judging.judge_looks.Goals as goal

abbrev IsLook : Map → List ℕ → Bool → Option (List ℕ) → Type 0
IsLook m path held r = MatchOption r (IsClear m held path) (IsFirstBlock m held path)

pub returns-in-Ok-Some-clause-met : goal.returns-in-Ok-Some-clause-met
returns-in-Ok-Some-clause-met g c t =
    let m = (g.T.Tree.story c.args.tree.now).now.holds in
    let own = owner_in c.args.book.now.owned in
    let path = c.wish-item.result.path in
    let same = ap (λ (s : Story). s.now.holds) (c.loop-wish.invariant.0 t) in
    let found = subst (IsLook (g.T.Tree.story c.loop-wish.tree).now.holds path c.may_hold.result) c.in-Ok-Some.field-0-is (c.in-Ok-Some.ensures.block t) in
    let seen = subst (λ (n : Map). IsFirstBlock n c.may_hold.result path c.in-Ok-Some.path) same found in
    first_at (IsClearFor m own) (λ w. IsFirstBlock m (may_hold own w) w.path c.in-Ok-Some.path) c.args.wishes.now c.loop-wish.wish-index c.wish-item.result c.loop-wish-test.true c.wish-item.is (c.loop-wish.invariant.1 t)
    (subst (λ (b : Bool). IsFirstBlock m b path c.in-Ok-Some.path) c.may_hold.ensures seen)

use Rattle.std.proofs.Common.{◌≡◌, ◌∙◌, ap, arith, length, subst, sym}
use Rattle.file_tree.specs.Disk.{Looks, Map, Story}
use Rattle.merge_fit.proofs.Blocked.{clear_if}
use Rattle.merge_fit.proofs.blocks.block_of.Goals as goal

pub returns-then-is_passed-clause-block : goal.returns-then-is_passed-clause-block
returns-then-is_passed-clause-block g c t =
    let m = (g.T.Tree.story c.args.tree.now).now.holds in
    let path = c.args.path.now in
    let same = ap (λ (s : Story). s.now.holds) (c.loop-at.invariant.0 t) in
    let looks = subst (λ (n : Map). Looks n path c.in_ok-look.look) same (c.in_ok-look.ensures.answer t) in
    let ends : length c.text-at-end.result.now ≡ length path = ap length c.text-at-end.ensures.text in
    clear_if m c.args.held path c.in_ok-look.look (λ k lt. c.loop-at.invariant.1 t k (omega (arith, lt, ends))) looks (sym c.is_passed.ensures ∙ c.if-is_passed.true)

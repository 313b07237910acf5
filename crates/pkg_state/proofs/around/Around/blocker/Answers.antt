use Rattle.std.proofs.Common.{◌≡◌, ◌∙◌, true, arith, sym, ap}
use Rattle.std.specs.Option.{option_map}
use Rattle.pkg_state.specs.Blocks.{block_value}
use Rattle.pkg_state.specs.Index.{keeps_out}
use Rattle.pkg_state.specs.Package.{Package}
use Rattle.pkg_state.specs.declared.block.Block.{Block}
use Rattle.pkg_state.proofs.Lists.{find_at, none_at_all, not_found}
use Rattle.pkg_state.proofs.Named.{blocker_under}
use Rattle.pkg_state.proofs.around.Around.blocker.Goals as goal

pub returns-then-keeps_out : goal.returns-then-keeps_out
returns-then-keeps_out c =
    let p = c.args.other.now in
    let items = c.get-block-items.result.now in
    let on : keeps_out p (block_value c.block-item.result) ≡ true = sym c.keeps_out.ensures ∙ c.if-keeps_out.true in
    ap (option_map (λ (b : Block). b.owner.now)) (sym (find_at (λ b. keeps_out p (block_value b)) items c.loop-block.block-index c.block-item.result (omega arith) c.block-item.is c.loop-block.invariant on))
    ∙ blocker_under c.args.self.now.packages.now c.args.self.now.blocks.lists p c.text.result.now items c.args.self.now.are_blocks (c.text.ensures.text ∙ ap (λ (q : Package). q.facts.id.name.«package») c.other.view_is) c.get-block-items.ensures

pub returns : goal.returns
returns c =
    let p = c.args.other.now in
    let items = c.get-block-items.result.now in
    ap (option_map (λ (b : Block). b.owner.now)) (sym (not_found (λ b. keeps_out p (block_value b)) items (none_at_all (λ b. keeps_out p (block_value b)) items c.loop-block.block-index (omega arith) c.loop-block.invariant)))
    ∙ blocker_under c.args.self.now.packages.now c.args.self.now.blocks.lists p c.text.result.now items c.args.self.now.are_blocks (c.text.ensures.text ∙ ap (λ (q : Package). q.facts.id.name.«package») c.other.view_is) c.get-block-items.ensures

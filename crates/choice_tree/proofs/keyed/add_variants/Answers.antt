use Rattle.std.proofs.Common.{ℕ, List, arith}
use Rattle.pkg_state.specs.Package.{Package}
use Rattle.choice_tree.specs.Keys.{has_key}
use Rattle.choice_tree.proofs.Under.{come_each}
use Rattle.choice_tree.proofs.keyed.add_variants.Goals as goal

pub loop-owner-preserved : goal.loop-owner-preserved
loop-owner-preserved c =
    come_each c.args.line (λ (text : List ℕ) (p : Package). has_key c.args.key text p) c.args.variants.now c.loop-owner.owner-index c.owner-item.result _ c.args.lists.now c.loop-owner.lists c.add_package.new.lists (omega arith) c.owner-item.is c.loop-owner.invariant c.in_ok-add_package.ensures

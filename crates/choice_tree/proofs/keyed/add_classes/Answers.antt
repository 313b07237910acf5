use Rattle.std.proofs.Common.{ℕ, List, arith, refl}
use Rattle.pkg_state.specs.declared.class.Class.{Class}
use Rattle.choice_tree.specs.Keys.{names_in}
use Rattle.choice_tree.specs.Open.{classes}
use Rattle.choice_tree.proofs.Under.{come_each}
use Rattle.choice_tree.proofs.keyed.add_classes.Goals as goal

pub loop-class-preserved : goal.loop-class-preserved
loop-class-preserved c =
    come_each c.args.line (λ (text : List ℕ) (class : Class). names_in text c.args.owner.now class) classes c.loop-class.class-index _ _ c.args.lists.now c.loop-class.lists c.add_class.new.lists (omega arith) refl c.loop-class.invariant c.in_ok-add_class.ensures

use Rattle.std.proofs.Common.{◌∙◌, length, sym}
use Rattle.std.specs.List.{find}
use Rattle.choice_law.specs.Tree.{conflict}
use Rattle.choice_tree.specs.Open.{is_open_of}
use Rattle.choice_tree.specs.Places.{numbers}
use Rattle.choice_tree.specs.Seen.{places_of}
use Rattle.choice_tree.proofs.Alone.{none_of_numbers}
use Rattle.choice_walk.proofs.Found.{skip}
use Rattle.choice_walk.proofs.taking_up.first_conflict.Goals as goal

pub loop-other-preserved : goal.loop-other-preserved
loop-other-preserved c =
    let ps = c.args.around.now.places.now in
    skip (λ m. is_open_of (places_of ps) (conflict c.args.line m)) (length ps) c.loop-other.other c.loop-other-test.true
    (find (λ m. is_open_of (places_of ps) (conflict c.args.line m)) (numbers (length ps) 0))
    (sym c.has_conflict.ensures ∙ c.if-has_conflict.false) c.loop-other.invariant

pub returns-then-is_calm : goal.returns-then-is_calm
returns-then-is_calm c =
    let ps = c.args.around.now.places.now in
    none_of_numbers (λ m. is_open_of (places_of ps) (conflict c.args.line m)) (length ps) (c.is_calm.ensures c.if-is_calm.true)

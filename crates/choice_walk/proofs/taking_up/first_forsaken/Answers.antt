use Rattle.std.proofs.Common.{◌∙◌, length, sym}
use Rattle.std.specs.List.{find}
use Rattle.choice_law.specs.Tree.{absence}
use Rattle.choice_tree.specs.Open.{is_open_of}
use Rattle.choice_tree.specs.Places.{numbers}
use Rattle.choice_tree.specs.Seen.{places_of}
use Rattle.choice_walk.proofs.Found.{skip}
use Rattle.choice_walk.proofs.taking_up.first_forsaken.Goals as goal

pub loop-line-preserved : goal.loop-line-preserved
loop-line-preserved c =
    let ps = c.args.places.now in
    skip (λ m. is_open_of (places_of ps) (absence m)) (length ps) c.loop-line.line c.loop-line-test.true
    (find (λ m. is_open_of (places_of ps) (absence m)) (numbers (length ps) 0))
    (sym c.in_ok-is_forsaken.ensures ∙ c.if-branch.false) c.loop-line.invariant

use Rattle.std.proofs.Common.{◌≡◌, ◌∙◌, List, ap, arith, map, reverse}
use Rattle.std.proofs.lemmas.List.{take_all}
use Rattle.choice_tree.specs.Views.{decisions_of}
use Rattle.choice_tree.specs.declared.value.Decision.{Decision}
use Rattle.choice_walk.specs.declared.turn.Turn.{Turn}
use Rattle.choice_walk.proofs.Way.{turned_about}
use Rattle.choice_walk.proofs.trail.choice_at.Goals as goal

pub returns : goal.returns
returns c =
    let trail = c.args.trail.now in
    let all : c.loop-turn.decisions.items ≡ map (λ (t : Turn). t.decision) trail =
    c.loop-turn.invariant ∙ ap (λ (ts : List Turn). map (λ (t : Turn). t.decision) ts) (take_all c.loop-turn.turn-index trail (let test = c.loop-turn-test.false in omega (arith, test))) in
    c.of.ensures ∙ (ap (λ (ds : List Decision). decisions_of (reverse ds)) all ∙ turned_about trail)

use Rattle.std.proofs.Common.{◌∙◌, ◌+◌, List, ℕ, refl, subst, sym, take}
use Rattle.merge_graph.specs.Rows.{AreRising}
use Rattle.merge_graph.proofs.Waited.{AreTargets, after_all, targets_more, targets_same}
use Rattle.merge_graph.proofs.waiting.after_one.Goals as goal
use Rattle.merge_graph.proofs.waiting.after_one.Goals.{in-Some+in_ok-add_other-in-Some, in-None}

pub loop-place-preserved : goal.loop-place-preserved
loop-place-preserved c =
    let es = c.args.edges.now in
    let numbers = c.args.numbers.now in
    let places = c.args.places.now in
    let n = c.loop-place.place-index in
    elim c.match-target.branch [
      | in-Some+in_ok-add_other-in-Some w ↦ subst (λ t. AreTargets es numbers (take (n + 1) places) c.args.number t) (sym w.targets-is)
          (targets_more es numbers places n c.args.number _ c.loop-place-test.true refl c.loop-place.targets w.add_other.new.targets w.in-Some.to c.loop-place.invariant (sym w.in-Some.is ∙ c.target.ensures) w.in_ok-add_other-in-Some.ensures)
      | in-None w ↦ targets_same es numbers places n c.args.number _ c.loop-place-test.true refl c.loop-place.targets c.match-target.targets c.loop-place.invariant (sym w.in-None.is ∙ c.target.ensures) w.targets-is
    ]

pub returns : goal.returns
returns c = after_all c.args.edges.now c.args.numbers.now c.args.places.now c.in_ok-list.list.items c.loop-place.place-index c.args.number c.loop-place.targets c.loop-place-test.false c.requires c.loop-place.invariant
    (subst (λ (l : List ℕ). AreRising l) (sym c.in_ok-list.ensures.same) c.listed.ensures.rising) c.in_ok-list.ensures.same

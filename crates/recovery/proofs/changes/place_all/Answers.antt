use Rattle.std.proofs.Common.{◌≡◌, ◌<◌, ◌∙◌, ℕ, List, ap, arith, get_or, length, add-one, map, refl, subst, suc, sym, true, false}
use Rattle.std.specs.Prelude.{IsSome}
use Rattle.basics.proofs.Membership.{has-at}
use Rattle.file_tree.specs.Disk.{Moves, Story, write}
use Rattle.file_tree.specs.Paths.{is_below}
use Rattle.merge_journal.specs.Judging.{path_of}
use Rattle.merge_journal.specs.Names.{stage_path}
use Rattle.file_tree.specs.Fixed.{jobs}
use Rattle.merge_journal.specs.Names.Part.{Stage}
use Rattle.merge_record.specs.declared.record.Placement.{Placement}
use Rattle.recovery.specs.Stages.{StagePathsValue}
use Rattle.recovery.proofs.Asked.{asked_whole, placed_asked}
use Rattle.recovery.proofs.Stages.{placed_step, stage_at, stage_stays}
use Rattle.recovery.proofs.Places.{journal_apart}
use Rattle.merge_core.proofs.Paths.{file_below}
use Rattle.recovery.proofs.changes.place_all.Goals as goal

pub loop-index-init : goal.loop-index-init
loop-index-init g c = ((λ t. refl), (λ t. c.requires.there t), omega arith, λ t new asked. asked)

pub place-requires-clause-differ : goal.place-requires-clause-differ
place-requires-clause-differ g c e =
    let count = ap (λ (f : StagePathsValue). f.count) c.paths.view_is in
    let named = ap (λ (f : StagePathsValue). f.group) c.paths.view_is in
    let lt : c.loop-index.index < length c.paths.inside.stages.items = omega (arith, count, c.requires.count, c.loop-index-test.true) in
    let path = c.index.ensures ∙ (ap (λ (l : List (List ℕ)). get_or l c.loop-index.index c.index.result.now) c.paths.invariant.2 ∙ stage_at c.paths.inside.group (length c.paths.inside.stages.items) c.loop-index.index c.index.result.now lt) in
    let has = has-at c.args.placements.now c.loop-index.index c.index-placements-index.result c.loop-index-test.true c.index-placements-index.is in
    let clear = c.requires.apart c.index-placements-index.result has in
    let to = ap (λ (p : Placement). p.path) c.index-placements-index.is in
    journal_apart c.index.result.now c.index-placements-index.result.path (subst (λ (q : List ℕ). is_below jobs q ≡ true) (sym path) (file_below c.paths.inside.group (Stage c.loop-index.index))) clear (e ∙ sym to)

pub place-requires-clause-there : goal.place-requires-clause-there
place-requires-clause-there g c t =
    let count = ap (λ (f : StagePathsValue). f.count) c.paths.view_is in
    let named = ap (λ (f : StagePathsValue). f.group) c.paths.view_is in
    let lt : c.loop-index.index < length c.paths.inside.stages.items = omega (arith, count, c.requires.count, c.loop-index-test.true) in
    let path = c.index.ensures ∙ (ap (λ (l : List (List ℕ)). get_or l c.loop-index.index c.index.result.now) c.paths.invariant.2 ∙ stage_at c.paths.inside.group (length c.paths.inside.stages.items) c.loop-index.index c.index.result.now lt) in
    subst (λ (q : List ℕ). IsSome ((g.T.Tree.story c.loop-index.tree).now.holds q)) (sym (path ∙ ap (λ (n : ℕ). stage_path n c.loop-index.index) named)) (c.loop-index.invariant.1 t c.loop-index.index c.loop-index-test.true)

pub loop-index-preserved : goal.loop-index-preserved
loop-index-preserved g c =
    let count = ap (λ (f : StagePathsValue). f.count) c.paths.view_is in
    let named = ap (λ (f : StagePathsValue). f.group) c.paths.view_is in
    let lt : c.loop-index.index < length c.paths.inside.stages.items = omega (arith, count, c.requires.count, c.loop-index-test.true) in
    let path = c.index.ensures ∙ (ap (λ (l : List (List ℕ)). get_or l c.loop-index.index c.index.result.now) c.paths.invariant.2 ∙ stage_at c.paths.inside.group (length c.paths.inside.stages.items) c.loop-index.index c.index.result.now lt) in
    let has = has-at c.args.placements.now c.loop-index.index c.index-placements-index.result c.loop-index-test.true c.index-placements-index.is in
    let clear = c.requires.apart c.index-placements-index.result has in
    let to = ap (λ (p : Placement). p.path) c.index-placements-index.is in
    let from = path ∙ ap (λ (n : ℕ). stage_path n c.loop-index.index) named in
    rw add-one (
      λ t.
          let wrote = ap (λ (s : Story). s.now) (c.in_ok-place.ensures.ok t)
          ∙ (ap (λ (q : List ℕ). write (g.T.Tree.story c.loop-index.tree).now q ((g.T.Tree.story c.loop-index.tree).now.holds c.index.result.now)) (sym to)
          ∙ ap (λ (q : List ℕ). write (g.T.Tree.story c.loop-index.tree).now c.index-placements-index.result.path ((g.T.Tree.story c.loop-index.tree).now.holds q)) from) in
          placed_step c.args.paths.now.group c.loop-index.index c.args.placements.now c.index-placements-index.result _ _ c.loop-index-test.true c.index-placements-index.is wrote ∙ c.loop-index.invariant.0 t,
      λ t i lt'.
          let held = ap (λ (s : Story). s.now.holds (stage_path c.args.paths.now.group i)) (c.in_ok-place.ensures.ok t) in
          subst IsSome (sym held) (stage_stays (g.T.Tree.story c.loop-index.tree).now _ _ c.args.paths.now.group i (subst (λ (q : List ℕ). is_below jobs q ≡ false) to clear) (c.loop-index.invariant.1 t i lt')),
      omega (arith, c.loop-index.invariant.2, c.place.ensures.faults.later),
      λ t.
          let moved = subst (λ (q : List ℕ). Moves (g.T.Tree.story c.loop-index.tree) q (g.T.Tree.story c.place.new.self)) (sym to) (c.place.ensures.moved t) in
          placed_asked c.loop-index.index c.args.placements.now c.index-placements-index.result (g.T.Tree.story c.args.tree.now) (g.T.Tree.story c.loop-index.tree) (g.T.Tree.story c.place.new.self) c.loop-index-test.true c.index-placements-index.is (c.loop-index.invariant.3 t) moved,
    )

pub returns-in_err-place-clause-asked : goal.returns-in_err-place-clause-asked
returns-in_err-place-clause-asked g c t =
    let to = ap (λ (p : Placement). p.path) c.index-placements-index.is in
    let moved = subst (λ (q : List ℕ). Moves (g.T.Tree.story c.loop-index.tree) q (g.T.Tree.story c.place.new.self)) (sym to) (c.place.ensures.moved t) in
    asked_whole (suc c.loop-index.index) (map path_of c.args.placements.now) (g.T.Tree.story c.args.tree.now) (g.T.Tree.story c.place.new.self)
    (placed_asked c.loop-index.index c.args.placements.now c.index-placements-index.result (g.T.Tree.story c.args.tree.now) (g.T.Tree.story c.loop-index.tree) (g.T.Tree.story c.place.new.self) c.loop-index-test.true c.index-placements-index.is (c.loop-index.invariant.3 t) moved)

pub returns-clause-asked : goal.returns-clause-asked
returns-clause-asked g c t = asked_whole c.loop-index.index (map path_of c.args.placements.now) (g.T.Tree.story c.args.tree.now) (g.T.Tree.story c.loop-index.tree) (c.loop-index.invariant.3 t)

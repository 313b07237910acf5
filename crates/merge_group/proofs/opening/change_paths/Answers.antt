use Rattle.std.proofs.Common.{◌<◌, ◌∙◌, arith}
use Rattle.std.specs.Prelude.{is_ok}
use Rattle.merge_group.specs.Paths.{due_in, made_in}
use Rattle.merge_group.specs.Working.{standing_at}
use Rattle.merge_group.proofs.Changed.{may_change, one_more, one_tried, same_due, same_group, still_open}
use Rattle.merge_group.proofs.opening.change_paths.Goals as goal

pub change_path-requires : goal.change_path-requires
change_path-requires g c =
    let i = c.loop.invariant in
    let due : made_in (standing_at c.loop.site c.args.group) c.args.change < due_in (standing_at c.loop.site c.args.group) c.args.change = omega (arith, i.2, i.3, c.loop-test.true) in
    record { taken = may_change c.args.change c.loop.site.keeping c.args.group i.1 due }

pub returns-in_err-change_path-clause-paths : goal.returns-in_err-change_path-clause-paths
returns-in_err-change_path-clause-paths g c =
    let i = c.loop.invariant in
    let due : made_in (standing_at c.loop.site c.args.group) c.args.change < due_in (standing_at c.loop.site c.args.group) c.args.change = omega (arith, i.2, i.3, c.loop-test.true) in
    one_tried c.args.change c.args.group (is_ok c.change_path.result) c.args.site.now c.loop.site c.change_path.new.site i.0 i.1 due c.change_path.ensures.event

pub loop-preserved : goal.loop-preserved
loop-preserved g c =
    let i = c.loop.invariant in
    let due : made_in (standing_at c.loop.site c.args.group) c.args.change < due_in (standing_at c.loop.site c.args.group) c.args.change = omega (arith, i.2, i.3, c.loop-test.true) in
    let paths = one_tried c.args.change c.args.group (is_ok c.change_path.result) c.args.site.now c.loop.site c.change_path.new.site i.0 i.1 due c.change_path.ensures.event in
    let adds = c.in_ok-change_path.ensures.event in
    let one = one_more c.args.change c.args.group c.loop.site c.change_path.new.site adds in (
      paths,
      still_open c.args.change c.args.group c.loop.site c.change_path.new.site adds i.1,
      omega (arith, one, i.2),
      same_due c.args.change c.args.group c.loop.site c.change_path.new.site (same_group c.args.change c.args.group (is_ok c.change_path.result) c.loop.site c.change_path.new.site c.change_path.ensures.event) ∙ i.3,
      c.change_path.ensures.sink ∙ i.4,
      omega (arith, i.5, c.change_path.ensures.faults.later),
    )

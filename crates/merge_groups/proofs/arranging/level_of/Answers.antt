use Rattle.std.proofs.Common.{List, map, subst, ℕ}
use Rattle.plan_text.specs.Plans.{plan_value}
use Rattle.merge_edges.specs.Views.{change_of}
use Rattle.merge_groups.specs.Grouped.{AreLevel}
use Rattle.merge_groups.proofs.Whole.{level_fits, whole}
use Rattle.merge_groups.proofs.arranging.level_of.Goals as goal

pub returns-clause-form : goal.returns-clause-form
returns-clause-form c =
    let cs = map change_of c.args.changes.now in
    let es = c.args.edges.now in
    let numbers = c.args.components.now.numbers.items in
    let count = c.args.components.now.count in
    let plan = c.in_ok-plan.plan in
    whole cs c.requires.some plan c.args.installed.now c.groups-form.ensures.form
    (level_fits cs es numbers count c.requires.numbered.numbering plan c.groups-form.ensures.form (subst (λ (ns : List ℕ). AreLevel cs es ns count plan) c.deref.ensures.value c.in_ok-plan.ensures))
    (plan_value c.in_ok-text.text) c.in_ok-text.ensures.are c.in_ok-text.ensures.form

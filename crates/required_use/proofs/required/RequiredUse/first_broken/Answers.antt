use Rattle.std.specs.Prelude.{not}
use Rattle.std.specs.List.{position}
use Rattle.std.proofs.Common.{◌∙◌, ap}
use Rattle.dep_group.specs.Trees.{holds}
use Rattle.pms_names.specs.Flags.{has}
use Rattle.required_use.specs.Grammar.{is_on, kind}
use Rattle.required_use.specs.View.{view}
use Rattle.required_use.proofs.BrokenLemmas.{position-none, position-trees}
use Rattle.required_use.proofs.required.RequiredUse.first_broken.Goals as goal

pub returns-clause-none : goal.returns-clause-none
returns-clause-none c =
    position-none c.args.self.now.empty_holds (is_on (has c.args.enabled.now)) (has c.args.enabled.now) c.args.self.now.nodes.items c.first_false.result
    (c.first_false.ensures ∙ ap (position (λ r. not (holds c.args.self.now.empty_holds kind (is_on (has c.args.enabled.now)) (has c.args.enabled.now) (view r)))) c.deref.ensures.value)

pub returns-clause-first : goal.returns-clause-first
returns-clause-first c =
    c.first_false.ensures
    ∙ ap (position (λ r. not (holds c.args.self.now.empty_holds kind (is_on (has c.args.enabled.now)) (has c.args.enabled.now) (view r)))) c.deref.ensures.value
    ∙ position-trees (λ t. not (holds c.args.self.now.empty_holds kind (is_on (has c.args.enabled.now)) (has c.args.enabled.now) t)) c.args.self.now.nodes.items

use Rattle.std.proofs.Common.{List, Some, map, subst}
use Rattle.std.specs.Prelude.{◌≢◌}
use Rattle.std.proofs.lemmas.Result.{err_from_is_err_and}
use Rattle.pkg_state.specs.Package.{Package}
use Rattle.plan_text.specs.Plans.{group_value, plan_value}
use Rattle.plan_text.specs.declared.plan.Group.{Group}
use Rattle.plan_model.specs.Faults.{link_rule}
use Rattle.plan_model.specs.Linked.{IsLinked}
use Rattle.plan_model.specs.declared.fault.LinkFault.TheVariants.{Memory}
use Rattle.plan_model.proofs.Forming.{linked_form}
use Rattle.plan_model.proofs.Ruling.{fault_if, link_clear}
use Rattle.plan_model.proofs.linking.link.Goals as goal

pub returns-in_err-groups-clause-fine : goal.returns-in_err-groups-clause-fine
returns-in_err-groups-clause-fine c ok =
    let offered = c.args.offered.now in
    let e = c.in_err-groups.field-0.0 in
    let p = err_from_is_err_and c.from_residual-in_err-groups.result c.from_residual-in_err-groups.ensures.1 in
    rw (p.1, p.2) (fault_if (link_rule offered (plan_value c.args.text.now)) (link_clear offered (plan_value c.args.text.now)) ok e
    (subst (λ (gs : List Group). e ≢ Memory → link_rule offered (map group_value gs) (Some e)) c.deref.ensures.value
    (subst (λ (ps : List Package). e ≢ Memory → link_rule ps (map group_value c.deref.result.now) (Some e)) c.in_ok-offers.ensures c.in_err-groups.ensures.says)))

pub unreachable-requires : goal.unreachable-requires
unreachable-requires c =
    c.in-None.ensures (linked_form c.args.offered.now (plan_value c.args.text.now) c.in_ok-groups.groups.items c.requires
    (subst (λ (gs : List Group). IsLinked c.args.offered.now (map group_value gs) c.in_ok-groups.groups.items) c.deref.ensures.value
    (subst (λ (ps : List Package). IsLinked ps (map group_value c.deref.result.now) c.in_ok-groups.groups.items) c.in_ok-offers.ensures c.in_ok-groups.ensures.linked)))

use Rattle.std.proofs.Common.{◌+◌, List, arith, map, subst, sym, take}
use Rattle.std.specs.List.{AllZip}
use Rattle.std.proofs.lemmas.Result.{err_from_is_err_and}
use Rattle.plan_law.specs.Plans.{Group}
use Rattle.plan_text.specs.Plans.{group_value}
use Rattle.plan_rules.specs.Verdicts.{each_from}
use Rattle.plan_rules.proofs.Trying.{from_next, from_refused}
use Rattle.plan_model.specs.Faults.{group_rule}
use Rattle.plan_model.specs.Linked.{IsLinkedGroup}
use Rattle.plan_model.proofs.Pairs.{seen_at, seen_within, zip_next}
use Rattle.plan_model.proofs.linking.link_groups.Goals as goal

pub returns-in_err-link_group-clause-says : goal.returns-in_err-link_group-clause-says
returns-in_err-link_group-clause-says c =
    let xs = map group_value c.args.groups.now in
    let i = c.loop-g.g in
    let J = group_rule c.args.offers.now.offered.now in
    let p = err_from_is_err_and c.from_residual.result c.from_residual.ensures.1 in
    rw (p.1, p.2) (λ other. from_refused xs i (group_value c.index-groups-g.result) J (each_from 0 xs J) c.in_err-link_group.field-0.0 (seen_within group_value c.args.groups.now i (omega arith)) (seen_at group_value c.args.groups.now i c.index-groups-g.result (omega arith) c.index-groups-g.is) c.loop-g.invariant.1 (c.in_err-link_group.ensures.says other))

pub loop-g-preserved : goal.loop-g-preserved
loop-g-preserved c =
    let xs = map group_value c.args.groups.now in
    let i = c.loop-g.g in
    let J = group_rule c.args.offers.now.offered.now in
    let within = seen_within group_value c.args.groups.now i (omega arith) in
    let is = seen_at group_value c.args.groups.now i c.index-groups-g.result (omega arith) c.index-groups-g.is in (
      subst (λ (ys : List Group). AllZip (IsLinkedGroup c.args.offers.now.offered.now) (take (i + 1) xs) ys) (sym {A = List Group} c.in_ok-push.ensures.items)
          (zip_next (IsLinkedGroup c.args.offers.now.offered.now) xs c.loop-g.linked.items i (group_value c.index-groups-g.result) c.in_ok-link_group.field-0 within is c.loop-g.invariant.0 c.in_ok-link_group.ensures.linked),
      from_next xs i (group_value c.index-groups-g.result) J (each_from 0 xs J) within is c.loop-g.invariant.1 c.in_ok-link_group.ensures.says,
    )

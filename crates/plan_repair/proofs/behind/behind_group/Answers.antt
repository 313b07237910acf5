use Rattle.std.proofs.Common.{◌≡◌, ◌∙◌, ◌++◌, List, ap, filter, map}
use Rattle.pkg_state.specs.Package.{Package}
use Rattle.plan_law.specs.Plans.{Group, removed_line}
use Rattle.plan_repair.specs.Repair.{is_elsewhere}
use Rattle.plan_repair.proofs.Staying.{same_stay}
use Rattle.plan_repair.proofs.behind.behind_group.Goals as goal

pub returns : goal.returns
returns c =
    let g = c.args.group.now in
    let lines : c.deref-3.result.now ≡ map removed_line g.removals = c.deref-3.ensures.value ∙ (c.in_ok-lines.ensures ∙ ap (map removed_line) (c.deref.ensures.value ∙ ap (λ (x : Group). x.removals) c.group.view_is)) in
    let come : c.in_ok-all.all.items ≡ g.additions = c.in_ok-all.ensures ∙ (c.deref-2.ensures.value ∙ ap (λ (x : Group). x.additions) c.group.view_is) in
    c.in_ok-add_others.ensures
    ∙ (ap (λ (ps : List Package). ps ++ filter (is_elsewhere c.deref-3.result.now) c.args.start.now) come
    ∙ ap (λ (ps : List Package). g.additions ++ ps) (same_stay g c.deref-3.result.now lines c.args.start.now))

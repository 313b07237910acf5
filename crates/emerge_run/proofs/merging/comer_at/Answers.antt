use Rattle.std.proofs.Common.{◌≡◌, ◌∙◌, ◌+◌, ◌-◌, ◌<◌, ◌≤◌, ℕ, List, Some, ap, arith, drop, get_or, length, map, subst, sym}
use Rattle.std.specs.Prelude.{slice_get}
use Rattle.pkg_state.specs.Package.{Package}
use Rattle.plan_law.specs.Plans.{Group}
use Rattle.run_turns.specs.Plans.{coming}
use Rattle.emerge_run.specs.Collisions.{id_of_package}
use Rattle.emerge_run.proofs.Owners.{comes_here, comes_later}
use Rattle.emerge_run.proofs.merging.comer_at.Goals as goal

pub returns-then-left-len : goal.returns-then-left-len
returns-then-left-len c =
    let g : Group = c.group-item.result in
    let k = c.loop-group.left in
    let p : Package = c.index-package.result.now in
    let own : List Package = c.group.inside.additions.items in
    let same : own ≡ g.additions = ap (λ (x : Group). x.additions) c.group.view_is in
    let inside : k < length own = omega (arith, c.if-left-len.true, c.len.ensures, c.group.inside.additions.ok.0) in
    let here = subst (λ (l : List Package). k < length l) same inside in
    let at = subst (λ (l : List Package). p ≡ get_or l k p) same c.index-package.ensures in
    ap (λ (x : Package). Some x.facts.id) c.package.view_is
    ∙ (sym (comes_here c.args.plan.now c.loop-group.group-index g k p c.loop-group-test.true c.group-item.is here at) ∙ c.loop-group.invariant)

pub loop-group-preserved : goal.loop-group-preserved
loop-group-preserved c =
    let g : Group = c.group-item.result in
    let k = c.loop-group.left in
    let i = c.loop-group.group-index in
    let own : List Package = c.group.inside.additions.items in
    let same : own ≡ g.additions = ap (λ (x : Group). x.additions) c.group.view_is in
    let long : c.len-left.result ≡ length g.additions = c.len-left.ensures ∙ (c.group.inside.additions.ok.0 ∙ ap length same) in
    let inside : length own ≤ k = omega (arith, c.if-left-len.false, c.len.ensures, c.group.inside.additions.ok.0) in
    let past = subst (λ (l : List Package). length l ≤ k) same inside in
    ap (λ (n : ℕ). slice_get (map id_of_package (coming (drop (i + 1) c.args.plan.now))) (k - n)) long
    ∙ (sym (comes_later c.args.plan.now i g k c.loop-group-test.true c.group-item.is past) ∙ c.loop-group.invariant)

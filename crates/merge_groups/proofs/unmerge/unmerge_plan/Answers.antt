use Rattle.std.proofs.Common.{◌≡◌, ◌∙◌, List, [], ap, map, refl, subst, sym}
use Rattle.plan_text.specs.Plans.{GroupValue}
use Rattle.plan_text.specs.Texts.{IsPlan}
use Rattle.merge_groups.specs.Order.{removal_of}
use Rattle.merge_groups.specs.Single.{groups_of}
use Rattle.merge_groups.specs.declared.order.Lined.{Lined}
use Rattle.merge_groups.proofs.Formed.{single_formed}
use Rattle.merge_groups.proofs.unmerge.unmerge_plan.Goals as goal

pub returns-clause-form : goal.returns-clause-form
returns-clause-form c =
    let packages = λ (ls : List Lined). map (λ l. l.pkg.now) ls in
    let rs = c.in_ok-removals.removals.items in
    let are : rs ≡ map removal_of (packages c.in_ok-going.going.items) = c.in_ok-removals.ensures.are ∙ ap (λ (ls : List Lined). map removal_of (packages ls)) c.deref.ensures.value in
    let none : c.new.result.items ≡ [] = c.new.ensures.items in
    subst (λ (gs : List GroupValue). IsPlan gs) (sym (c.in_ok-groups.ensures ∙ ap (groups_of rs) none))
    (single_formed [] (packages c.in_ok-going.going.items) [] rs [] are refl c.in_ok-removals.ensures.form tt c.in_ok-going.ensures.rising refl)

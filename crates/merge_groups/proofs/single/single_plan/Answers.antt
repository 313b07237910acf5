use Rattle.std.proofs.Common.{◌≡◌, ◌∙◌, List, ap, map, subst, sym}
use Rattle.plan_text.specs.Plans.{GroupValue}
use Rattle.plan_text.specs.Texts.{IsPlan}
use Rattle.merge_groups.specs.Order.{removal_of}
use Rattle.merge_groups.specs.Single.{addition_of}
use Rattle.merge_groups.specs.declared.order.Lined.{Lined}
use Rattle.merge_groups.proofs.Formed.{single_formed}
use Rattle.merge_groups.proofs.single.single_plan.Goals as goal

pub returns-clause-form : goal.returns-clause-form
returns-clause-form c =
    let packages = λ (ls : List Lined). map (λ l. l.pkg.now) ls in
    let qs = map (λ p. p.now) c.in_ok-beside.beside.packages.now in
    let rs = c.in_ok-removals.removals.items in
    let more = c.in_ok-additions.additions.items in
    let are : rs ≡ map removal_of (packages c.in_ok-going.going.items) = c.in_ok-removals.ensures.are ∙ ap (λ (ls : List Lined). map removal_of (packages ls)) c.deref-2.ensures.value in
    let these : more ≡ map (addition_of qs) (packages c.in_ok-coming.coming.items) = c.in_ok-additions.ensures.are ∙ ap (λ (ls : List Lined). map (addition_of qs) (packages ls)) c.deref-3.ensures.value in
    subst (λ (gs : List GroupValue). IsPlan gs) (sym c.in_ok-groups.ensures)
    (single_formed qs (packages c.in_ok-going.going.items) (packages c.in_ok-coming.coming.items) rs more are these c.in_ok-removals.ensures.form c.in_ok-additions.ensures.form c.in_ok-going.ensures.rising c.in_ok-coming.ensures.rising)

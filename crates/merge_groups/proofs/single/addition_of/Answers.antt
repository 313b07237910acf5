use Rattle.std.proofs.Common.{◌≡◌, ◌∙◌, List, map, rules, subst, sym}
use Rattle.std.specs.List.{AllByRecursion}
use Rattle.build_pool.specs.declared.orders.Order.{Order}
use Rattle.dep_atom.specs.declared.slot.Bind.{Bind}
use Rattle.plan_text.specs.Texts.{IsAddition}
use Rattle.plan_text.specs.Words.{IsBind}
use Rattle.merge_groups.specs.Binds.{binds_of}
use Rattle.merge_groups.specs.Single.{addition_of}
use Rattle.merge_groups.proofs.Formed.{addition_named}
use Rattle.merge_groups.proofs.single.addition_of.Goals as goal

pub returns-clause-form : goal.returns-clause-form
returns-clause-form c =
    let p = c.args.pkg.now in
    let ps = map (λ p. p.now) c.args.beside.now.packages.now in
    let binds : AllByRecursion IsBind (binds_of ps p) = subst (λ (bs : List Bind). AllByRecursion IsBind bs) (c.deref.ensures.value ∙ c.in_ok-binds.ensures) c.binds_are.ensures in
    let is : ◌≡◌ {A = Order} (record { id = c.in_ok-id.id; slot = c.in_ok-slot.slot; subslot = c.in_ok-subslot.subslot; enabled = c.in_ok-enabled.enabled; binds = c.new.result }) (addition_of ps p) = search rules in
    subst (λ (a : Order). IsAddition a) (sym is) (addition_named ps p c.package_is_named.ensures binds)

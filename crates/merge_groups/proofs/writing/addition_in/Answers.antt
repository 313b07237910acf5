use Rattle.std.proofs.Common.{◌≡◌, ◌∙◌, List, ap, subst, sym}
use Rattle.std.specs.List.{AllByRecursion, AllZip}
use Rattle.pms_names.specs.Flags.{has}
use Rattle.build_pool.specs.declared.orders.Order.{Order}
use Rattle.dep_atom.specs.declared.slot.Bind.{Bind}
use Rattle.pkg_state.specs.Package.{Package}
use Rattle.plan_lives.specs.Index.{plan_of, start_of}
use Rattle.plan_model.specs.Entering.{all_asking_leaves}
use Rattle.plan_text.specs.Words.{IsBind, IsEntry}
use Rattle.merge_groups.specs.Order.{entry_of}
use Rattle.merge_groups.specs.Written.{IsBindOf}
use Rattle.merge_groups.proofs.Entries.{made, same_made}
use Rattle.merge_groups.proofs.Formed.{entry_named}
use Rattle.merge_groups.proofs.writing.addition_in.Goals as goal

pub returns-clause-says : goal.returns-clause-says
returns-clause-says c =
    let p = c.args.pkg.now in
    let index = c.args.index.now in
    let R = IsBindOf (plan_of index) (start_of index) c.args.g p.facts.enabled in
    let says : made c.in_ok-id.id c.in_ok-slot.slot c.in_ok-subslot.subslot c.in_ok-enabled.enabled ≡ entry_of p =
    same_made _ _ _ _ _ _ _ _ (c.in_ok-id.ensures ∙ ap (λ (q : Package). q.facts.id) c.pkg.view_is)
    (c.in_ok-slot.ensures ∙ ap (λ (q : Package). q.facts.slot) c.pkg.view_is)
    (c.in_ok-subslot.ensures ∙ ap (λ (q : Package). q.facts.subslot) c.pkg.view_is) c.in_ok-enabled.ensures in
    record { is = says; binds = subst (λ (bs : List Bind). AllZip R (all_asking_leaves (has p.facts.enabled) p.rdepend.groups) bs) (sym c.new.ensures) c.in_ok-binds.ensures }

pub returns-clause-form : goal.returns-clause-form
returns-clause-form c =
    let p = c.args.pkg.now in
    let says : made c.in_ok-id.id c.in_ok-slot.slot c.in_ok-subslot.subslot c.in_ok-enabled.enabled ≡ entry_of p =
    same_made _ _ _ _ _ _ _ _ (c.in_ok-id.ensures ∙ ap (λ (q : Package). q.facts.id) c.pkg.view_is)
    (c.in_ok-slot.ensures ∙ ap (λ (q : Package). q.facts.slot) c.pkg.view_is)
    (c.in_ok-subslot.ensures ∙ ap (λ (q : Package). q.facts.subslot) c.pkg.view_is) c.in_ok-enabled.ensures in
    let named = subst (λ (a : Order). IsEntry a) (sym says) (entry_named p c.package_is_named.ensures) in
    record {
      says = record { id = named.id; slot = named.slot; subslot = named.subslot; enabled = named.enabled };
      binds = subst (λ (bs : List Bind). AllByRecursion IsBind bs) (c.deref.ensures.value ∙ sym c.new.ensures) c.binds_are.ensures;
    }

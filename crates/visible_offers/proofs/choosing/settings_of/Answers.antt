use Rattle.std.specs.Prelude.{IfOk, map}
use Rattle.std.proofs.Common.{◌≡◌, ◌∙◌, ap, subst}
use Rattle.std.proofs.lemmas.Result.{IfOk-weaker}
use Rattle.pms_names.specs.Flags.{has}
use Rattle.visible_offers.specs.Flags.{FlagConfigValue, settings_of}
use Rattle.visible_offers.proofs.Layering.{settings_alike}
use Rattle.visible_offers.proofs.choosing.settings_of.Goals as goal

pub returns : goal.returns
returns c =
    let e = c.args.entry.now in
    let said : FlagConfigValue = record { defaults = c.config.inside.defaults.now; profile_uses = c.config.inside.profile_uses; conf = c.config.inside.conf.now; uses = c.config.inside.uses; forces = c.config.inside.forces; masks = c.config.inside.masks; implicit = c.config.inside.implicit.now } in
    subst (λ (k : FlagConfigValue). IfOk c.settings_by.result (λ v. map has v.items ≡ settings_of k e c.args.flips)) c.config.view_is (IfOk-weaker c.settings_by.result _ _ (λ v is. is ∙ settings_alike said e c.args.flips c.facts_of-facts.result.now c.deref.result.now c.deref-2.result.now _ c.in_ok-forced.forced c.in_ok-masked.masked c.facts_of-facts.ensures (c.deref.ensures.value ∙ c.in_ok-defaults.ensures) (c.deref-2.ensures.value ∙ c.in_ok-conf.ensures) (ap (map (λ x. x.now)) c.deref-3.ensures.value ∙ c.in_ok-layers.ensures) c.in_ok-forced.ensures c.in_ok-masked.ensures) c.settings_by.ensures)

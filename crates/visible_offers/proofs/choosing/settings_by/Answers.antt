use Rattle.std.proofs.Common.{◌∙◌}
use Rattle.std.proofs.lemmas.Result.{IfOk-weaker}
use Rattle.visible_flags.specs.declared.base.FlagRules.{FlagRules}
use Rattle.visible_offers.proofs.Layering.{settings_from}
use Rattle.visible_offers.proofs.choosing.settings_by.Goals as goal

pub returns : goal.returns
returns c = IfOk-weaker c.variants.result _ _ (λ v is. is ∙ settings_from c.args.entry.now (let rules : FlagRules = record { layers = c.args.layers; forced = c.args.forced; masked = c.args.masked; implicit = c.args.implicit } in rules) c.args.flips _ _ _ c.in_ok-base.base c.required_of.ensures c.known_of-known.ensures c.on_of.ensures c.in_ok-base.ensures) c.variants.ensures

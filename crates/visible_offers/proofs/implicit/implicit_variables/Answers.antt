use Rattle.std.proofs.Common.{◌∙◌, List, ap, filter, ℕ}
use Rattle.std.specs.Prelude.{codes}
use Rattle.std.proofs.lemmas.Result.{IfOk-weaker}
use Rattle.config_vars.specs.Values.{stacked}
use Rattle.config_vars.proofs.Stacking.{told}
use Rattle.pms_names.specs.Flags.{has}
use Rattle.visible_offers.proofs.implicit.implicit_variables.Goals as goal

pub returns : goal.returns
returns c = IfOk-weaker c.named_among.result _ _ (λ v is. is ∙ (ap (λ (n : List (List ℕ)). filter (has n) (told c.deref-2.result.now)) (ap told c.deref.ensures.value ∙ c.in_ok-named.ensures) ∙ ap (λ (vs : List (List ℕ)). filter (has (stacked (codes "USE_EXPAND_IMPLICIT") c.args.files.now)) vs) (ap told c.deref-2.ensures.value ∙ c.in_ok-variables.ensures))) c.named_among.ensures

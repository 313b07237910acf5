use Rattle.std.proofs.Common.{take}
use Rattle.std.specs.List.{AllZip}
use Rattle.pms_names.specs.Flags.{has}
use Rattle.visible_offers.specs.Offered.{HasOn}
use Rattle.visible_offers.proofs.offering.variants_with.Given as goal

abbrev pub invariant-loop-setting : goal.invariant-loop-setting
invariant-loop-setting l = AllZip (λ on. HasOn l.pkg (has on)) (take l.setting-index l.settings) l.variants.items

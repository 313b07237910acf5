use Rattle.std.proofs.Common.{List, ℕ}
use Rattle.pms_names.specs.Flags.{has}
use Rattle.profile_folders.proofs.Followed.{zip_more}
use Rattle.visible_offers.specs.Offered.{HasOn}
use Rattle.visible_offers.proofs.offering.variants_with.Goals as goal

pub loop-setting-preserved : goal.loop-setting-preserved
loop-setting-preserved c = zip_more (λ (on : List (List ℕ)). HasOn c.args.pkg.now (has on)) c.args.settings.now c.loop-setting.setting-index c.setting-item.result c.loop-setting.variants.items c.push.new.self.items c.in_ok-variant_with.field-0 c.loop-setting-test.true c.setting-item.is c.loop-setting.invariant c.in_ok-variant_with.ensures c.in_ok-push.ensures.items

use Rattle.pms_version.proofs.Order.{version_keyed, key_cmp_total}
use Rattle.pms_version.proofs.laws.order_is_that_of_keys.Goals as goal

pub returns : goal.returns
returns c = record { keys = version_keyed; total = key_cmp_total }

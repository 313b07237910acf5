use Rattle.pms_version.proofs.Order.{same_itself, turned_round, rises_on, equals_alike}
use Rattle.pms_version.proofs.laws.order_is_total.Goals as goal

pub returns : goal.returns
returns c = record { itself = same_itself; turned = turned_round; rises = rises_on; alike = equals_alike }

use Rattle.std.proofs.Common.{◌≡◌, ◌<◌, ◌^◌, take}
use Rattle.pms_version.specs.Order.{decimal}
use Rattle.pms_version.proofs.number.value_of.Given as goal

abbrev pub invariant-loop-digit : goal.invariant-loop-digit
invariant-loop-digit l = record { value : l.value ≡ decimal (take l.digit-index l.digits); small : l.value < 10 ^ l.digit-index }

use Rattle.std.proofs.Common.{◌<◌, arith, get_or}
use Rattle.std.proofs.lemmas.List.{get_or_default}
use Rattle.basics.specs.Limits.{most_groups}
use Rattle.basics.proofs.Membership.{has-at}
use Rattle.merge_groups.proofs.writing.numbers_of.Goals as goal

pub overflow_cast-place : goal.overflow_cast-place
overflow_cast-place c =
    let xs = c.args.places.now in
    let i = c.loop-place.place-index in
    let few : get_or xs i 0 < most_groups = c.requires (get_or xs i 0) (has-at xs i (get_or xs i 0) (omega arith) (get_or_default xs i 0 (get_or xs i 0) (omega arith))) in
    omega (arith, few)

pub overflow_add-place : goal.overflow_add-place
overflow_add-place c =
    let xs = c.args.places.now in
    let i = c.loop-place.place-index in
    let few : get_or xs i 0 < most_groups = c.requires (get_or xs i 0) (has-at xs i (get_or xs i 0) (omega arith) (get_or_default xs i 0 (get_or xs i 0) (omega arith))) in
    omega (arith, few)

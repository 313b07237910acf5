use Rattle.std.proofs.Common.{◌≡◌, [], replicate}
use Rattle.merge_site.specs.Booking.{lists_of}
use Rattle.merge_site.proofs.wishes.new_wishes.Given as goal

abbrev pub invariant-loop : goal.invariant-loop
invariant-loop l = lists_of l.wishes.items ≡ replicate l.counter []

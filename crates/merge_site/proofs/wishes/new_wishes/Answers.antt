use Rattle.std.proofs.Common.{◌∙◌, ap}
use Rattle.merge_site.specs.Booking.{lists_of}
use Rattle.merge_site.proofs.Judged.{none_more}
use Rattle.merge_site.proofs.wishes.new_wishes.Goals as goal

pub loop-preserved : goal.loop-preserved
loop-preserved c =
    ap lists_of c.in_ok-push.ensures.items ∙ none_more c.loop.wishes.items c.new.result c.loop.counter c.loop.invariant c.new.ensures.items

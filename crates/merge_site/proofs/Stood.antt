-- What a crash at any moment of a site's events leaves.
use Rattle.std.proofs.Common.{◌≡◌, ◌∷◌, List, [], inl, inr, subst, sym}
use Rattle.file_tree.specs.Disk.{Map, Story}
use Rattle.file_tree.specs.Moments.{Leaves, Since}
use Rattle.file_tree.proofs.Moments.{since_same, since_start, since_then, since_weaker}
use Rattle.merge_core.specs.Event.{answered, begun}
use Rattle.merge_core.specs.CoreValue.{CoreValue, machine_of}
use Rattle.merge_core.specs.Order.{IsInOrder}
use Rattle.merge_core.specs.Roll.{Machine, RecoversCommitted, idle}
use Rattle.merge_core.specs.Trail.{Entry, Trail, machine_after}
use Rattle.merge_core.proofs.Images.{image_stands}
use Rattle.merge_site.specs.Site.{IsHeld, StoodDuring}

stood_along : (opening : Map) (m : Machine) (old new : Story) (es : List Entry) → Trail opening m old es new → IsInOrder opening (machine_after m es) new.now → Since (StoodDuring opening m es) old new
stood_along opening m old new [] trail order =
    since_same (RecoversCommitted opening m.roll) old old new (since_start (RecoversCommitted opening m.roll) old (subst (λ (s : Story). Leaves (RecoversCommitted opening m.roll) s.now) trail (image_stands opening m.roll new.now order.firm order.listed))) trail
stood_along opening m old new (e ∷ es) trail order =
    let during = StoodDuring opening m (e ∷ es) in
    since_then during old trail.0 new
    (since_weaker (RecoversCommitted opening (begun m e.0).roll) during (λ c h. inl h) old trail.0 trail.1)
    (since_weaker (StoodDuring opening (answered m e.0 e.1) es) during (λ c h. inr h) trail.0 new (stood_along opening (answered m e.0 e.1) trail.0 new es trail.2 order))

-- each crash image of each moment stood
pub held_moments : (k : CoreValue) (es : List Entry) (start now : Story) → machine_after idle es ≡ machine_of k → IsHeld k es start now → Since (StoodDuring start.now.holds idle es) start now
held_moments k es start now leads held =
    stood_along start.now.holds idle start now es held.trail (subst (λ (m : Machine). IsInOrder start.now.holds m now.now) (sym leads) held.order)

use Rattle.std.proofs.Common.{refl}
use Rattle.merge_core.specs.Event.{Abandon, Acknowledge, Begin, Claim}
use Rattle.merge_site.proofs.Device.{performed}
use Rattle.merge_site.proofs.calls.quiet_events.Goals as goal

pub returns : goal.returns
returns c m g ok s = (
  performed m (Begin g) ok s s refl,
  performed m (Claim g) ok s s refl,
  performed m (Acknowledge g) ok s s refl,
  performed m (Abandon g) ok s s refl,
)

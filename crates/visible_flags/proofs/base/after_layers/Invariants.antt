use Rattle.std.proofs.Common.{◌≡◌, drop}
use Rattle.visible_flags.specs.Settings.{after_layers}
use Rattle.visible_flags.proofs.base.after_layers.Given as goal

abbrev pub invariant-loop-layer : goal.invariant-loop-layer
invariant-loop-layer l = after_layers (drop l.layer-index l.layers) l.flag l.on ≡ after_layers l.layers l.flag l.fn.on

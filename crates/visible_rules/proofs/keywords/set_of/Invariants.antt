use Rattle.std.proofs.Common.{◌≡◌, List, ℕ, take}
use Rattle.pms_names.specs.Flags.{has}
use Rattle.visible_rules.specs.Heard.{is_in}
use Rattle.visible_rules.proofs.keywords.set_of.Given as goal

abbrev pub invariant-loop-text : goal.invariant-loop-text
invariant-loop-text l = (q : List ℕ) → is_in l.set q ≡ has (take l.text-index l.texts) q

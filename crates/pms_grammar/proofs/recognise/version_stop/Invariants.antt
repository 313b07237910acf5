use Rattle.std.proofs.Common.{◌≡◌, take, false}
use Rattle.pms_grammar.specs.declared.place.Place.TheVariants.{Number}
use Rattle.pms_grammar.specs.Machine.{run, is_nowhere}
use Rattle.pms_grammar.proofs.recognise.version_stop.Given as goal

abbrev pub invariant-loop-at : goal.invariant-loop-at
invariant-loop-at l = record { place : l.place ≡ run Number (take l.at l.bytes); somewhere : is_nowhere l.place ≡ false }

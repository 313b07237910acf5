use Rattle.std.proofs.Common.{◌≡◌, ◌++◌, take, string_bytes}
use Rattle.std.specs.List.{flat_map}
use Rattle.dep_atom.specs.Text.{further_use_text}
use Rattle.dep_atom.proofs.uses.write_others.Given as goal

abbrev pub invariant-loop-item : goal.invariant-loop-item
invariant-loop-item l = string_bytes l.text ≡ string_bytes l.initial.text ++ flat_map further_use_text (take l.item-index l.others)

use Rattle.std.proofs.Common.{◌≡◌, ◌++◌, drop, filter, map, string_bytes}
use Rattle.dep_atom.specs.Ids.{id_text}
use Rattle.in_memory.specs.Images.{entry_of, image_of, is_of}
use Rattle.in_memory.proofs.image_builder.image_of.Given as goal

abbrev pub invariant-loop-one : goal.invariant-loop-one
invariant-loop-one l =
    l.image.items
    ++ map entry_of (filter (is_of (string_bytes l.name)) (drop l.one-index l.entries))
    ≡ image_of l.entries (id_text l.id)

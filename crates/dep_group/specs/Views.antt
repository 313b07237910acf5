-- How contracts see the structs of this crate.
use Rattle.dep_group.specs.Words.{Spot}
use Rattle.dep_group.specs.declared.word.Word.{Word}

-- a word and its place, as plain data
abbrev pub spot : Word → Spot
spot w = record { at = w.at; bytes = w.text.now }

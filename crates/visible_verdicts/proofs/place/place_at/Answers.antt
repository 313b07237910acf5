use Rattle.std.proofs.Common.{◌∙◌, refl, sym}
use Rattle.dep_atom.specs.Ids.{id_text}
use Rattle.visible_verdicts.proofs.Named.{path_is}
use Rattle.visible_verdicts.proofs.place.place_at.Goals as goal

pub returns-in_default : goal.returns-in_default
returns-in_default c id is e = c.in_default.ensures (id_text id) (e ∙ sym (path_is id (id_text id) refl))

-- What an atom says of its package between its operator and its slot part.
use Rattle.std.specs.Prelude.{Bool, ℕ, List, ◌++◌}
use Rattle.dep_atom.specs.declared.atom.Op.{Op}
use Rattle.dep_atom.specs.declared.reading.Package.{Package}
use Rattle.dep_atom.specs.Form.{IsPackageForm, IsVersionedForm}
use Rattle.dep_atom.specs.Text.{name_text, version_part, star_text}

-- the name, the version behind a hyphen, and the asterisk
abbrev pub body_text : Package → List ℕ
body_text p = name_text p.name ++ (version_part p.version ++ star_text p.star)

-- in form behind this operator
abbrev pub IsBodyForm : Op → Package → Type 0
IsBodyForm op p = IsPackageForm op p.name p.version p.star

-- a name and a version, with an asterisk only where it may stand
abbrev pub IsVersionedBody : Bool → Package → Type 0
IsVersionedBody may_star p = IsVersionedForm may_star p.name p.version p.star

-- A package as plain data, and the line that it stands on.
use Rattle.std.specs.Prelude.{ℕ, List, ◌++◌, codes, map}
use Rattle.pms_names.specs.declared.name.Name.{Name}
use Rattle.dep_atom.specs.Text.{name_text}
use Rattle.dep_atom.specs.declared.package.Facts.{Facts}
use Rattle.dep_tree.specs.Texts.{Dependencies}
use Rattle.required_use.specs.Texts.{Expressions}
use Rattle.pkg_state.specs.declared.class.Class.{Class}
use Rattle.pkg_state.specs.declared.class.Class.TheVariants.{Rdepend, Pdepend, Depend, Bdepend, Idepend}
use Rattle.pkg_state.specs.declared.eapi.Eapi.{Eapi}

pub record Package : Type 0 where
  pub facts : Facts
  pub eapi : Eapi
  pub rdepend : Dependencies
  pub pdepend : Dependencies
  pub depend : Dependencies
  pub bdepend : Dependencies
  pub idepend : Dependencies
  pub required : Expressions

-- the facts with just these flags on
abbrev pub with_flags : List (List ℕ) → Facts → Facts
with_flags on facts = record facts { enabled = on }

-- the package with just these flags on
abbrev pub with_enabled : List (List ℕ) → Package → Package
with_enabled on p = record p { facts = with_flags on p.facts }

-- what the package needs in a class
abbrev pub tree_of : Class → Package → Dependencies
tree_of Rdepend p = p.rdepend
tree_of Pdepend p = p.pdepend
tree_of Depend p = p.depend
tree_of Bdepend p = p.bdepend
tree_of Idepend p = p.idepend

-- the name of the variable that says what a package needs in a class (PMS 8.1)
abbrev pub class_word : Class → List ℕ
class_word Rdepend = codes "RDEPEND"
class_word Pdepend = codes "PDEPEND"
class_word Depend = codes "DEPEND"
class_word Bdepend = codes "BDEPEND"
class_word Idepend = codes "IDEPEND"

-- a line is a name and a slot; it is told and ordered by the text `category/package:slot`
abbrev pub line_text : Name → List ℕ → List ℕ
line_text name slot = name_text name ++ (codes ":" ++ slot)

-- the line on which a package stands
abbrev pub line_of : Facts → List ℕ
line_of facts = line_text facts.id.name facts.slot

abbrev pub lines_of : List Package → List (List ℕ)
lines_of ps = map (λ p. line_of p.facts) ps

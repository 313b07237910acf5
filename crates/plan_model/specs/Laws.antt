-- What comes with a linked plan can be recorded.
use Rattle.std.specs.Prelude.{◌≡◌, ◌||◌, ℕ, true, List, []}
use Rattle.basics.specs.Members.{Has}
use Rattle.pms_names.specs.Flags.{IsRising, has}
use Rattle.dep_group.specs.Tokens.{IsInForm}
use Rattle.dep_tree.specs.Grammar as dependencies
use Rattle.required_use.specs.Grammar as expressions
use Rattle.pkg_state.specs.Editions.{FitsEdition}
use Rattle.pkg_state.specs.Package.{Package, tree_of}
use Rattle.pkg_state.specs.declared.class.Class.{Class}
use Rattle.plan_law.specs.Plans as law
use Rattle.plan_text.specs.Plans.{GroupValue}
use Rattle.plan_text.specs.Texts.{IsPlan}
use Rattle.vdb_files.specs.Recorded.{IsRecordable}
use Rattle.vdb_files.specs.Written.{installed_with}
use Rattle.plan_model.specs.Linked.{IsLinked}

-- what the package needs and asks of its flags is in form and fits its edition, as it does where
-- its texts were read
pub record IsFormed (p : Package) : Type 0 where
  pub needs : (class : Class) →
      IsInForm dependencies.grammar dependencies.is_block (tree_of class p).groups
  pub required : IsInForm expressions.grammar expressions.never p.required.groups
  pub edition : FitsEdition p

-- packages that are offered: in form, with just the implicit flags on
abbrev pub AreOffered : List (List ℕ) → List Package → Type 0
AreOffered implicit offered =
    (p : Package) → Has offered p → IsFormed p × (p.facts.enabled ≡ implicit)

-- the implicit flags are on, and any other that is on is one that the package knows
pub record IsLit (implicit : List (List ℕ)) (p : Package) : Type 0 where
  pub rising : IsRising p.facts.enabled
  pub known : (flag : List ℕ) → has p.facts.enabled flag ≡ true →
      (has p.facts.iuse flag || has implicit flag) ≡ true
  pub implicit_on : (flag : List ℕ) → has implicit flag ≡ true → has p.facts.enabled flag ≡ true

-- what the package needs can be recorded, and so can its flags
pub record CanBeKept (implicit : List (List ℕ)) (p : Package) : Type 0 where
  pub recordable : IsRecordable (installed_with p [])
  pub lit : IsLit implicit p

-- each addition of a plan that is linked to a text in form can be recorded
abbrev pub LinkedAdditionsCanBeKept : Type 0
LinkedAdditionsCanBeKept =
    (implicit : List (List ℕ)) (offered : List Package) (text : List GroupValue)
    (plan : List law.Group) (g : law.Group) (p : Package) → AreOffered implicit offered →
    IsPlan text → IsLinked offered text plan → Has plan g → Has g.additions p →
    CanBeKept implicit p

-- A category and a name with a version have one first fault.
use Rattle.std.proofs.Common.{◌≡◌, ◌⊎◌, ℕ, inl, inr, List, refl, sym, subst}
use Rattle.pms_grammar.specs.Grammar.{spelling}
use Rattle.pms_names.specs.Names.{IsName}
use Rattle.pms_names.specs.declared.kind.Kind.TheVariants.{Category, Package}
use Rattle.dep_atom.specs.declared.fault.AtomFault.{AtomFault}
use Rattle.dep_atom.specs.declared.fault.AtomFault.TheVariants.{Name, Version, OperatorWithoutVersion, VersionWithoutOperator, BadStar, BadSlot, BadUse, Memory}
use Rattle.dep_atom.specs.declared.package.PackageId.{PackageId}
use Rattle.dep_atom.specs.Ids.{IsId, name_and_version, HasNoPackage, HasNoVersion, PackageFault, FirstIdFault}
use Rattle.dep_atom.specs.Naming.{BeginsNumber, IsReadableText, PackageThen}
use Rattle.dep_atom.proofs.Named.{to_number, weaken_package}

name_or_version : (category bytes : List ℕ) → (IsName Category category → ⊥) ⊎ HasNoPackage bytes → IsName Category category → HasNoVersion bytes → ⊥
name_or_version category bytes (inl none) named past = none named
name_or_version category bytes (inr f) named past = elim past.named [
  | inl alone ↦ f.not_alone alone
  | inr numbered ↦ f.not_numbered numbered
]

pub one_id_fault : (category bytes : List ℕ) (a b : AtomFault) → FirstIdFault category bytes a → FirstIdFault category bytes b → (a ≡ Memory → ⊥) → (b ≡ Memory → ⊥) → a ≡ b
one_id_fault category bytes Memory b f g p q = absurd (p refl)
one_id_fault category bytes a Memory f g p q = absurd (q refl)
one_id_fault category bytes Name Name f g p q = refl
one_id_fault category bytes Version Version f g p q = refl
one_id_fault category bytes Name Version f g p q = absurd (name_or_version category bytes f g.0 g.1)
one_id_fault category bytes Version Name f g p q = absurd (name_or_version category bytes g f.0 f.1)
one_id_fault category bytes OperatorWithoutVersion b f g p q = absurd f
one_id_fault category bytes VersionWithoutOperator b f g p q = absurd f
one_id_fault category bytes BadStar b f g p q = absurd f
one_id_fault category bytes BadSlot b f g p q = absurd f
one_id_fault category bytes (BadUse m) b f g p q = absurd f
one_id_fault category bytes a OperatorWithoutVersion f g p q = absurd g
one_id_fault category bytes a VersionWithoutOperator f g p q = absurd g
one_id_fault category bytes a BadStar f g p q = absurd g
one_id_fault category bytes a BadSlot f g p q = absurd g
one_id_fault category bytes a (BadUse n) f g p q = absurd g

-- a package's text is a name, a hyphen and a readable version
pub versioned : (bytes : List ℕ) (id : PackageId) → IsId id → bytes ≡ name_and_version id → PackageThen IsReadableText bytes
versioned bytes id is k = (id.name.«package», spelling id.version, is.«package», (id.version, is.version, refl), k)

named_well : (category bytes : List ℕ) (id : PackageId) → IsId id → category ≡ id.name.category → bytes ≡ name_and_version id → (IsName Category category → ⊥) ⊎ HasNoPackage bytes → ⊥
named_well category bytes id is e k (inl none) = none (subst (IsName Category) (sym e) is.category)
named_well category bytes id is e k (inr f) = f.not_numbered (weaken_package IsReadableText BeginsNumber bytes to_number (versioned bytes id is k))

-- behind a category the first fault is that of the rest
pub id_fault : (category bytes : List ℕ) (fault : AtomFault) → IsName Category category → PackageFault bytes fault → FirstIdFault category bytes fault
id_fault category bytes Name named f = inr f
id_fault category bytes Version named f = (named, f)
id_fault category bytes OperatorWithoutVersion named f = absurd f
id_fault category bytes VersionWithoutOperator named f = absurd f
id_fault category bytes BadStar named f = absurd f
id_fault category bytes BadSlot named f = absurd f
id_fault category bytes (BadUse m) named f = absurd f
id_fault category bytes Memory named f = absurd f

pub no_id_fault : (category bytes : List ℕ) (a : AtomFault) (id : PackageId) → IsId id → category ≡ id.name.category → bytes ≡ name_and_version id → FirstIdFault category bytes a → a ≡ Memory
no_id_fault category bytes Name id is e k f = absurd (named_well category bytes id is e k f)
no_id_fault category bytes Version id is e k f = absurd (f.1.unversioned (versioned bytes id is k))
no_id_fault category bytes OperatorWithoutVersion id is e k f = absurd f
no_id_fault category bytes VersionWithoutOperator id is e k f = absurd f
no_id_fault category bytes BadStar id is e k f = absurd f
no_id_fault category bytes BadSlot id is e k f = absurd f
no_id_fault category bytes (BadUse m) id is e k f = absurd f
no_id_fault category bytes Memory id is e k f = refl

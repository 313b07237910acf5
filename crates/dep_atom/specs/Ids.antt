-- A package of one version, as its category and its name with the version (PMS 3.2).
use Rattle.std.specs.Prelude.{◌≡◌, ℕ, ◌+◌, ◌<◌, ◌⊎◌, List, ◌∷◌, ◌++◌, length, drop, slice_index, ⊤}
use Rattle.std.specs.Cmp.Lexicographic.{slice_cmp}
use Rattle.std.specs.Ordering.{nat_cmp, ordering_then}
use Rattle.std.specs.declared.cmp.Ordering.{Ordering}
use Rattle.pms_grammar.specs.Grammar.{IsVersionText, spelling}
use Rattle.pms_version.specs.Keys.{key_cmp}
use Rattle.pms_version.specs.Limits.{IsReadable}
use Rattle.pms_names.specs.Names.{IsName}
use Rattle.pms_names.specs.declared.kind.Kind.TheVariants.{Category, Package}
use Rattle.pms_names.specs.declared.fault.NameFault.{NameFault}
use Rattle.pms_names.specs.declared.fault.NameFault.TheVariants as names
use Rattle.dep_atom.specs.declared.fault.AtomFault.{AtomFault}
use Rattle.dep_atom.specs.declared.fault.AtomFault.TheVariants.{Name, Version, Memory}
use Rattle.dep_atom.specs.declared.package.PackageId.{PackageId}
use Rattle.dep_atom.specs.Naming.{BeginsNumber, IsReadableText, PackageThen}

-- the names are names, and the version is within the limits of one
pub record IsId (id : PackageId) : Type 0 where
  pub category : IsName Category id.name.category
  pub «package» : IsName Package id.name.«package»
  pub version : IsReadable id.version

-- the package's name, a hyphen and the version
abbrev pub name_and_version : PackageId → List ℕ
name_and_version id = id.name.«package» ++ (45 ∷ spelling id.version)

-- `category/package-version`, the one text of the package
abbrev pub id_text : PackageId → List ℕ
id_text id = id.name.category ++ (47 ∷ name_and_version id)

-- no package has this text
abbrev pub IsNoId : List ℕ → Type 0
IsNoId text = (id : PackageId) → IsId id → ¬ (text ≡ id_text id)

-- this package has the text, and no other
pub record IsIdOf (text : List ℕ) (id : PackageId) : Type 0 where
  pub is : IsId id
  pub named : text ≡ id_text id
  pub only : (other : PackageId) → IsId other → text ≡ id_text other → other ≡ id

-- the order of packages by their versions, the greater first, and of equal ones by their texts
abbrev pub version_rank : PackageId → PackageId → Ordering
version_rank a b = ordering_then (key_cmp b.version a.version)
    (slice_cmp nat_cmp (spelling a.version) (spelling b.version))

-- a hyphen stands at `at`, and a version and nothing more behind it
pub record PartsAt (bytes : List ℕ) (at : ℕ) : Type 0 where
  pub within : at < length bytes
  pub hyphen : slice_index bytes at ≡ 45
  pub version : IsVersionText (drop (at + 1) bytes)

-- a fault of a name, in an atom
abbrev pub name_fault : NameFault → AtomFault
name_fault names.Empty = Name
name_fault (names.BadChar at) = Name
name_fault names.BadStart = Name
name_fault names.EndsLikeVersion = Name
name_fault names.TooLong = Name
name_fault names.Memory = Memory

-- neither a package's name alone nor one with a hyphen and a digit begins the text
pub record HasNoPackage (bytes : List ℕ) : Type 0 where
  pub not_alone : ¬ IsName Package bytes
  pub not_numbered : ¬ PackageThen BeginsNumber bytes

-- a package's name alone, or one with a hyphen and a digit, begins the text, but no version within
-- the limits stands behind it
pub record HasNoVersion (bytes : List ℕ) : Type 0 where
  pub named : IsName Package bytes ⊎ PackageThen BeginsNumber bytes
  pub unversioned : ¬ PackageThen IsReadableText bytes

-- the first fault of a text that is to be a package's name with a version
abbrev pub PackageFault : List ℕ → AtomFault → Type 0
PackageFault bytes Name = HasNoPackage bytes
PackageFault bytes Version = HasNoVersion bytes
PackageFault bytes _ = ⊥

-- the first fault of a category and a name with a version, from left to right
abbrev pub FirstIdFault : List ℕ → List ℕ → AtomFault → Type 0
FirstIdFault category bytes Name = (¬ IsName Category category) ⊎ HasNoPackage bytes
FirstIdFault category bytes Version = IsName Category category × HasNoVersion bytes
FirstIdFault category bytes Memory = ⊤
FirstIdFault category bytes _ = ⊥

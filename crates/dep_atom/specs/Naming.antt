-- The words in which a package's name and version, and their faults, are told.
use Rattle.std.specs.Prelude.{◌≡◌, ℕ, ◌+◌, ◌<◌, true, List, ◌∷◌, ◌++◌, length, take, drop, slice_index}
use Rattle.basics.specs.Bytes.{is_digit}
use Rattle.pms_grammar.specs.Grammar.{VersionValue, spelling}
use Rattle.pms_version.specs.Limits.{IsReadable}
use Rattle.pms_names.specs.Names.{IsName}
use Rattle.pms_names.specs.declared.kind.Kind.TheVariants as kinds
use Rattle.pms_names.specs.declared.name.Name.{Name}
use Rattle.dep_atom.specs.Form.{IsNameForm}
use Rattle.dep_atom.specs.Text.{name_text}

-- the text begins with the category and a slash, and the rest stands behind it
pub record IsInCategory (text category rest : List ℕ) : Type 0 where
  pub named : IsName kinds.Category category
  pub whole : text ≡ category ++ (47 ∷ rest)

-- the text is a category, a slash and a package's name
abbrev pub IsNameText : List ℕ → Type 0
IsNameText text = (n : Name) × IsNameForm n × (text ≡ name_text n)

-- the text is a category, a slash, a package's name, a hyphen, and then what P says
abbrev pub NameThen : (List ℕ → Type 0) → List ℕ → Type 0
NameThen P text =
    (n : Name) × (rest : List ℕ) × IsNameForm n × P rest × (text ≡ name_text n ++ (45 ∷ rest))

-- the text is a package's name, a hyphen, and then what P says
abbrev pub PackageThen : (List ℕ → Type 0) → List ℕ → Type 0
PackageThen P text =
    (name : List ℕ) × (rest : List ℕ) × IsName kinds.Package name × P rest ×
    (text ≡ name ++ (45 ∷ rest))

-- the text is a version within the limits
abbrev pub IsReadableText : List ℕ → Type 0
IsReadableText text = (p : VersionValue) × IsReadable p × (text ≡ spelling p)

-- the text is this package's name, a hyphen and this version
abbrev pub IsPackageVersion : List ℕ → List ℕ → VersionValue → Type 0
IsPackageVersion text name version =
    IsName kinds.Package name × IsReadable version × (text ≡ name ++ (45 ∷ spelling version))

-- the text is this name, a hyphen and this version
abbrev pub IsNameVersion : List ℕ → Name → VersionValue → Type 0
IsNameVersion text name version =
    IsNameForm name × IsReadable version × (text ≡ name_text name ++ (45 ∷ spelling version))

-- the text begins with no category and slash
abbrev pub HasNoCategory : List ℕ → Type 0
HasNoCategory text = (category rest : List ℕ) → ¬ IsInCategory text category rest

-- the text begins with a digit, as each version does
abbrev pub BeginsNumber : List ℕ → Type 0
BeginsNumber text = is_digit (slice_index text 0) ≡ true

-- the hyphen at `at` stands between a package's name and a digit
pub record IsNumberAt (text : List ℕ) (at : ℕ) : Type 0 where
  pub within : at < length text
  pub hyphen : slice_index text at ≡ 45
  pub number : BeginsNumber (drop (at + 1) text)
  pub named : IsName kinds.Package (take at text)

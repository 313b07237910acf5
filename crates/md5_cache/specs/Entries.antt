-- The entry of a package, and what the pairs of its text tell of it (PMS 14.3).
use Rattle.std.specs.Prelude.{◌≡◌, ℕ, Bool, List, [], codes, if◌then◌else◌, unwrap_or}
use Rattle.pms_names.specs.Flags.{has}
use Rattle.dep_atom.specs.declared.package.Facts.{Facts}
use Rattle.dep_atom.specs.declared.package.PackageId.{PackageId}
use Rattle.dep_group.specs.Words.{words_of}
use Rattle.dep_tree.specs.Texts.{Dependencies}
use Rattle.dep_tree.specs.Texts as dependencies
use Rattle.required_use.specs.Texts as expressions
use Rattle.pms_slot.specs.Slots.{IsSlotValue}
use Rattle.use_flags.specs.Items.{last_is_on, names_flag}
use Rattle.use_flags.specs.Words.{words}
use Rattle.pkg_state.specs.Package.{Package, class_word}
use Rattle.pkg_state.specs.Eapis.{empty_holds, has_class}
use Rattle.pkg_state.specs.declared.class.Class.{Class}
use Rattle.pkg_state.specs.declared.class.Class.TheVariants.{Rdepend, Pdepend, Depend, Bdepend, Idepend}
use Rattle.pkg_state.specs.declared.eapi.Eapi.{Eapi}
use Rattle.md5_cache.specs.Fields.{IsOfEdition, value_under}
use Rattle.md5_cache.specs.declared.pair.Pair.{Pair}

pub record CacheEntryValue : Type 0 where
  pub package_is : Package
  pub on : List (List ℕ)
  pub keywords : List (List ℕ)

-- the value of a key, which is empty where the key is absent
abbrev pub value_of : List Pair → List ℕ → List ℕ
value_of pairs key = unwrap_or (value_under pairs key) []

-- the items of IUSE
abbrev pub items_of : List Pair → List (List ℕ)
items_of pairs = words (value_of pairs (codes "IUSE"))

-- a set has just the flags of which this is true
abbrev pub HasJust : List (List ℕ) → (List ℕ → Bool) → Type 0
HasJust set is = (flag : List ℕ) → has set flag ≡ is flag

-- what the package is called and which flags it knows; none of them is on yet
pub record TellsFacts (pairs : List Pair) (id : PackageId) (facts : Facts) : Type 0 where
  pub named : facts.id ≡ id
  pub slots : IsSlotValue (value_of pairs (codes "SLOT")) facts.slot facts.subslot
  pub known : HasJust facts.iuse (names_flag (items_of pairs))
  pub none_on : facts.enabled ≡ []

-- the text of a class of dependencies, which is empty where the edition lacks the class
abbrev pub needs_text : List Pair → Eapi → Class → List ℕ
needs_text pairs e class = if has_class e class then value_of pairs (class_word class) else []

-- in an entry of the edition the class has these dependencies
abbrev pub Needs : List Pair → Eapi → Class → Dependencies → Type 0
Needs pairs e class needs = dependencies.Writes (empty_holds e) (needs_text pairs e class) needs

-- what the package needs, and what it asks of its flags, in the edition that is said
pub record TellsNeeds (pairs : List Pair) (p : Package) : Type 0 where
  pub edition : IsOfEdition pairs p.eapi
  pub rdepend : Needs pairs p.eapi Rdepend p.rdepend
  pub pdepend : Needs pairs p.eapi Pdepend p.pdepend
  pub depend : Needs pairs p.eapi Depend p.depend
  pub bdepend : Needs pairs p.eapi Bdepend p.bdepend
  pub idepend : Needs pairs p.eapi Idepend p.idepend
  pub required :
      expressions.Writes (empty_holds p.eapi) (value_of pairs (codes "REQUIRED_USE")) p.required

-- the pairs tell this entry of the package with this id
pub record Tells (pairs : List Pair) (id : PackageId) (e : CacheEntryValue) : Type 0 where
  pub facts : TellsFacts pairs id e.package_is.facts
  pub needs : TellsNeeds pairs e.package_is
  pub on : HasJust e.on (last_is_on (items_of pairs))
  pub keywords : e.keywords ≡ words_of (value_of pairs (codes "KEYWORDS"))

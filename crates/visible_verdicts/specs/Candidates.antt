-- The candidates of the repository: which packages they are, what is told of each, and in which
-- order (PMS 14.2, 14.3).
use Rattle.std.specs.Prelude.{◌≡◌, ◌++◌, ℕ, List, ◌∷◌, Option, None, Some, IsSome, codes, map}
use Rattle.std.specs.Cmp.Lexicographic.{slice_cmp}
use Rattle.std.specs.List.{AllByRecursion, filter_map}
use Rattle.std.specs.List.Sorted.{IsStrictlySortedBy}
use Rattle.std.specs.Ordering.{nat_cmp, ordering_then}
use Rattle.std.specs.declared.cmp.Ordering.{Ordering}
use Rattle.basics.specs.Members.{Has}
use Rattle.pms_grammar.specs.Grammar.{spelling}
use Rattle.pms_version.specs.Order.{version_cmp}
use Rattle.dep_atom.specs.Ids.{IsId, id_text}
use Rattle.dep_atom.specs.Text.{name_text}
use Rattle.dep_atom.specs.declared.package.PackageId.{PackageId}
use Rattle.file_tree.specs.Disk.{Map}
use Rattle.file_tree.specs.ObjectValue.{ObjectValue}
use Rattle.file_tree.specs.declared.objects.Kind.{Kind}
use Rattle.file_tree.specs.declared.objects.Kind.TheVariants.{Exec, Link, Plain}
use Rattle.md5_cache.specs.Entries.{CacheEntryValue}
use Rattle.visible_verdicts.specs.Verdicts.{IsReason, IsVisible}
use Rattle.visible_verdicts.specs.declared.rules.VisibleRules.{VisibleRules}
use Rattle.visible_verdicts.specs.declared.verdict.Hidden.{Hidden}
use Rattle.visible_verdicts.specs.declared.verdict.Verdict.{Verdict}
use Rattle.visible_verdicts.specs.declared.verdict.Verdict.TheVariants as verdicts

-- the folder of the cache
unfoldable pub cache_folder : List ℕ
cache_folder = codes "var/db/repos/gentoo/metadata/md5-cache"

-- the entry of a package
unfoldable pub cache_path : PackageId → List ℕ
cache_path id = codes "var/db/repos/gentoo/metadata/md5-cache/" ++ id_text id

-- the name of its ebuild
abbrev pub ebuild_name : PackageId → List ℕ
ebuild_name id = id.name.«package» ++ (45 ∷ (spelling id.version ++ codes ".ebuild"))

-- its ebuild
unfoldable pub ebuild_path : PackageId → List ℕ
ebuild_path id = codes "var/db/repos/gentoo/" ++
    (id.name.category ++ (47 ∷ (id.name.«package» ++ (47 ∷ ebuild_name id))))

-- the bytes of an object of this kind, if it is a file; a link is none
abbrev pub bytes_if : Kind → List ℕ → Option (List ℕ)
bytes_if Plain bytes = Some bytes
bytes_if Exec bytes = Some bytes
bytes_if Link bytes = None

abbrev pub bytes_of : Option ObjectValue → Option (List ℕ)
bytes_of None = None
bytes_of (Some x) = bytes_if x.kind x.bytes

-- the text of the package's entry, if it has one
abbrev pub entry_text : Map → PackageId → Option (List ℕ)
entry_text m id = bytes_of (m (cache_path id))

-- the text of its ebuild, if it has one
abbrev pub ebuild_text : Map → PackageId → Option (List ℕ)
ebuild_text m id = bytes_of (m (ebuild_path id))

-- a package with an entry
pub record IsCandidate (m : Map) (id : PackageId) : Type 0 where
  pub is : IsId id
  pub there : IsSome (entry_text m id)

-- the package of a verdict
abbrev pub id_of : Verdict → PackageId
id_of (verdicts.Visible e) = e.package_is.facts.id
id_of (verdicts.Hidden h) = h.id

-- the verdict on a package with this entry and ebuild
abbrev pub IsJudged : VisibleRules → PackageId → List ℕ → Option (List ℕ) → Verdict → Type 0
IsJudged rules id bytes ebuild (verdicts.Visible e) = IsVisible rules id bytes ebuild e
IsJudged rules id bytes ebuild (verdicts.Hidden h) = IsReason rules id bytes ebuild h.reason

-- the verdict on a candidate
pub record IsVerdict (m : Map) (rules : VisibleRules) (v : Verdict) : Type 0 where
  pub is : IsId (id_of v)
  pub bytes : List ℕ
  pub there : entry_text m (id_of v) ≡ Some bytes
  pub judged : IsJudged rules (id_of v) bytes (ebuild_text m (id_of v)) v

-- which of two packages comes first: the one of the name that is the smaller text in bytes, then
-- the one of the greater version, and of equal versions that of the smaller text
abbrev pub id_cmp : PackageId → PackageId → Ordering
id_cmp a b = ordering_then (slice_cmp nat_cmp (name_text a.name) (name_text b.name))
    (ordering_then (version_cmp b.version a.version)
    (slice_cmp nat_cmp (spelling a.version) (spelling b.version)))

-- the entry of a visible candidate, and the reason for another one
abbrev pub visible_of : Verdict → Option CacheEntryValue
visible_of (verdicts.Visible e) = Some e
visible_of (verdicts.Hidden h) = None

abbrev pub hidden_of : Verdict → Option Hidden
hidden_of (verdicts.Visible e) = None
hidden_of (verdicts.Hidden h) = Some h

-- a verdict on each candidate, in their order, parted into those that are visible and the others
pub record AreCandidates (m : Map) (rules : VisibleRules) (visible : List CacheEntryValue)
    (hidden : List Hidden) : Type 0 where
  pub verdicts : List Verdict
  pub each : AllByRecursion (IsVerdict m rules) verdicts
  pub all : (id : PackageId) → IsCandidate m id → Has (map id_of verdicts) id
  pub ordered : IsStrictlySortedBy id_cmp (map id_of verdicts)
  pub visible_are : visible ≡ filter_map visible_of verdicts
  pub hidden_are : hidden ≡ filter_map hidden_of verdicts

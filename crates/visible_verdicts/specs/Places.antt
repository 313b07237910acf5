-- How the candidates are found among the paths of the cache, put in order, and judged one by one.
use Rattle.std.specs.Prelude.{◌≡◌, ℕ, Bool, List, filter, is_some, map}
use Rattle.std.specs.Cmp.Lexicographic.{slice_cmp}
use Rattle.std.specs.List.{AllByRecursion, IsDistinct, filter_map}
use Rattle.std.specs.Ordering.{eq_by_cmp, nat_cmp, ordering_then}
use Rattle.std.specs.declared.cmp.Ordering.{Ordering}
use Rattle.basics.specs.Members.{Has}
use Rattle.dep_atom.specs.Ids.{IsId, version_rank}
use Rattle.dep_atom.specs.Text.{name_text}
use Rattle.dep_atom.specs.declared.package.PackageId.{PackageId}
use Rattle.file_tree.specs.Disk.{Map}
use Rattle.md5_cache.specs.Entries.{CacheEntryValue}
use Rattle.visible_verdicts.specs.Candidates.{IsVerdict, cache_path, entry_text, hidden_of, id_of, visible_of}
use Rattle.visible_verdicts.specs.declared.place.Place.{Place}
use Rattle.visible_verdicts.specs.declared.rules.VisibleRules.{VisibleRules}
use Rattle.visible_verdicts.specs.declared.verdict.Hidden.{Hidden}
use Rattle.visible_verdicts.specs.declared.verdict.Verdict.{Verdict}

-- the place is that of a package, with the text of its name
pub record IsPlace (p : Place) : Type 0 where
  pub is : IsId p.id
  pub name : p.name ≡ name_text p.id.name

-- and the path is that of its entry, and of no other
pub record IsPlaceAt (path : List ℕ) (p : Place) : Type 0 where
  pub place : IsPlace p
  pub at_path : path ≡ cache_path p.id
  pub only : (id : PackageId) → IsId id → path ≡ cache_path id → id ≡ p.id

-- the path is that of no entry
abbrev pub IsNoPlace : List ℕ → Type 0
IsNoPlace path = (id : PackageId) → IsId id → ¬ (path ≡ cache_path id)

-- the order of places; it goes by the keys of versions, and unlike that by versions it is total
abbrev pub place_cmp : Place → Place → Ordering
place_cmp p q = ordering_then (slice_cmp nat_cmp p.name q.name) (version_rank p.id q.id)

abbrev pub ids_of : List Place → List PackageId
ids_of places = map (λ p. p.id) places

-- the places are those of these paths, each once
pub record ArePlaces (paths : List (List ℕ)) (places : List Place) : Type 0 where
  pub each : (p : Place) → Has places p → IsPlace p × Has paths (cache_path p.id)
  pub found : (id : PackageId) → IsId id → Has paths (cache_path id) → Has (ids_of places) id
  pub once : IsDistinct (eq_by_cmp place_cmp) places

-- the package has an entry
abbrev pub has_entry : Map → PackageId → Bool
has_entry m id = is_some (entry_text m id)

-- the verdicts on those of the packages that have an entry, parted
pub record AreJudged (m : Map) (rules : VisibleRules) (ids : List PackageId)
    (visible : List CacheEntryValue) (hidden : List Hidden) : Type 0 where
  pub verdicts : List Verdict
  pub each : AllByRecursion (IsVerdict m rules) verdicts
  pub those : map id_of verdicts ≡ filter (has_entry m) ids
  pub visible_are : visible ≡ filter_map visible_of verdicts
  pub hidden_are : hidden ≡ filter_map hidden_of verdicts

-- the verdict on this package
pub record IsVerdictOn (m : Map) (rules : VisibleRules) (id : PackageId)
    (v : Verdict) : Type 0 where
  pub named : id_of v ≡ id
  pub is : IsVerdict m rules v

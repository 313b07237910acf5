-- Why pairs are none of an entry.
use Rattle.std.specs.Prelude.{◌≡◌, ◌⊎◌, ℕ, List, ◌∷◌, ◌++◌, None, Some, codes, ⊤}
use Rattle.std.specs.List.{AllByRecursion}
use Rattle.pkg_state.specs.Eapis.{IsNoEapi}
use Rattle.pkg_state.specs.declared.eapi.Eapi.{Eapi as Edition}
use Rattle.md5_cache.specs.Fields.{IsGood, IsOfEdition, first_absent, value_under}
use Rattle.md5_cache.specs.declared.fault.FieldFault.{FieldFault}
use Rattle.md5_cache.specs.declared.fault.FieldFault.TheVariants.{Eapi, Field, Memory}
use Rattle.md5_cache.specs.declared.pair.Pair.{Pair}

-- EAPI has this text, which is that of no edition that is read
pub record IsOther (pairs : List Pair) (text : List ℕ) : Type 0 where
  pub there : value_under pairs (codes "EAPI") ≡ Some text
  pub other : IsNoEapi text

-- where EAPI is there, it is an edition that is read
abbrev pub HasNoOther : List Pair → Type 0
HasNoOther pairs = (text : List ℕ) → ¬ IsOther pairs text

-- in an entry of the edition the first pair whose value isn't in form has the key
pub record IsFirstBad (e : Edition) (pairs : List Pair) (key : List ℕ) : Type 0 where
  pub front : List Pair
  pub bad : Pair
  pub rest : List Pair
  pub place : pairs ≡ front ++ (bad ∷ rest)
  pub good : AllByRecursion (IsGood e) front
  pub wrong : ¬ IsGood e bad
  pub named : key ≡ bad.key

-- the first fault of the pairs; memory may run out on any pairs
abbrev pub FirstFieldFault : List Pair → FieldFault → Type 0
FirstFieldFault pairs (Eapi text) = IsOther pairs text
FirstFieldFault pairs (Field key) =
    HasNoOther pairs × ((first_absent pairs ≡ Some key) ⊎
    ((first_absent pairs ≡ None) × ((e : Edition) × IsOfEdition pairs e × IsFirstBad e pairs key)))
FirstFieldFault pairs Memory = ⊤

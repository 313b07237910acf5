-- A visible candidate as packages: one for each setting of its flags that may be chosen.
use Rattle.std.specs.Prelude.{◌≡◌, ℕ, Bool, false, true, List, [], ◌∷◌}
use Rattle.std.specs.List.{AllZip}
use Rattle.visible_flags.specs.Variants.{Setting}
use Rattle.md5_cache.specs.Entries.{CacheEntryValue}
use Rattle.pkg_state.specs.Package.{Package, with_enabled}
use Rattle.pms_names.specs.Flags.{IsRising, has}
use Rattle.visible_offers.specs.Flags.{FlagConfigValue, settings_of}
use Rattle.visible_offers.specs.declared.candidate.Candidate.{Candidate}

-- the package with just the flags of the setting on
pub record HasOn (p : Package) (setting : Setting) (q : Package) : Type 0 where
  pub on : List (List ℕ)
  pub rising : IsRising on
  pub just : (flag : List ℕ) → has on flag ≡ setting flag
  pub is : q ≡ with_enabled on p

-- the candidate of the entry: its package with the implicit flags alone, and a package for each of
-- the settings that may be chosen, in their order
pub record IsOffered (c : FlagConfigValue) (flips : ℕ) (e : CacheEntryValue) (one : Candidate) :
    Type 0 where
  pub bare : one.offered ≡ with_enabled c.implicit e.package_is
  pub each : AllZip (HasOn e.package_is) (settings_of c e flips) one.variants.items

-- some setting may be chosen
abbrev pub has_variant : Candidate → Bool
has_variant one = is_some_of one.variants.items where
  is_some_of : List Package → Bool
  is_some_of [] = false
  is_some_of (p ∷ ps) = true

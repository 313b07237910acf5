-- The flags of a candidate: which are on, and which settings of them may be chosen.
use Rattle.std.specs.Prelude.{◌≡◌, ◌↔◌, ◌+◌, ℕ, Bool, true, ◌&&◌, ◌||◌, not, List, filter, fold}
use Rattle.dep_atom.specs.declared.package.Facts.{Facts}
use Rattle.pms_names.specs.Flags.{has}
use Rattle.pms_names.specs.Names.{IsName}
use Rattle.pms_names.specs.declared.kind.Kind.TheVariants.{Flag}
use Rattle.use_flags.specs.Changes.{has_after}
use Rattle.profile_lines.specs.declared.item.Item.{Item}
use Rattle.visible_flags.specs.Variants.{Setting, lists_below, settings}
use Rattle.visible_rules.specs.Items.{changes_for, is_turned_on}
use Rattle.config_vars.specs.declared.vars.FileVars.{FileVars}
use Rattle.md5_cache.specs.Entries.{CacheEntryValue}
use Rattle.visible_offers.specs.Words.{after_words, implicit_texts}
use Rattle.visible_offers.specs.declared.word.FlagWord.{FlagWord}

-- what the configuration says of flags: the words of the profile's variables and the rules of its
-- `package.use`, those of `make.conf` and of the user's, the items of flags that are forced and of
-- those that are masked, and the implicit flags, which are on for all packages
pub record FlagConfigValue : Type 0 where
  pub defaults : List FlagWord
  pub profile_uses : List Item
  pub conf : List FlagWord
  pub uses : List Item
  pub forces : List Item
  pub masks : List Item
  pub implicit : List (List ℕ)

-- just the texts of implicit flags that are names of flags, as all are where the values are good
abbrev pub AreImplicit : List FileVars → List (List ℕ) → Type 0
AreImplicit files flags = (flag : List ℕ) → (has flags flag ≡ true) ↔
    (IsName Flag flag × (has (implicit_texts files) flag ≡ true))

-- whether a flag that was on or off is on behind the items that count for the package
abbrev pub after_items : Facts → List Item → List ℕ → Bool → Bool
after_items facts items flag had =
    fold (λ on changes. has_after changes flag on) had (changes_for facts items)

-- whether a flag that is on or off by default is on behind all that is configured: first the
-- profile's variables count, then its `package.use`, then `make.conf`, then the user's
-- `package.use`
abbrev pub is_configured : FlagConfigValue → Facts → List ℕ → Bool → Bool
is_configured c facts flag on =
    after_items facts c.uses flag (after_words c.conf flag
    (after_items facts c.profile_uses flag (after_words c.defaults flag on)))

abbrev pub is_forced : FlagConfigValue → Facts → List ℕ → Bool
is_forced c facts flag = is_turned_on (changes_for facts c.forces) flag

abbrev pub is_masked : FlagConfigValue → Facts → List ℕ → Bool
is_masked c facts flag = is_turned_on (changes_for facts c.masks) flag

-- the flags that are on where nobody chooses otherwise: the implicit ones, and those of IUSE that
-- the configuration turns on or forces, unless it masks them
abbrev pub is_base : FlagConfigValue → CacheEntryValue → Setting
is_base c e flag =
    has c.implicit flag || (has e.package_is.facts.iuse flag
    && (not (is_masked c e.package_is.facts flag) && (is_forced c e.package_is.facts flag
    || is_configured c e.package_is.facts flag (has e.on flag))))

-- the flags that may be flipped: those that aren't forced, masked or implicit
abbrev pub is_free : FlagConfigValue → Facts → List ℕ → Bool
is_free c facts flag =
    not (is_forced c facts flag || (is_masked c facts flag || has c.implicit flag))

-- the settings that may be chosen, where at most so many flags of IUSE may be flipped: the base
-- setting comes first, and none for which REQUIRED_USE is false
abbrev pub settings_of : FlagConfigValue → CacheEntryValue → ℕ → List Setting
settings_of c e flips =
    settings e.package_is.required (is_base c e)
    (lists_below (flips + 1) (filter (is_free c e.package_is.facts) e.package_is.facts.iuse))

-- The offers of a tree: its visible candidates, each with the packages that may come of it, and why
-- the others are hidden.
use Rattle.std.specs.Prelude.{◌≡◌, ◌≤◌, ◌++◌, ℕ, List, filter, length, map, not}
use Rattle.std.specs.List.{AllZip}
use Rattle.config_vars.specs.Judged.{AreGood}
use Rattle.file_tree.specs.Disk.{Map}
use Rattle.md5_cache.specs.Entries.{CacheEntryValue}
use Rattle.visible_verdicts.specs.Candidates.{AreCandidates}
use Rattle.visible_verdicts.specs.declared.rules.VisibleRules.{VisibleRules}
use Rattle.visible_verdicts.specs.declared.verdict.Hidden.{Hidden as KeptBack}
use Rattle.visible_offers.specs.Flags.{FlagConfigValue}
use Rattle.visible_offers.specs.Offered.{IsOffered, has_variant}
use Rattle.visible_offers.specs.declared.candidate.Candidate.{Candidate}
use Rattle.visible_set.specs.Configured.{DecidesFlags, DecidesVisible, IsSetup, Setup}
use Rattle.visible_set.specs.declared.offers.Hidden.{Hidden}
use Rattle.visible_set.specs.declared.offers.Reason.TheVariants.{NotVisible, RequiredUse}

-- so many candidates are visible at most
abbrev pub most_candidates : ℕ
most_candidates = 131072

-- by what is set up these candidates are visible, and the others are kept back
pub record AreJudged (m : Map) (s : Setup) (visible : List CacheEntryValue)
    (others : List KeptBack) : Type 0 where
  pub rules : VisibleRules
  pub decides : DecidesVisible s rules
  pub are : AreCandidates m rules visible others

-- one that is kept back, with its reason
abbrev pub kept_back : KeptBack → Hidden
kept_back h = record { id = h.id; reason = NotVisible h.reason }

-- one whose REQUIRED_USE refuses each setting
abbrev pub refused : Candidate → Hidden
refused c = record { id = c.offered.facts.id; reason = RequiredUse }

-- of the visible candidates, in their order, those of which some setting may be chosen; hidden are
-- the others, and then those of which none may
pub record AreTried (flags : FlagConfigValue) (flips : ℕ) (visible : List CacheEntryValue)
    (others : List KeptBack) (candidates : List Candidate) (hidden : List Hidden) : Type 0 where
  pub tried : List Candidate
  pub each : AllZip (IsOffered flags flips) visible tried
  pub candidates_are : candidates ≡ filter has_variant tried
  pub hidden_are :
      hidden ≡ map kept_back others ++ map refused (filter (λ c. not (has_variant c)) tried)

-- the offers of what is set up: where the values of its variables are good, those of the visible
-- candidates, of which there aren't too many
pub record AreOffersOf (m : Map) (s : Setup) (flips : ℕ) (implicit : List (List ℕ))
    (candidates : List Candidate) (hidden : List Hidden) : Type 0 where
  pub good : AreGood s.files
  pub visible : List CacheEntryValue
  pub others : List KeptBack
  pub judged : AreJudged m s visible others
  pub few : length visible ≤ most_candidates
  pub flags : FlagConfigValue
  pub decides : DecidesFlags s flags
  pub implicit_are : implicit ≡ flags.implicit
  pub tried : AreTried flags flips visible others candidates hidden

-- the offers of a tree: those of what its configuration sets up
pub record AreOffers (m : Map) (flips : ℕ) (implicit : List (List ℕ)) (candidates : List Candidate)
    (hidden : List Hidden) : Type 0 where
  pub setup : Setup
  pub is : IsSetup m setup
  pub offers : AreOffersOf m setup flips implicit candidates hidden

-- The offers of the lines while packages are put there one by one.
use Rattle.std.specs.Prelude.{◌≡◌, ◌||◌, ℕ, List, Option, is_some}
use Rattle.std.specs.BTreeMap.{is_at}
use Rattle.std.specs.Map.{keys_of, lookup}
use Rattle.std.specs.Option.{option_map_or}
use Rattle.pms_names.specs.Flags.{IsRising, byte_order, has}
use Rattle.pkg_state.specs.Package.{Package, lines_of}
use Rattle.choice_law.specs.Universe.{Offer, no_offer}
use Rattle.choice_tree.specs.Views.{offer_of}
use Rattle.choice_tree.specs.declared.universe.Offer.{Offer as TheOffer}
use Rattle.choice_universe.specs.Offers.{offer_on}

abbrev pub Entries : Type 0
Entries = List (List ℕ × TheOffer)

-- what is kept of the line, if anything
abbrev pub found : Entries → List ℕ → Option TheOffer
found entries line = lookup (is_at (byte_order line)) entries

abbrev pub offer_found : Option TheOffer → Offer
offer_found o = option_map_or offer_of o no_offer

-- the lines of these packages are there, in line order, each with what is offered on it
pub record IsFilled (installed variants : List Package) (entries : Entries) : Type 0 where
  pub rising : IsRising (keys_of entries)
  pub those : (line : List ℕ) →
      is_some (found entries line) ≡ (has (lines_of installed) line || has (lines_of variants) line)
  pub each : (line : List ℕ) →
      offer_found (found entries line) ≡ offer_on installed variants line

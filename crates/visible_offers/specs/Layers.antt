-- How what is said of the flags of a candidate becomes layers of changes.
use Rattle.std.specs.Prelude.{◌+◌, ◌&&◌, ◌||◌, ◌++◌, ℕ, Bool, not, List, [], ◌∷◌, filter, fold, if◌then◌else◌}
use Rattle.std.specs.List.{flat_map}
use Rattle.std.specs.Option.{option_map_or}
use Rattle.dep_atom.specs.declared.package.Facts.{Facts}
use Rattle.pms_names.specs.Flags.{has}
use Rattle.profile_lines.specs.declared.item.Item.{Item}
use Rattle.required_use.specs.Texts.{Expressions}
use Rattle.use_flags.specs.Changes.{has_after}
use Rattle.use_flags.specs.declared.change.Change.{Change}
use Rattle.use_flags.specs.declared.change.Change.TheVariants.{Add, Take}
use Rattle.visible_flags.specs.Variants.{Setting, lists_below, settings}
use Rattle.visible_rules.specs.Items.{changes_for}
use Rattle.visible_offers.specs.Words.{said}
use Rattle.visible_offers.specs.declared.word.FlagWord.{FlagWord}

-- the change that puts the flag on or off, if it is told which
abbrev pub change_to : List ℕ → Bool → Change
change_to flag on = if on then Add flag else Take flag

-- the change of the flag that the words say, if they speak of it
abbrev pub change_said : List FlagWord → List ℕ → List Change
change_said words flag = option_map_or (λ on. change_to flag on ∷ []) (said words flag) []

-- those of these flags, flag by flag
abbrev pub changes_by : List FlagWord → List (List ℕ) → List Change
changes_by words flags = flat_map (change_said words) flags

-- the layers of changes for a package: the two given ones, with those of the items behind each
abbrev pub layers_of : Facts → List Change → List Item → List Change → List Item →
    List (List Change)
layers_of facts defaults profile_uses conf uses =
    (defaults ∷ changes_for facts profile_uses) ++ (conf ∷ changes_for facts uses)

-- whether a flag that was on or off is on behind the layers
abbrev pub after_all : List (List Change) → List ℕ → Bool → Bool
after_all layers flag had = fold (λ on changes. has_after changes flag on) had layers

-- which flags are on where nobody chooses otherwise, by the layers, and by which are forced, masked
-- and implicit
abbrev pub base_by : List (List Change) → List (List ℕ) → List (List ℕ) → List (List ℕ) →
    List (List ℕ) → List (List ℕ) → Setting
base_by layers forced masked implicit known on flag =
    has implicit flag || (has known flag && (not (has masked flag)
    && (has forced flag || after_all layers flag (has on flag))))

-- which may be flipped
abbrev pub free_by : List (List ℕ) → List (List ℕ) → List (List ℕ) → List ℕ → Bool
free_by forced masked implicit flag =
    not (has forced flag || (has masked flag || has implicit flag))

-- the settings that may be chosen, with at most so many of those flipped
abbrev pub settings_by : Expressions → List (List ℕ) → Setting → (List ℕ → Bool) → ℕ → List Setting
settings_by required known base is_free flips =
    settings required base (lists_below (flips + 1) (filter is_free known))

-- The settings that may be chosen of a candidate's flags.
use Rattle.std.specs.Prelude.{ℕ, zero, suc, ◌+◌, Bool, ◌||◌, not, List, [], ◌∷◌, ◌++◌, bytes_eq, filter, fold, if◌then◌else◌, map}
use Rattle.pms_names.specs.Flags.{has}
use Rattle.required_use.specs.Texts.{Expressions}
use Rattle.required_use.specs.Truth.{all_fit}
use Rattle.visible_flags.specs.declared.base.FlagRules.{FlagRules}

-- whether each flag is on
abbrev pub Setting : Type 0
Setting = List ℕ → Bool

-- the setting that differs in this flag alone
abbrev pub flipped : Setting → List ℕ → Setting
flipped is flag q = if bytes_eq q flag then not (is q) else is q

-- the lists of so many of the flags, in the order of the flags
abbrev pub lists_of : ℕ → List (List ℕ) → List (List (List ℕ))
lists_of zero flags = [] ∷ []
lists_of (suc n) [] = []
lists_of (suc n) (flag ∷ flags) = map (λ l. flag ∷ l) (lists_of n flags) ++ lists_of (suc n) flags

-- the lists of fewer than so many of the flags, those of fewer flags first
abbrev pub lists_below : ℕ → List (List ℕ) → List (List (List ℕ))
lists_below zero flags = []
lists_below (suc n) flags = lists_below n flags ++ lists_of n flags

-- REQUIRED_USE holds where just the flags of the setting are on
abbrev pub fits : Expressions → Setting → Bool
fits required is = all_fit is required

-- for each of the lists the setting in which its flags are flipped, where REQUIRED_USE holds
abbrev pub settings : Expressions → Setting → List (List (List ℕ)) → List Setting
settings required is lists = filter (fits required) (map (fold flipped is) lists)

-- the flags of IUSE that may be flipped: those that aren't forced, masked or implicit
abbrev pub is_free : FlagRules → List ℕ → Bool
is_free rules flag =
    not (has rules.forced.now flag || (has rules.masked.now flag || has rules.implicit.now flag))

-- the settings with at most so many flags flipped, those with fewer first
abbrev pub variants : Expressions → FlagRules → List (List ℕ) → Setting → ℕ → List Setting
variants required rules known base flips =
    settings required base (lists_below (flips + 1) (filter (is_free rules) known))

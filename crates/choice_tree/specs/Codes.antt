-- A code of choices, by which a proof tells them apart.
use Rattle.std.specs.Prelude.{◌≡◌, ℕ, Option, None, Some, refl}
use Rattle.std.specs.Coded.{Coded, code_by, coded_list, coded_option, coded×, coded_ℕ}
use Rattle.choice_law.specs.Universe.{Value, absent, keep, variant}
use Rattle.choice_law.specs.Tree.{Choice}

abbrev pub shown : Value → Option (Option ℕ)
shown keep = None
shown absent = Some None
shown (variant i) = Some (Some i)

abbrev pub meant : Option (Option ℕ) → Value
meant None = keep
meant (Some None) = absent
meant (Some (Some i)) = variant i

pub meant_again : (v : Value) → meant (shown v) ≡ v
meant_again keep = refl
meant_again absent = refl
meant_again (variant i) = refl

abbrev pub value_code : Coded Value
value_code =
    code_by (Option (Option ℕ)) (coded_option (coded_option coded_ℕ)) shown meant meant_again

abbrev pub decisions_code : Coded Choice
decisions_code = coded_list (coded× coded_ℕ value_code)

-- When expressions hold.
use Rattle.std.specs.Prelude.{ℕ, Bool, not, List, Option}
use Rattle.std.specs.List.{position}
use Rattle.dep_group.specs.Reading.{list_of}
use Rattle.dep_group.specs.Trees.{all_hold, holds}
use Rattle.required_use.specs.Grammar.{is_on, kind}
use Rattle.required_use.specs.Texts.{Expressions}

-- all hold, where `on` says which flags are on
abbrev pub all_fit : (List ℕ → Bool) → Expressions → Bool
all_fit on x = all_hold x.empty_holds kind (is_on on) on x.groups

-- the index of the first of the outermost expressions that does not hold
abbrev pub first_broken : (List ℕ → Bool) → Expressions → Option ℕ
first_broken on x =
    position (λ t. not (holds x.empty_holds kind (is_on on) on t)) (list_of x.groups)

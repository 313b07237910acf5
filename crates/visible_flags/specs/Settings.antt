-- Which flags of a candidate are on, and what they may be changed to.
use denote.Ref.{Bor}
use Rattle.std.specs.Prelude.{ℕ, Bool, ◌&&◌, ◌||◌, not, List, fold}
use Rattle.pms_names.specs.Flags.{has}
use Rattle.use_flags.specs.Changes.{has_after}
use Rattle.use_flags.specs.declared.change.Change.{Change}
use Rattle.visible_flags.specs.declared.base.FlagRules.{FlagRules}

-- whether a flag that was on or off is on after these layers of changes, in their order
abbrev pub after_layers : List (Bor (List Change)) → List ℕ → Bool → Bool
after_layers layers flag on = fold (λ had layer. has_after layer.now flag had) on layers

-- the layers turn the flag on, or it is forced; and it isn't masked
abbrev pub is_set : FlagRules → List (List ℕ) → List ℕ → Bool
is_set rules on flag =
    not (has rules.masked.now flag)
    && (has rules.forced.now flag || after_layers rules.layers.now flag (has on flag))

-- the flags that are on: those of IUSE which are set, and the implicit ones
abbrev pub is_base : FlagRules → List (List ℕ) → List (List ℕ) → List ℕ → Bool
is_base rules known on flag =
    has rules.implicit.now flag || (has known flag && is_set rules on flag)

-- The way to the choice where one is.
use Rattle.std.specs.Prelude.{List, ◌∷◌}

pub record Path (C : Type 0) : Type 0 where
  -- the choice where one is
  pub here : C
  -- those above it that one came by, the nearest first
  pub above : List C

-- the way on from there to this choice
abbrev pub down : {C : Type 0} → C → Path C → Path C
down c p = record { here = c; above = p.here ∷ p.above }

-- What a tree of choices is to a walk through it.
use Rattle.std.specs.Prelude.{ℕ, Bool, List, Option}

pub record Shape (C : Type 0) : Type 0 where
  -- the options of a choice in their order, where something is open of it
  pub options : C → Option (List C)
  -- how deep the tree below a choice is at most
  pub room : C → ℕ
  -- the decided lines on which it rests that something is open of a choice
  pub reason : C → List ℕ
  -- whether a choice decides a line
  pub knows : C → ℕ → Bool

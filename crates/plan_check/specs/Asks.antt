-- What the packages that come ask of the binds of a plan's text.
use Rattle.std.specs.Prelude.{List, [], ◌∷◌, Option, None, Some, map}
use Rattle.dep_atom.specs.Values.{AtomValue, atom_value}
use Rattle.dep_atom.specs.declared.slot.Bind.{Bind}
use Rattle.plan_law.specs.Lives.{Life, Moment, commit, never, opening}
use Rattle.plan_check.specs.declared.asked.Asked.{Asked}

-- the leaves of an addition that ask for a bind, in written order, and the binds that it has
pub record AskedValue : Type 0 where
  pub leaves : List AtomValue
  pub binds : List Bind

-- what the code's value says
abbrev pub asked_value : Asked → AskedValue
asked_value asked =
    record {
      leaves = map (λ atom. atom_value atom.now) asked.leaves.items;
      binds = asked.binds.now;
    }

abbrev pub all_asked : List Asked → List AskedValue
all_asked asks = map asked_value asks

-- it asks for no bind and has none
abbrev pub nothing_asked : AskedValue
nothing_asked = record { leaves = []; binds = [] }

abbrev pub what_asked : Option Asked → AskedValue
what_asked None = nothing_asked
what_asked (Some asked) = asked_value asked

-- what a package asks that is there from this moment on, where these asks are left: an addition
-- takes the first of them, if there is one
abbrev pub next_asked : Moment → List AskedValue → AskedValue
next_asked opening asks = nothing_asked
next_asked (commit g) [] = nothing_asked
next_asked (commit g) (asked ∷ asks) = asked
next_asked never asks = nothing_asked

-- .. and those that it leaves to the packages behind it
abbrev pub asks_behind : Moment → List AskedValue → List AskedValue
asks_behind opening asks = asks
asks_behind (commit g) [] = []
asks_behind (commit g) (asked ∷ asks) = asks
asks_behind never asks = asks

-- each life with what its package asks: the additions of a plan ask in their order
abbrev pub asking : List Life → List AskedValue → List (Life × AskedValue)
asking [] asks = []
asking (x ∷ xs) asks = (x, next_asked x.birth asks) ∷ asking xs (asks_behind x.birth asks)

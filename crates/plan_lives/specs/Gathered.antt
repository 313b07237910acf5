-- The lives that may make a chain, as they are gathered by the names of atoms.
use Rattle.std.specs.Prelude.{ℕ, List, [], ◌∷◌, ◌++◌, filter}
use Rattle.dep_atom.specs.Match.{value_matches}
use Rattle.dep_atom.specs.Values.{AtomValue}
use Rattle.plan_law.specs.Firm.{IsChained}
use Rattle.plan_law.specs.Lives.{Life}
use Rattle.plan_lives.specs.Index.{keyed, name_key, plan_of, start_of}
use Rattle.plan_lives.specs.Stretches.{stretch_value}
use Rattle.plan_lives.specs.declared.index.Index.{Index}
use Rattle.plan_lives.specs.declared.stretch.Stretch.{Stretch}

-- the lives whose packages the atom matches, of those of its name
abbrev pub matching : AtomValue → List (List ℕ) → List Life → List Life
matching a asker xs =
    filter (λ x. value_matches a x.package_is.facts asker) (keyed name_key a.name.«package» xs)

abbrev pub gathered : List AtomValue → List (List ℕ) → List Life → List Life
gathered [] asker xs = []
gathered (a ∷ atoms) asker xs = matching a asker xs ++ gathered atoms asker xs

-- packages that one of the atoms matches are there all through the stretch
abbrev pub Chained : Index → Stretch → List (List ℕ) → List AtomValue → Type 0
Chained index stretch asker atoms =
    IsChained (plan_of index) (start_of index) asker (stretch_value stretch) atoms

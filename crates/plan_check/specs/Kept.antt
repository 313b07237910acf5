-- What the blocks that the code has gathered keep out.
use Rattle.std.specs.Prelude.{◌≡◌, ◌⊎◌, ℕ, true, List, [], ◌∷◌, Option, None, Some, length, map, ⊤}
use Rattle.basics.specs.Members.{Has}
use Rattle.dep_atom.specs.Match.{value_matches}
use Rattle.dep_atom.specs.Values.{AtomValue, atom_value}
use Rattle.pkg_state.specs.Package.{Package}
use Rattle.plan_law.specs.Plans.{Group}
use Rattle.plan_law.specs.Lives.{Life, Stretch}
use Rattle.plan_lives.specs.Keeping.{IsMet}
use Rattle.plan_lives.specs.Stretches.{IsStretchWithin, stretch_value}
use Rattle.plan_rules.specs.Verdicts.{each, refuse}
use Rattle.plan_check.specs.declared.blocked.Keeping.{Keeping}

-- one of the blocks keeps the package out of the stretch
abbrev pub IsKeptOut : List Group → Keeping → Life → Type 0
IsKeptOut plan k y =
    IsMet plan (stretch_value k.stretch) (map (λ atom. atom_value atom.now) k.blocks.items)
    k.asker.now k.line y

-- .. or the other blocks do, where there are others
abbrev pub IsKeptOutToo : List Group → Option Keeping → Life → Type 0
IsKeptOutToo plan None y = ⊥
IsKeptOutToo plan (Some k) y = IsKeptOut plan k y

-- the first package that is kept out, or none
abbrev pub IsFirstKept :
    List Group → List Life → Keeping → Option Keeping → Option Package → Type 0
IsFirstKept plan xs k other found =
    each xs (λ y. refuse (IsKeptOut plan k y ⊎ IsKeptOutToo plan other y) y.package_is) found

-- the code's blocks are these, for an asker with these flags
pub record Keeps (k : Keeping) (s : Stretch) (atoms : List AtomValue) (asker : List (List ℕ))
    (line : Option (List ℕ)) : Type 0 where
  pub stretch : stretch_value k.stretch ≡ s
  pub blocks : map (λ atom. atom_value atom.now) k.blocks.items ≡ atoms
  pub flags : k.asker.now ≡ asker
  pub line_is : k.line ≡ line

-- nothing that the block matches is kept out
abbrev pub IsNameClear : List Group → List Life → Keeping → AtomValue → Type 0
IsNameClear plan xs k a =
    (y : Life) → Has xs y → value_matches a y.package_is.facts k.asker.now ≡ true →
    ¬ IsKeptOut plan k y

-- nothing that one of these blocks matches is kept out
abbrev pub AreClear : List Group → List Life → Keeping → List AtomValue → Type 0
AreClear plan xs k [] = ⊤
AreClear plan xs k (a ∷ atoms) = IsNameClear plan xs k a × AreClear plan xs k atoms

-- the stretches of the blocks name groups that are there
abbrev pub IsOneWithin : List Group → Option Keeping → Type 0
IsOneWithin plan None = ⊤
IsOneWithin plan (Some k) = IsStretchWithin (length plan) (stretch_value k.stretch)

pub record IsWithinToo (plan : List Group) (k : Keeping) (other : Option Keeping) : Type 0 where
  pub one : IsStretchWithin (length plan) (stretch_value k.stretch)
  pub too : IsOneWithin plan other

-- nothing is kept out by the blocks
abbrev pub IsOneClear : List Group → List Life → Option Keeping → Type 0
IsOneClear plan xs None = ⊤
IsOneClear plan xs (Some k) =
    AreClear plan xs k (map (λ atom. atom_value atom.now) k.blocks.items)

pub record IsClearToo (plan : List Group) (xs : List Life) (k : Keeping)
    (other : Option Keeping) : Type 0 where
  pub one : AreClear plan xs k (map (λ atom. atom_value atom.now) k.blocks.items)
  pub too : IsOneClear plan xs other

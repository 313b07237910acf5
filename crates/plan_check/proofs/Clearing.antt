-- Where nothing of a block's name is kept out, nothing is.
use Rattle.std.proofs.Common.{◌≡◌, ◌⊎◌, true, List, [], ◌∷◌, Option, None, Some, inl, inr, map}
use Rattle.std.specs.List.{list_any}
use Rattle.std.proofs.lemmas.Bool.{and_parts, or_cases}
use Rattle.basics.specs.Members.{Has}
use Rattle.dep_atom.specs.Match.{value_matches}
use Rattle.dep_atom.specs.Values.{AtomValue, atom_value}
use Rattle.plan_law.specs.Plans.{Group}
use Rattle.plan_law.specs.Lives.{Life}
use Rattle.plan_lives.specs.Keeping.{is_elsewhere}
use Rattle.plan_check.specs.Kept.{AreClear, IsClearToo, IsFirstKept, IsKeptOut, IsKeptOutToo, IsOneClear}
use Rattle.plan_rules.specs.Verdicts.{refuse}
use Rattle.plan_check.specs.declared.blocked.Keeping.{Keeping}
use Rattle.plan_rules.proofs.Trying.{each_none}

module _ (plan : List Group) (xs : List Life) (k : Keeping) where
  matched : (atoms : List AtomValue) → AreClear plan xs k atoms → (y : Life) → Has xs y → list_any (λ a. value_matches a y.package_is.facts k.asker.now) atoms ≡ true → ¬ IsKeptOut plan k y
  matched [] clear y h e = absurd (cc e)
  matched (a ∷ atoms) clear y h e = elim (or_cases (value_matches a y.package_is.facts k.asker.now) (list_any (λ a. value_matches a y.package_is.facts k.asker.now) atoms) e) [
    | inl here ↦ clear.0 y h here
    | inr later ↦ matched atoms clear.1 y h later
  ]

  -- where a quick test finds nothing, none is kept out
  none_of : AreClear plan xs k (map (λ atom. atom_value atom.now) k.blocks.items) → (y : Life) → Has xs y → ¬ IsKeptOut plan k y
  none_of clear y h kept = matched (map (λ atom. atom_value atom.now) k.blocks.items) clear y h
      (and_parts (list_any (λ a. value_matches a y.package_is.facts k.asker.now) (map (λ atom. atom_value atom.now) k.blocks.items)) (is_elsewhere k.line y.package_is) kept.1).0 kept

none_too : (plan : List Group) (xs : List Life) (other : Option Keeping) → IsOneClear plan xs other → (y : Life) → Has xs y → ¬ IsKeptOutToo plan other y
none_too plan xs None clear y h kept = kept
none_too plan xs (Some k) clear y h kept = none_of plan xs k clear y h kept

-- .. of the same packages in another order
pub none_kept : (plan : List Group) (xs all : List Life) (k : Keeping) (other : Option Keeping) → ((y : Life) → Has all y → Has xs y) → IsClearToo plan xs k other → IsFirstKept plan all k other None
none_kept plan xs all k other within clear = each_none all (λ (y : Life). refuse (IsKeptOut plan k y ⊎ IsKeptOutToo plan other y) y.package_is) (λ y h kept. elim kept [
  | inl one ↦ none_of plan xs k clear.one y (within y h) one
  | inr too ↦ none_too plan xs other clear.too y (within y h) too
])

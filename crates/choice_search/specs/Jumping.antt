-- What a walk that jumps back has to do with solutions, and with all leaves of the tree.
use Rattle.std.specs.Prelude.{◌≡◌, ℕ, List, [], ◌∷◌, Option, None, Some, is_some}
use Rattle.basics.specs.Members.{Has}
use Rattle.choice_search.specs.Laws.{IsDeep}
use Rattle.choice_search.specs.Leaves.{dead_before, first_good, leaves}
use Rattle.choice_search.specs.Shape.{Shape}
use Rattle.choice_search.specs.Visit.{barren, ending, visit}

-- a filling has on these lines what is decided of them
abbrev pub AgreesOn : {V : Type 0} → List ℕ → (ℕ → Option V) → (ℕ → V) → Type 0
AgreesOn {V} ls c f = (l : ℕ) (v : V) → Has ls l → c l ≡ Some v → f l ≡ v

-- .. on all lines
abbrev pub Agrees : {V : Type 0} → (ℕ → Option V) → (ℕ → V) → Type 0
Agrees {V} c f = (l : ℕ) (v : V) → c l ≡ Some v → f l ≡ v

-- .. on those that are decided in the second choice and not in the first one
abbrev pub AgreesNew : {V : Type 0} → (ℕ → Option V) → (ℕ → Option V) → (ℕ → V) → Type 0
AgreesNew {V} c d f = (l : ℕ) (v : V) → c l ≡ None → d l ≡ Some v → f l ≡ v

-- a tree of choices that decide values of lines, for solutions, which have a value of each line
pub record IsJumping {C V : Type 0} (shape : Shape C) (decided : C → ℕ → Option V)
    (fits : C → Type 0) (is_solution : (ℕ → V) → Type 0) : Type 0 where
  pub known : (c : C) (l : ℕ) → shape.knows c l ≡ is_some (decided c l)
  pub smaller : IsDeep shape.options shape.room
  pub stays : (c d : C) (ds : List C) → fits c → shape.options c ≡ Some ds → Has ds d → fits d
  -- an option keeps what its choice decides
  pub extends : (c d : C) (ds : List C) → fits c → shape.options c ≡ Some ds → Has ds d →
      (l : ℕ) (v : V) → decided c l ≡ Some v → decided d l ≡ Some v
  -- a solution that agrees with a choice on the reason agrees with what some option adds
  pub kept : (c : C) (ds : List C) (f : ℕ → V) → fits c → shape.options c ≡ Some ds →
      is_solution f → AgreesOn (shape.reason c) (decided c) f →
      (d : C) × Has ds d × AgreesNew (decided c) (decided d) f
  -- a good leaf is a solution
  pub good_is : (c : C) → fits c → shape.options c ≡ None →
      (f : ℕ → V) × is_solution f × Agrees (decided c) f

-- the first list is a part of the second one, in its order
pub data IsPart {A : Type 0} : List A → List A → Type 0 where
  nothing : IsPart [] []
  without : (x : A) (xs ys : List A) → IsPart xs ys → IsPart xs (x ∷ ys)
  with_it : (x : A) (xs ys : List A) → IsPart xs ys → IsPart (x ∷ xs) (x ∷ ys)

-- what the jumps leave out is of no account
pub record LosesNothing {C V : Type 0} (shape : Shape C) (decided : C → ℕ → Option V)
    (is_solution : (ℕ → V) → Type 0) (c : C) : Type 0 where
  -- where a choice is barren, no solution agrees with it on the cause
  pub cause_holds : (why : List ℕ) (f : ℕ → V) → (visit shape c).end ≡ barren why →
      is_solution f → ¬ AgreesOn why (decided c) f
  -- it ends at the first good leaf of all
  pub same_end : ending (visit shape c).end ≡ first_good (leaves shape.options shape.room c)
  -- what it meets are dead leaves before that
  pub met_are : IsPart (visit shape c).met (dead_before (leaves shape.options shape.room c))
  -- each of them has something open, and no option for it
  pub dead : (d : C) → Has (visit shape c).met d → shape.options d ≡ Some []
  -- and no solution has all that one of these decides
  pub refuted : (d : C) (f : ℕ → V) → Has (visit shape c).met d → is_solution f →
      ¬ Agrees (decided d) f

-- Steps that are taken one after the other, and the first of them that can't be taken.
use Rattle.std.specs.Prelude.{◌≡◌, ◌++◌, List, [], ◌∷◌}

-- the steps lead from what was to what is
abbrev pub Chain : {A S : Type 0} → (A → S → S → Type 0) → List A → S → S → Type 0
Chain {A} {S} Step [] was is = is ≡ was
Chain {A} {S} Step (x ∷ xs) was is =
    (between : S) × Step x was between × Chain Step xs between is

-- the first of the steps that can't be taken has this fault
pub record BreaksAt {A S F : Type 0} (Step : A → S → S → Type 0) (Fault : A → S → F → Type 0)
    (xs : List A) (was : S) (fault : F) : Type 0 where
  pub front : List A
  pub bad : A
  pub rest : List A
  pub between : S
  pub place : xs ≡ front ++ (bad ∷ rest)
  pub before : Chain Step front was between
  pub has : Fault bad between fault

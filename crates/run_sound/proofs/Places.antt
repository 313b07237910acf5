-- The turn of the group at each place of a plan, and what is held before it.
use Rattle.std.proofs.Common.{◌≡◌, ◌∙◌, ◌≤◌, ◌<◌, ◌+◌, ℕ, zero, suc, Bool, List, [], ◌∷◌, Some, ap, arith, inl, inr, map, refl, slice_get, subst, sym}
use Rattle.std.specs.Prelude.{if◌then◌else◌}
use Rattle.std.specs.List.{AllByRecursion}
use Rattle.std.proofs.lemmas.Bool.{cases_eq}
use Rattle.basics.specs.Members.{Has}
use Rattle.basics.proofs.Texts.{bytes_eq-apart}
use Rattle.build_pool.specs.declared.orders.Order.{Order}
use Rattle.file_tree.specs.declared.objects.Entry.{Entry}
use Rattle.merge_fit.specs.Images.{path_of}
use Rattle.merge_group.specs.Working.{all_in}
use Rattle.merge_group.specs.declared.files.Files.{Files}
use Rattle.merge_group.specs.declared.turn.Turn.{Turn}
use Rattle.plan_law.specs.Plans.{Group, group_at}
use Rattle.vdb_law.specs.Packages.{Installed}
use Rattle.run_files.specs.Keys.{folder_of}
use Rattle.run_files.specs.Made.{IsNamed, package_of}
use Rattle.run_files.specs.declared.newcomer.Newcomer.{Newcomer}
use Rattle.run_plan.specs.Runs.{AreTurnsAt, numbers_at}
use Rattle.merge_group.specs.Turns.{numbers}
use Rattle.run_turns.specs.Held.{Holdings, holding, holding_all}
use Rattle.run_turns.specs.Turns.{AreNewcomersAt, AreTurns, IsTurnOf}
use Rattle.run_turns.specs.declared.job.Job.{Job}

-- for a folder of none that comes the same is held
held_beside : (ns : List Newcomer) (fs : List Files) (held : Holdings) (text : List ℕ) → ¬ Has (map folder_of (map package_of ns)) text → holding_all ns fs held text ≡ held text
held_beside [] fs held text out = refl
held_beside (n ∷ ns) [] held text out = refl
held_beside (n ∷ ns) (f ∷ fs) held text out =
    held_beside ns fs (holding (folder_of n.pkg) (map path_of (all_in f)) held) text (λ h. out (inr h))
    ∙ ap (λ (b : Bool). if b then map path_of (all_in f) else held text) (bytes_eq-apart (folder_of n.pkg) text (λ e. out (inl e)))

module _ (Image : Order → List Entry → Type 0) (ps : List Installed) (plan : List Group) (jobs : List Job) where
  -- what is held before the turn at a place, counted from the first of these turns
  abbrev pub held_at : (place : ℕ) (held : Holdings) (ts : List Turn) → AreTurns Image ps plan jobs place held ts → ℕ → Holdings
  held_at place held [] are n = held
  held_at place held (t ∷ ts) are zero = held
  held_at place held (t ∷ ts) are (suc n) = held_at (suc place) (holding_all are.1.0 t.packages.items held) ts are.1.3 n

  pub held_first : (place : ℕ) (held : Holdings) (ts : List Turn) (are : AreTurns Image ps plan jobs place held ts) → held_at place held ts are 0 ≡ held
  held_first place held [] are = refl
  held_first place held (t ∷ ts) are = refl

  -- the turn of the group at a place, over what is held before it, and what is held behind it
  pub record TurnAt (place : ℕ) (held next : Holdings) (t : Turn) : Type 0 where
    pub number : t.group ≡ suc place
    pub newcomers : List Newcomer
    pub brings : AreNewcomersAt Image plan jobs place newcomers
    pub of : IsTurnOf ps plan (group_at plan place) held newcomers t
    pub behind : next ≡ holding_all newcomers t.packages.items held

  pub turn_at : (place : ℕ) (held : Holdings) (ts : List Turn) (are : AreTurns Image ps plan jobs place held ts) (n k : ℕ) (t : Turn) → k ≡ place + n → slice_get ts n ≡ Some t
      → TurnAt k (held_at place held ts are n) (held_at place held ts are (suc n)) t
  turn_at place held [] are n k t at e = absurd (cc e)
  turn_at place held (x ∷ ts) are zero k t at e =
      let here : place ≡ k = omega (arith, at) in
      let same : x ≡ t = cc e in
      let next = holding_all are.1.0 x.packages.items held in
      subst (λ (y : Turn). TurnAt k held (held_at (suc place) next ts are.1.3 0) y) same
      (subst (λ (j : ℕ). TurnAt j held (held_at (suc place) next ts are.1.3 0) x) here
      (record { number = are.0; newcomers = are.1.0; brings = are.1.1; of = are.1.2; behind = held_first (suc place) next ts are.1.3 }))
  turn_at place held (x ∷ ts) are (suc n) k t at e = turn_at (suc place) (holding_all are.1.0 x.packages.items held) ts are.1.3 n k t (omega (arith, at)) e

  -- for a folder of none that comes with a turn the same is held behind it
  held_step : (place : ℕ) (held : Holdings) (ts : List Turn) (are : AreTurns Image ps plan jobs place held ts) (n k : ℕ) (text : List ℕ) → k ≡ place + n
      → ((ns : List Newcomer) → AllByRecursion IsNamed ns → map package_of ns ≡ (group_at plan k).additions → ¬ Has (map folder_of (map package_of ns)) text)
      → held_at place held ts are (suc n) text ≡ held_at place held ts are n text
  held_step place held [] are n k text at out = refl
  held_step place held (t ∷ ts) are zero k text at out =
      let here : place ≡ k = omega (arith, at) in
      let next = holding_all are.1.0 t.packages.items held in
      ap (λ (h : Holdings). h text) (held_first (suc place) next ts are.1.3)
      ∙ held_beside are.1.0 t.packages.items held text (out are.1.0 are.1.2.named (are.1.1.brings ∙ ap (λ (j : ℕ). (group_at plan j).additions) here))
  held_step place held (t ∷ ts) are (suc n) k text at out = held_step (suc place) (holding_all are.1.0 t.packages.items held) ts are.1.3 n k text (omega (arith, at)) out

  module _ (held : Holdings) (ts : List Turn) (are : AreTurns Image ps plan jobs 0 held ts) where
    -- .. and behind all turns from a place on of which none brings it
    pub held_on : (from g : ℕ) (text : List ℕ) → from ≤ g
        → ((k : ℕ) → from ≤ k → k < g → (ns : List Newcomer) → AllByRecursion IsNamed ns → map package_of ns ≡ (group_at plan k).additions → ¬ Has (map folder_of (map package_of ns)) text)
        → held_at 0 held ts are g text ≡ held_at 0 held ts are from text
    held_on from zero text le out = let same : zero ≡ from = omega (arith, le) in ap (λ (n : ℕ). held_at 0 held ts are n text) same
    held_on from (suc g) text le out = elim (cases_eq from (suc g)) [
      | inl same ↦ ap (λ (n : ℕ). held_at 0 held ts are n text) (sym same)
      | inr other ↦ (let less : from ≤ g = omega (arith, le, other) in
          held_step 0 held ts are g g text (omega arith) (out g less (omega arith))
          ∙ held_on from g text less (λ k low high. out k low (omega (arith, high))))
    ]

    -- the numbers of turns are those of their places
    pub turns_numbered : (run : List ℕ) (own : List Turn) → AreTurnsAt ts run own → numbers own ≡ numbers_at run
    turns_numbered [] [] all = refl
    turns_numbered [] (t ∷ own) all = absurd all
    turns_numbered (g ∷ run) [] all = absurd all
    turns_numbered (g ∷ run) (t ∷ own) all =
        ap (λ (n : ℕ). n ∷ numbers own) (turn_at 0 held ts are g g t (omega arith) all.0).number ∙ ap (λ (l : List ℕ). suc g ∷ l) (turns_numbered run own all.1)

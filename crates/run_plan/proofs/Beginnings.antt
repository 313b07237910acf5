-- The first groups of a plan are a run of it, by their places and by their numbers.
use Rattle.std.proofs.Common.{◌≡◌, ◌∙◌, ◌++◌, ◌⊎◌, ◌<◌, ◌≤◌, ◌+◌, ℕ, zero, suc, List, [], ◌∷◌, ap, arith, inl, inr, length, map, refl, subst, sym}
use Rattle.std.proofs.lemmas.Bool.{cases_eq}
use Rattle.std.proofs.lemmas.List.{length-append, map-append}
use Rattle.basics.specs.Members.{Has}
use Rattle.basics.proofs.Membership.{has-append_cases, has-append_left, has-append_right}
use Rattle.build_pool.specs.declared.orders.Order.{Order}
use Rattle.file_tree.specs.Disk.{Map}
use Rattle.file_tree.specs.declared.objects.Entry.{Entry}
use Rattle.merge_journal.specs.Group as journal
use Rattle.merge_site.specs.declared.group.SiteGroup.{SiteGroup}
use Rattle.owner_book.specs.Book.{Book}
use Rattle.plan_law.specs.Plans.{GoesOn, Group, IsRun, WaitsForEarlier, group_at}
use Rattle.vdb_law.specs.Packages.{Installed}
use Rattle.merge_group.specs.Turns.{AreFirst}
use Rattle.merge_group.specs.declared.turn.Turn.{Turn}
use Rattle.run_turns.specs.Held.{Holdings, holding_all}
use Rattle.run_turns.specs.Turns.{AreTurns}
use Rattle.run_turns.specs.declared.job.Job.{Job}
use Rattle.run_plan.specs.Runs.{AreOfRun, AreTurnsAt}

-- ---- the places before one

abbrev pub below : ℕ → List ℕ
below zero = []
below (suc n) = below n ++ n ∷ []

pub below_less : (n h : ℕ) → Has (below n) h → h < n
below_less zero h has = absurd has
below_less (suc n) h has = elim (has-append_cases (below n) (n ∷ []) h has) [
  | inl first ↦ (let less = below_less n h first in omega (arith, less))
  | inr last ↦ elim last [
    | inl e ↦ omega (arith, e)
    | inr none ↦ absurd none
  ]
]

pub less_below : (n h : ℕ) → h < n → Has (below n) h
less_below zero h less = absurd (omega (arith, less))
less_below (suc n) h less = elim (cases_eq n h) [
  | inl e ↦ has-append_right (below n) (n ∷ []) h (inl e)
  | inr other ↦ has-append_left (below n) (n ∷ []) h (less_below n h (omega (arith, less, other)))
]

abbrev next : ℕ → ℕ
next g = suc g

-- they begin with the first one
below_first : (n : ℕ) → below (suc n) ≡ 0 ∷ map next (below n)
below_first zero = refl
below_first (suc n) = ap (λ (l : List ℕ). l ++ suc n ∷ []) (below_first n) ∙ ap (λ (l : List ℕ). 0 ∷ l) (sym (map-append next (below n) (n ∷ [])))

-- ---- runs of the first groups

module _ (plan : List Group) where
  -- one group more behind a run
  goes_push : (run done : List ℕ) (g : ℕ) → GoesOn plan done run → g < length plan → ¬ Has run g → ¬ Has done g → ((h : ℕ) → Has (group_at plan g).after h → Has run h ⊎ Has done h) → GoesOn plan done (run ++ g ∷ [])
  goes_push [] done g goes there new undone waits = (
    there,
    undone,
    (λ h w. elim (waits h w) [ inl none ↦ absurd none | inr d ↦ d ]),
    tt,
  )
  goes_push (x ∷ run) done g goes there new undone waits = (
    goes.0,
    goes.1,
    goes.2,
    goes_push run (x ∷ done) g goes.3 there (λ h. new (inr h)) (λ h. elim h [ inl e ↦ new (inl e) | inr d ↦ undone d ])
        (λ h w. elim (waits h w) [
          | inl r ↦ elim r [ inl e ↦ inr (inl e) | inr later ↦ inl later ]
          | inr d ↦ inr (inr d)
        ]),
  )

  pub runs_below : WaitsForEarlier plan → (n : ℕ) → n ≤ length plan → IsRun plan (below n)
  runs_below earlier zero le = tt
  runs_below earlier (suc n) le =
      goes_push (below n) [] n (runs_below earlier n (omega (arith, le))) (omega (arith, le))
      (λ h. let less = below_less n n h in omega (arith, less)) (λ h. h) (λ h w. inl (less_below n h (earlier n h w)))

-- ---- the turns of the first groups

-- turns that are made are no more than the groups
turns_within : (Image : Order → List Entry → Type 0) (ps : List Installed) (plan : List Group) (jobs : List Job) (place : ℕ) (held : Holdings) (ts : List Turn) → place ≤ length plan → AreTurns Image ps plan jobs place held ts → place + length ts ≤ length plan
turns_within Image ps plan jobs place held [] le are = omega (arith, le)
turns_within Image ps plan jobs place held (t ∷ ts) le are =
    let there = are.1.1.there in
    let later = turns_within Image ps plan jobs (suc place) (holding_all are.1.0 t.packages.items held) ts (omega (arith, there)) are.1.3 in
    omega (arith, later)

-- with one turn more before them all places are one higher
turns_later : (t : Turn) (turns : List Turn) (run : List ℕ) (own : List Turn) → AreTurnsAt turns run own → AreTurnsAt (t ∷ turns) (map next run) own
turns_later t turns [] [] all = tt
turns_later t turns [] (x ∷ own) all = absurd all
turns_later t turns (g ∷ run) [] all = absurd all
turns_later t turns (g ∷ run) (x ∷ own) all = (all.0, turns_later t turns run own all.1)

-- the first turns are those at the first places
turns_below : (first rest : List Turn) → AreTurnsAt (first ++ rest) (below (length first)) first
turns_below [] rest = tt
turns_below (t ∷ first) rest =
    subst (λ (run : List ℕ). AreTurnsAt (t ∷ first ++ rest) run (t ∷ first)) (sym (below_first (length first)))
    (refl, turns_later t (first ++ rest) (below (length first)) first (turns_below first rest))

-- the groups of first turns are those of a run
pub first_are_run : (Image : Order → List Entry → Type 0) (ps : List Installed) (plan : List Group) (jobs : List Job) (held : Holdings) (m : Map) (b : Book) (groups : List SiteGroup) (turns : List Turn)
    → WaitsForEarlier plan → AreTurns Image ps plan jobs 0 held turns → (xs : List journal.Group) → AreFirst m b groups turns xs → AreOfRun m b groups plan turns xs
first_are_run Image ps plan jobs held m b groups turns earlier made xs are =
    let first = are.first in
    let whole = turns_within Image ps plan jobs 0 held turns (omega arith) made in
    let parts = ap length are.split ∙ length-append first are.rest in
    record {
      run = below (length first);
      is_run = runs_below plan earlier (length first) (omega (arith, whole, parts));
      own = first;
      turns_are = subst (λ (l : List Turn). AreTurnsAt l (below (length first)) first) (sym are.split) (turns_below first are.rest);
      are = are.are;
      let_in = are.let_in;
    }

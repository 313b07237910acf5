-- A run of a plan, turn by turn.
use Rattle.std.proofs.Common.{◌≡◌, ◌∙◌, ◌++◌, ◌<◌, ◌≤◌, ◌+◌, ℕ, zero, suc, Bool, List, [], ◌∷◌, Result, Err, ap, arith, inl, inr, length, refl, subst, sym, take}
use Rattle.std.specs.Prelude.{IfErr}
use Rattle.std.proofs.Math.Seq.{take-length}
use Rattle.std.proofs.lemmas.Bool.{cases_eq}
use Rattle.std.proofs.lemmas.List.{length-append, length-map, take-append-le}
use Rattle.basics.specs.Members.{Has}
use Rattle.basics.proofs.Membership.{has-append_cases}
use Rattle.build_pool.specs.declared.orders.Order.{Order}
use Rattle.file_tree.specs.Disk.{Map}
use Rattle.file_tree.specs.declared.objects.Entry.{Entry}
use Rattle.merge_site.specs.Site.{SiteValue}
use Rattle.plan_law.specs.Plans.{Group, group_at}
use Rattle.vdb_law.specs.Packages.{Installed}
use Rattle.merge_group.specs.Causes.{IsOfGroup}
use Rattle.file_tree.specs.Output.{IsBeginning}
use Rattle.merge_group.specs.Runs.{EndsAt}
use Rattle.merge_group.specs.Turns.{numbers}
use Rattle.merge_group.specs.declared.stop.Stop.{Stop}
use Rattle.merge_group.specs.declared.turn.Turn.{Turn}
use Rattle.merge_group.proofs.Left.{numbers_then}
use Rattle.merge_group.proofs.Onward.{over_now}
use Rattle.run_files.specs.Keys.{folders_with}
use Rattle.run_files.specs.Places.{ArePlaces}
use Rattle.run_files.specs.declared.newcomer.Newcomer.{Newcomer}
use Rattle.run_files.specs.declared.places.Places.{Places}
use Rattle.run_turns.specs.Held.{Holdings, holding_all}
use Rattle.run_turns.specs.Plans.{coming}
use Rattle.run_turns.specs.Turns.{AreNewcomersAt, AreTurns, IsTurnOf}
use Rattle.run_turns.specs.declared.job.Job.{Job}
use Rattle.run_plan.specs.Courses.{AreTurnsTo, IsUpTo, RanPlan}
use Rattle.run_plan.specs.Runs.{upto}

-- ---- numbers

pub length_upto : (n : ℕ) → length (upto n) ≡ n
length_upto zero = refl
length_upto (suc n) = length-append (upto n) (suc n ∷ []) ∙ (let k = length_upto n in omega (arith, k))

upto_first : (n k : ℕ) → n ≤ k → upto n ≡ take n (upto k)
upto_first n zero le = let none : n ≡ 0 = omega (arith, le) in subst (λ (j : ℕ). upto j ≡ take j []) (sym none) refl
upto_first n (suc k) le = elim (cases_eq n (suc k)) [
  | inl same ↦ subst (λ (j : ℕ). upto j ≡ take j (upto (suc k))) (sym same)
      (sym (take-length (upto (suc k))) ∙ ap (λ (j : ℕ). take j (upto (suc k))) (length_upto (suc k)))
  | inr other ↦ (let less : n ≤ k = omega (arith, le, other) in
      upto_first n k less ∙ sym (take-append-le n (upto k) (suc k ∷ []) (let long = length_upto k in omega (arith, long, less))))
]

pub upto_begins : (n k : ℕ) → n ≤ k → IsBeginning (upto k) (upto n)
upto_begins n k le = (n, upto_first n k le)

pub not_yet : (n h : ℕ) → n < h → Has (upto n) h → ⊥
not_yet zero h lt has = has
not_yet (suc n) h lt has = elim (has-append_cases (upto n) (suc n ∷ []) h has) [
  | inl before ↦ not_yet n h (omega (arith, lt)) before
  | inr last ↦ elim last [ inl e ↦ absurd (omega (arith, lt, e)) | inr none ↦ absurd none ]
]

-- ---- turns

module _ (Image : Order → List Entry → Type 0) (ps : List Installed) (plan : List Group) (jobs : List Job) where
  pub turns_forget : (place : ℕ) (held : Holdings) (ts : List Turn) (last : Holdings) → AreTurnsTo Image ps plan jobs place held ts last → AreTurns Image ps plan jobs place held ts
  turns_forget place held [] last are = tt
  turns_forget place held (t ∷ ts) last are = (are.0, (are.1.0, are.1.1, are.1.2, turns_forget (suc place) (holding_all are.1.0 t.packages.items held) ts last are.1.3))

  pub turns_push : (place : ℕ) (held : Holdings) (ts : List Turn) (last next : Holdings) (t : Turn) (newcomers : List Newcomer) (n : ℕ) → n ≡ place + length ts → AreTurnsTo Image ps plan jobs place held ts last
      → t.group ≡ suc n → AreNewcomersAt Image plan jobs n newcomers → IsTurnOf ps plan (group_at plan n) last newcomers t → next ≡ holding_all newcomers t.packages.items last
      → AreTurnsTo Image ps plan jobs place held (ts ++ t ∷ []) next
  turns_push place held [] last next t newcomers n here are group comes is more =
      let same : n ≡ place = omega (arith, here) in
      let from : AreTurnsTo Image ps plan jobs n last (t ∷ []) next = (group, (newcomers, comes, is, more)) in
      subst (λ (k : ℕ). AreTurnsTo Image ps plan jobs k held (t ∷ []) next) same (subst (λ (h : Holdings). AreTurnsTo Image ps plan jobs n h (t ∷ []) next) are from)
  turns_push place held (u ∷ ts) last next t newcomers n here are group comes is more = (
    are.0,
    (
      are.1.0,
      are.1.1,
      are.1.2,
      turns_push (suc place) (holding_all are.1.0 u.packages.items held) ts last next t newcomers n (omega (arith, here)) are.1.3 group comes is more,
    ),
  )

-- ---- a run that ends between two turns

module _ {T S : Type 0} (Image : Order → List Entry → Type 0) (plan : List Group) (jobs : List Job) (places : Places) (held : Holdings) (tells : Bool) (opening : Map) where
  -- .. is a run of the plan so far
  pub ran_now : (place : ℕ) (now : Holdings) (history acknowledged : List ℕ) (a : SiteValue T S) (end : Result (Unit {0}) Stop) → place ≤ length plan
      → IsUpTo Image plan jobs places held tells opening place now history acknowledged a → IfErr end (λ s. IsOfGroup s → ⊥) → RanPlan Image plan jobs places held tells opening history acknowledged end a
  ran_now place now history acknowledged a end le so_far plain = record {
    turns = so_far.turns;
    are = record {
      numbered = subst (λ (l : List ℕ). IsBeginning (upto (length plan)) l) (sym so_far.numbered) (upto_begins place (length plan) le);
      made = λ ps are. turns_forget Image ps plan jobs 0 held so_far.turns now (so_far.made ps are);
    };
    over = over_now tells opening so_far.turns history acknowledged a end so_far.under plain;
  }

  -- one group more
  pub up_next : (place : ℕ) (last next : Holdings) (history acknowledged : List ℕ) (a : SiteValue T S) (so_far : IsUpTo Image plan jobs places held tells opening place last history acknowledged a)
      (t : Turn) (newcomers : List Newcomer) → t.group ≡ suc place → AreNewcomersAt Image plan jobs place newcomers
      → ((ps : List Installed) → ArePlaces (folders_with ps (coming plan)) places → IsTurnOf ps plan (group_at plan place) last newcomers t) → next ≡ holding_all newcomers t.packages.items last
      → (numbers (so_far.turns ++ t ∷ []) ≡ upto (suc place))
      × ((ps : List Installed) → ArePlaces (folders_with ps (coming plan)) places → AreTurnsTo Image ps plan jobs 0 held (so_far.turns ++ t ∷ []) next)
  up_next place last next history acknowledged a so_far t newcomers group comes is more =
      let long : length so_far.turns ≡ place = sym (length-map so_far.turns (λ (u : Turn). u.group)) ∙ (ap length so_far.numbered ∙ length_upto place) in (
        numbers_then so_far.turns (t ∷ []) ∙ (ap (λ (l : List ℕ). l ++ t.group ∷ []) so_far.numbered ∙ ap (λ (n : ℕ). upto place ++ n ∷ []) group),
        λ ps are. turns_push Image ps plan jobs 0 held so_far.turns last next t newcomers place (omega (arith, long)) (so_far.made ps are) group comes (is ps are) more,
      )

  -- .. and the run stopped there
  pub ran_stopped : (place : ℕ) (next : Holdings) (turns : List Turn) (history acknowledged : List ℕ) (b : SiteValue T S) (s : Stop) → place < length plan
      → numbers turns ≡ upto (suc place) → ((ps : List Installed) → ArePlaces (folders_with ps (coming plan)) places → AreTurnsTo Image ps plan jobs 0 held turns next)
      → EndsAt tells opening turns history acknowledged b s → RanPlan Image plan jobs places held tells opening history acknowledged (Err s) b
  ran_stopped place next turns history acknowledged b s lt numbered made ends = record {
    turns = turns;
    are = record {
      numbered = subst (λ (l : List ℕ). IsBeginning (upto (length plan)) l) (sym numbered) (upto_begins (suc place) (length plan) (omega (arith, lt)));
      made = λ ps are. turns_forget Image ps plan jobs 0 held turns next (made ps are);
    };
    over = ends;
  }

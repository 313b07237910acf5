-- The whole run of a plan, from those of its parts.
use Rattle.std.proofs.Common.{◌≡◌, ◌⊎◌, ◌∙◌, ◌∷◌, ◌≤◌, ◌+◌, ℕ, zero, suc, List, [], Option, None, Some, Result, Ok, Err, ap, arith, drop, inl, inr, length, map, refl, subst, sym, take, take-append-drop}
use Rattle.std.specs.Prelude.{IfErr, IsErrOf, OnOk, slice_get}
use Rattle.std.proofs.lemmas.List.{length-map}
use Rattle.basics.specs.Members.{Has}
use Rattle.file_tree.specs.Disk.{CountsFault, Rose}
use Rattle.file_tree.specs.declared.fault.TreeFault.{TreeFault}
use Rattle.file_tree.specs.declared.fault.TreeFault.TheVariants as trees
use Rattle.owner_book.specs.Book.{Book}
use Rattle.merge_core.specs.Roll.{resting}
use Rattle.merge_core.specs.Core.{standing_in}
use Rattle.merge_site.specs.Site.{SiteValue}
use Rattle.merge_site.specs.declared.group.SiteGroup.{SiteGroup}
use Rattle.plan_law.specs.Plans.{Group}
use Rattle.vdb_law.specs.Packages.{Installed}
use Rattle.merge_group.specs.Applied.{number}
use Rattle.merge_group.specs.Causes.{IsOfGroup}
use Rattle.merge_group.specs.Lines.{line_in, line_or_none}
use Rattle.file_tree.specs.Output.{IsBeginning}
use Rattle.merge_group.specs.Went.{HaveRun}
use Rattle.merge_group.specs.declared.stop.Stop.{Stop}
use Rattle.merge_group.proofs.Rising.{rose_earlier, rose_later}
use Rattle.merge_group.specs.declared.stop.Stop.TheVariants as merges
use Rattle.merge_group.proofs.Left.{has_longer}
use Rattle.merge_group.proofs.Stopped.{tree_quiet}
use Rattle.merge_group.proofs.Told.{take_none}
use Rattle.run_turns.specs.Plans.{AreSiteGroups, bytes_of_job, dying_keys, line_bytes, line_for, line_of_job, removed_keys}
use Rattle.run_turns.specs.declared.job.Job.{Job}
use Rattle.run_plan.specs.Ends.{ClosesAs}
use Rattle.run_plan.specs.Runs.{merge_end}
use Rattle.run_plan.specs.declared.stop.PlanStop.{PlanStop}
use Rattle.run_plan.specs.declared.stop.PlanStop.TheVariants as stops

-- ---- beginnings

-- what is among the first of a beginning is among the first of the whole
pub has_first : (whole xs : List ℕ) (k h : ℕ) → IsBeginning whole xs → Has (take k xs) h → Has (take k whole) h
has_first whole xs k h begins has =
    subst (λ (l : List ℕ). Has (take k l) h) (take-append-drop begins.0 whole)
    (has_longer (take begins.0 whole) (drop begins.0 whole) k h (subst (λ (l : List ℕ). Has (take k l) h) begins.1 has))

first_of_first : (whole : List ℕ) (i j : ℕ) → IsBeginning whole (take j (take i whole))
first_of_first [] i j = (0, ap (take j) (take_none i) ∙ take_none j)
first_of_first (x ∷ xs) zero j = (0, take_none j)
first_of_first (x ∷ xs) (suc i) zero = (0, refl)
first_of_first (x ∷ xs) (suc i) (suc j) = let k = first_of_first xs i j in (suc k.0, ap (λ (l : List ℕ). x ∷ l) k.1)

pub begins_then : (whole xs ys : List ℕ) → IsBeginning whole xs → IsBeginning xs ys → IsBeginning whole ys
begins_then whole xs ys one two =
    let same : ys ≡ take two.0 (take one.0 whole) = two.1 ∙ ap (take two.0) one.1 in
    subst (λ (l : List ℕ). IsBeginning whole l) (sym same) (first_of_first whole one.0 two.0)

-- ---- lines

abbrev bytes_or_none : Option (List ℕ) → List ℕ
bytes_or_none None = []
bytes_or_none (Some text) = text

group_bytes : (groups : List SiteGroup) (g : ℕ) → line_or_none (slice_get groups g) ≡ bytes_or_none (slice_get (map line_bytes groups) g)
group_bytes [] g = refl
group_bytes (x ∷ groups) zero = refl
group_bytes (x ∷ groups) (suc g) = group_bytes groups g

job_bytes : (jobs : List Job) (place : ℕ) → line_of_job (slice_get jobs place) ≡ bytes_or_none (slice_get (map bytes_of_job jobs) place)
job_bytes [] place = refl
job_bytes (job ∷ jobs) zero = refl
job_bytes (job ∷ jobs) (suc place) = job_bytes jobs place

line_behind : (jobs : List Job) (g : ℕ) → bytes_or_none (slice_get ([] ∷ map bytes_of_job jobs) g) ≡ line_for jobs g
line_behind jobs zero = refl
line_behind jobs (suc place) = sym (job_bytes jobs place)

module _ (ps : List Installed) (plan : List Group) (jobs : List Job) (groups : List SiteGroup) (are : AreSiteGroups ps plan jobs groups) where
  pub same_line : (g : ℕ) → line_in groups g ≡ line_for jobs g
  same_line g = group_bytes groups g ∙ (ap (λ (l : List (List ℕ)). bytes_or_none (slice_get l g)) are.lines ∙ line_behind jobs g)

  pub same_lines : line_in groups ≡ line_for jobs
  same_lines = λ i g. same_line g i

  pub one_more : length groups ≡ length plan + 1
  one_more =
      let n = length-map groups dying_keys in
      let k = ap length are.dying in
      let m = length-map plan (removed_keys ps plan) in
      omega (arith, n, k, m)

-- ---- a site is closed

pub as_opened : {T S : Type 0} (a : SiteValue T S) (t : T) (k : Book) (groups : List SiteGroup) (P : T → Book → List SiteGroup → Type 0) → a.opened ≡ t → a.opened_book ≡ k → a.groups ≡ groups → P a.opened a.opened_book a.groups → P t k groups
as_opened a t k groups P opened book are p =
    subst (λ (l : List SiteGroup). P t k l) are (subst (λ (b : Book). P t b a.groups) book (subst (λ x. P x a.opened_book a.groups) opened p))

pub closed_stop : (Q : PlanStop → Type 0) (end end' : Result (Unit {0}) PlanStop) → ((of : TreeFault) → Q (stops.Merge (merges.Tree of))) → ClosesAs end end' → IfErr end Q → IfErr end' Q
closed_stop Q end (Ok x) carried closes is = tt
closed_stop Q end (Err (stops.Merge (merges.Tree of))) carried closes is = carried of
closed_stop Q end (Err (stops.Merge merges.Output)) carried closes is = subst (λ (e : Result (Unit {0}) PlanStop). IfErr e Q) closes is
closed_stop Q end (Err (stops.Merge (merges.Image b))) carried closes is = subst (λ (e : Result (Unit {0}) PlanStop). IfErr e Q) closes is
closed_stop Q end (Err (stops.Merge (merges.Claim s))) carried closes is = subst (λ (e : Result (Unit {0}) PlanStop). IfErr e Q) closes is
closed_stop Q end (Err (stops.Merge merges.Limit)) carried closes is = subst (λ (e : Result (Unit {0}) PlanStop). IfErr e Q) closes is
closed_stop Q end (Err (stops.Build id)) carried closes is = subst (λ (e : Result (Unit {0}) PlanStop). IfErr e Q) closes is
closed_stop Q end (Err (stops.Image id)) carried closes is = subst (λ (e : Result (Unit {0}) PlanStop). IfErr e Q) closes is

abbrev pub of_merge : (Stop → Type 0) → PlanStop → Type 0
of_merge P e = IfErr (merge_end {A = Unit {0}} tt (Err e)) P

to_merge : (P : Stop → Type 0) (end : Result (Unit {0}) PlanStop) → IfErr (merge_end tt end) P → IfErr end (of_merge P)
to_merge P (Ok x) is = tt
to_merge P (Err e) is = is

from_merge : (P : Stop → Type 0) (end : Result (Unit {0}) PlanStop) → IfErr end (of_merge P) → IfErr (merge_end tt end) P
from_merge P (Ok x) is = tt
from_merge P (Err e) is = is

pub closed_cause : (P : Stop → Type 0) (end end' : Result (Unit {0}) PlanStop) → ((of : TreeFault) → P (merges.Tree of)) → ClosesAs end end' → IfErr (merge_end tt end) P → IfErr (merge_end tt end') P
closed_cause P end end' carried closes is = from_merge P end' (closed_stop (of_merge P) end end' carried closes (to_merge P end is))

pub closed_ok : (P : Type 0) (end end' : Result (Unit {0}) PlanStop) → ClosesAs end end' → OnOk end P → OnOk end' P
closed_ok P end (Ok x) closes is = subst (λ (e : Result (Unit {0}) PlanStop). OnOk e P) closes is
closed_ok P end (Err e) closes is = tt

-- where all groups were merged, all are told
pub ended_told : (end : Result (Unit {0}) PlanStop) (told history ns all : List ℕ) → OnOk (merge_end tt end) (told ≡ ns) → OnOk (merge_end tt end) (history ≡ ns) → OnOk end (history ≡ all) → OnOk end (told ≡ all)
ended_told (Ok x) told history ns all tells merged whole = tells ∙ (sym merged ∙ whole)
ended_told (Err e) told history ns all tells merged whole = tt

-- .. where no group was stopped, all of the history are told
pub fine_told : (end : Result (Unit {0}) PlanStop) (told history ns : List ℕ) → OnOk (merge_end tt end) (told ≡ ns) → OnOk (merge_end tt end) (history ≡ ns) → OnOk (merge_end tt end) (told ≡ history)
fine_told (Ok x) told history ns tells merged = tells ∙ sym merged
fine_told (Err (stops.Merge s)) told history ns tells merged = tt
fine_told (Err (stops.Build id)) told history ns tells merged = tells ∙ sym merged
fine_told (Err (stops.Image id)) told history ns tells merged = tells ∙ sym merged

pub closed_fine : (P : Type 0) (end end' : Result (Unit {0}) PlanStop) → ClosesAs end end' → OnOk (merge_end tt end) P → OnOk (merge_end tt end') P
closed_fine P end (Ok x) closes is = subst (λ (e : Result (Unit {0}) PlanStop). OnOk (merge_end tt e) P) closes is
closed_fine P end (Err (stops.Merge s)) closes is = tt
closed_fine P end (Err (stops.Build id)) closes is = subst (λ (e : Result (Unit {0}) PlanStop). OnOk (merge_end tt e) P) closes is
closed_fine P end (Err (stops.Image id)) closes is = subst (λ (e : Result (Unit {0}) PlanStop). OnOk (merge_end tt e) P) closes is

pub output_before : (end end' : Result (Unit {0}) PlanStop) → ClosesAs end end' → IsErrOf end' (stops.Merge merges.Output) → IsErrOf end (stops.Merge merges.Output)
output_before end end' closes is = subst (λ (e : Result (Unit {0}) PlanStop). ClosesAs end e) is closes

device_or_not : (end : Result (Unit {0}) PlanStop) → (IsErrOf end (stops.Merge (merges.Tree trees.Failed))) ⊎ (IsErrOf end (stops.Merge (merges.Tree trees.Failed)) → ⊥)
device_or_not (Ok x) = inr (λ e. cc e)
device_or_not (Err (stops.Merge (merges.Tree trees.Failed))) = inl refl
device_or_not (Err (stops.Merge (merges.Tree trees.Memory))) = inr (λ e. cc e)
device_or_not (Err (stops.Merge merges.Output)) = inr (λ e. cc e)
device_or_not (Err (stops.Merge (merges.Image b))) = inr (λ e. cc e)
device_or_not (Err (stops.Merge (merges.Claim s))) = inr (λ e. cc e)
device_or_not (Err (stops.Merge merges.Limit)) = inr (λ e. cc e)
device_or_not (Err (stops.Build id)) = inr (λ e. cc e)
device_or_not (Err (stops.Image id)) = inr (λ e. cc e)

-- the run of a plan ends so for a stop of its merge
abbrev pub fails_so : Result (Unit {0}) PlanStop → Stop → Type 0
fails_so end s = IsErrOf end (stops.Merge s)

-- the merge of a group counts what its run of the plan counts
pub merge_counts : (e s : Stop) (a b c : ℕ) (r : Result (Unit {0}) Stop) → r ≡ Err e → a ≤ b → CountsFault (IsErrOf r s) b c → CountsFault (fails_so (Err (stops.Merge e)) s) a c
merge_counts e s a b c r is le counts = let later = counts.later in record {
  later = omega (arith, le, later);
  rose = λ failed. let same : e ≡ s = cc failed in rose_earlier a b c le (counts.rose (is ∙ ap Err same));
}

pub counts_closed : (end end' : Result (Unit {0}) PlanStop) (a b c : ℕ) → CountsFault (IsErrOf end (stops.Merge (merges.Tree trees.Failed))) a b → b ≤ c
    → (IsErrOf end' (stops.Merge (merges.Tree trees.Failed)) → (IsErrOf end (stops.Merge (merges.Tree trees.Failed)) → ⊥) → Rose b c) → CountsFault (IsErrOf end' (stops.Merge (merges.Tree trees.Failed))) a c
counts_closed end end' a b c counts le rose = let later = counts.later in record {
  later = omega (arith, later, le);
  rose = λ failed. elim (device_or_not end) [
    | inl before ↦ rose_later a b c (counts.rose before) le
    | inr healthy ↦ rose_earlier a b c later (rose failed healthy)
  ];
}

-- ---- the machine

pub machine_for : {T S : Type 0} (a : SiteValue T S) (all ns history : List ℕ) (n : ℕ) → IsBeginning all ns → history ≡ map number a.keeping.order → length a.keeping.standings ≡ n
    → ((h : ℕ) → (Has (take (suc (length history)) ns) h → ⊥) → standing_in a.keeping.standings h ≡ resting) → HaveRun all n history a.keeping
machine_for a all ns history n begins order count rest = record {
  order = order;
  count = count;
  rest = λ h not. rest h (λ has. not (has_first all ns (suc (length history)) h begins has));
}

-- ---- a run that never began

failed_tree : (f : TreeFault) → merges.Tree f ≡ merges.Tree trees.Failed → f ≡ trees.Failed
failed_tree f is = cc is

pub memory_is : trees.Memory ≡ trees.Failed → ⊥
memory_is is = cc is

abbrev same_end : Result (Unit {0}) PlanStop → Result (Unit {0}) PlanStop → Type 0
same_end a b = a ≡ b

stop_in : (s r : Stop) → same_end (Err (stops.Merge s)) (Err (stops.Merge r)) → s ≡ r
stop_in s r is = cc is

module _ (f : TreeFault) (end : Result (Unit {0}) PlanStop) (is : end ≡ Err (stops.Merge (merges.Tree f))) where
  pub unmerged_plain : IfErr (merge_end tt end) (λ s. IsOfGroup s → ⊥)
  unmerged_plain = subst (λ (x : Result (Unit {0}) PlanStop). IfErr (merge_end tt x) (λ s. IsOfGroup s → ⊥)) (sym is) (λ of. of)

  pub unmerged_told : (P : Type 0) → IfErr (merge_end tt end) (λ s. IsOfGroup s → P)
  unmerged_told P = subst (λ (x : Result (Unit {0}) PlanStop). IfErr (merge_end tt x) (λ s. IsOfGroup s → P)) (sym is) (λ of. absurd of)

  pub unmerged_ok : (P : Type 0) → OnOk end P
  unmerged_ok P = subst (λ (x : Result (Unit {0}) PlanStop). OnOk x P) (sym is) tt

  pub unmerged_fine : (P : Type 0) → OnOk (merge_end tt end) P
  unmerged_fine P = subst (λ (x : Result (Unit {0}) PlanStop). OnOk (merge_end tt x) P) (sym is) tt

  pub unmerged_build : (Q : PlanStop → Type 0) → Q (stops.Merge (merges.Tree f)) → IfErr end Q
  unmerged_build Q q = subst (λ (x : Result (Unit {0}) PlanStop). IfErr x Q) (sym is) q

  pub unmerged_quiet : IsErrOf end (stops.Merge merges.Output) → ⊥
  unmerged_quiet failed = tree_quiet f (stop_in (merges.Tree f) merges.Output (sym is ∙ failed))

  pub unmerged_failed : IsErrOf end (stops.Merge (merges.Tree trees.Failed)) → f ≡ trees.Failed
  unmerged_failed failed = failed_tree f (stop_in (merges.Tree f) (merges.Tree trees.Failed) (sym is ∙ failed))

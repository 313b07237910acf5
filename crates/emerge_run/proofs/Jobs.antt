-- The jobs that are made for the groups of what is chosen.
use Rattle.std.proofs.Common.{◌≡◌, ◌∙◌, ◌<◌, ◌+◌, ◌++◌, ℕ, zero, suc, true, List, [], ◌∷◌, arith, eqb-true, get_or, length, map, refl, ap, sym, take}
use Rattle.std.specs.Prelude.{◌==◌, slice_get}
use Rattle.std.specs.List.{AllZip}
use Rattle.std.proofs.lemmas.List.{get_or-map, length-map, map-append, take_more}
use Rattle.plan_law.specs.Plans.{Group, group_at}
use Rattle.emerge_choose.specs.declared.chosen.Chosen.{Chosen}
use Rattle.emerge_find.specs.Shapes.{HaveAsMany, IsInShape}
use Rattle.run_turns.specs.Plans.{bytes_of_job, line_for, line_of_job, orders_at}
use Rattle.run_turns.specs.declared.job.Job.{Job}
use Rattle.plan_text.specs.Plans.{GroupValue, group_value, plan_value}
use Rattle.plan_text.specs.declared.plan.Group.{Group as TextGroup}
use Rattle.emerge_run.specs.Builds.{AreJobsOf, line_of, line_or_none, lines_from, ordered_of_job, orders_in, orders_or_none}
use Rattle.merge_report.specs.Texts.{done_line}

-- ---- what is at a place

line_at : (jobs : List Job) (plan : List Group) (k place : ℕ) → map bytes_of_job jobs ≡ lines_from (suc k) plan → line_of_job (slice_get jobs place) ≡ line_or_none (suc (k + place)) (slice_get plan place)
line_at [] [] k place e = refl
line_at [] (g ∷ gs) k place e = absurd (cc e)
line_at (j ∷ js) [] k place e = absurd (cc e)
line_at (j ∷ js) (g ∷ gs) k zero e =
    let head : bytes_of_job j ≡ done_line g (suc k) = cc e in
    let same : suc k ≡ suc (k + 0) = omega arith in
    head ∙ ap (λ n. done_line g n) same
line_at (j ∷ js) (g ∷ gs) k (suc place) e =
    let rest : map bytes_of_job js ≡ lines_from (suc (suc k)) gs = cc e in
    let same : suc (suc k + place) ≡ suc (k + suc place) = omega arith in
    line_at js gs (suc k) place rest ∙ ap (λ n. line_or_none n (slice_get gs place)) same

lines_are : (jobs : List Job) (plan : List Group) → map bytes_of_job jobs ≡ lines_from 1 plan → (n : ℕ) → line_for jobs n ≡ line_of plan n
lines_are jobs plan e zero = refl
lines_are jobs plan e (suc place) =
    let same : suc (0 + place) ≡ suc place = omega arith in
    line_at jobs plan 0 place e ∙ ap (λ n. line_or_none n (slice_get plan place)) same

orders_are : (jobs : List Job) (ts : List GroupValue) → map ordered_of_job jobs ≡ map orders_in ts → (place : ℕ) → orders_at jobs place ≡ orders_or_none (slice_get ts place)
orders_are [] [] e place = refl
orders_are [] (t ∷ ts) e place = absurd (cc e)
orders_are (j ∷ js) [] e place = absurd (cc e)
orders_are (j ∷ js) (t ∷ ts) e zero = cc e
orders_are (j ∷ js) (t ∷ ts) e (suc place) = let rest : map ordered_of_job js ≡ map orders_in ts = cc e in orders_are js ts rest place

orders_long : (ts : List GroupValue) (plan : List Group) (place : ℕ) → AllZip HaveAsMany ts plan → place < length plan → length (orders_or_none (slice_get ts place)) ≡ length (group_at plan place).additions
orders_long [] [] place zip lt = absurd (omega (arith, lt))
orders_long [] (g ∷ gs) place zip lt = absurd zip
orders_long (t ∷ ts) [] place zip lt = absurd zip
orders_long (t ∷ ts) (g ∷ gs) zero zip lt = zip.0
orders_long (t ∷ ts) (g ∷ gs) (suc place) zip lt = orders_long ts gs place zip.1 (omega (arith, lt))

lines_length : (k : ℕ) (plan : List Group) → length (lines_from k plan) ≡ length plan
lines_length k [] = refl
lines_length k (g ∷ gs) = ap suc (lines_length (suc k) gs)

-- ---- the jobs of a whole plan

pub jobs_are : (chosen : Chosen) (jobs : List Job) → IsInShape chosen → map bytes_of_job jobs ≡ lines_from 1 chosen.plan → map ordered_of_job jobs ≡ map orders_in (plan_value chosen.text) → AreJobsOf chosen jobs
jobs_are chosen jobs shape lines orders =
    let ts = plan_value chosen.text in
    record {
      are = record {
        count = sym (length-map jobs bytes_of_job) ∙ (ap length lines ∙ lines_length 1 chosen.plan);
        orders = λ place lt. ap length (orders_are jobs ts orders place) ∙ orders_long ts chosen.plan place shape.alike lt;
      };
      lines = lines_are jobs chosen.plan lines;
      orders = orders_are jobs ts orders;
    }

no_texts : (ts : List GroupValue) (plan : List Group) → AllZip HaveAsMany ts plan → plan ≡ [] → ts ≡ []
no_texts [] plan zip none = refl
no_texts (t ∷ ts) [] zip none = absurd zip
no_texts (t ∷ ts) (g ∷ gs) zip none = absurd (cc none)

-- a plan without groups has no jobs
pub no_jobs : (chosen : Chosen) → IsInShape chosen → chosen.plan ≡ [] → AreJobsOf chosen []
no_jobs chosen shape none =
    let texts = no_texts (plan_value chosen.text) chosen.plan shape.alike none in
    jobs_are chosen [] shape (sym (ap (lines_from 1) none)) (sym (ap (map orders_in) texts))

-- ---- one job more

lines_push : (k : ℕ) (gs : List Group) (g : Group) → lines_from k (gs ++ g ∷ []) ≡ lines_from k gs ++ done_line g (k + length gs) ∷ []
lines_push k [] g = let same : k ≡ k + 0 = omega arith in ap (λ n. done_line g n ∷ []) same
lines_push k (h ∷ hs) g =
    let same : suc k + length hs ≡ k + suc (length hs) = omega arith in
    ap (λ l. done_line h k ∷ l) (lines_push (suc k) hs g ∙ ap (λ n. lines_from (suc k) hs ++ done_line g n ∷ []) same)

length_taken : (plan : List Group) (i : ℕ) → i < length plan → length (take i plan) ≡ i
length_taken [] i lt = absurd (omega (arith, lt))
length_taken (g ∷ gs) zero lt = refl
length_taken (g ∷ gs) (suc i) lt = ap suc (length_taken gs i (omega (arith, lt)))

pub line_more : (jobs : List Job) (job : Job) (plan : List Group) (i : ℕ) (g : Group) → i < length plan → g ≡ get_or plan i g → map bytes_of_job jobs ≡ lines_from 1 (take i plan) → job.line.items ≡ done_line g (i + 1)
    → map bytes_of_job (jobs ++ job ∷ []) ≡ lines_from 1 (take (i + 1) plan)
line_more jobs job plan i g lt is so_far line =
    let next : take (i + 1) plan ≡ take i plan ++ g ∷ [] = take_more plan i g lt ∙ ap (λ (x : Group). take i plan ++ x ∷ []) (sym is) in
    let long = length_taken plan i lt in
    let number : i + 1 ≡ 1 + length (take i plan) = omega (arith, long) in
    map-append bytes_of_job jobs (job ∷ [])
    ∙ (ap (λ l. l ++ job.line.items ∷ []) so_far
    ∙ (ap (λ l. lines_from 1 (take i plan) ++ l ∷ []) (line ∙ ap (λ n. done_line g n) number)
    ∙ (sym (lines_push 1 (take i plan) g) ∙ sym (ap (lines_from 1) next))))

pub orders_more : (jobs : List Job) (job : Job) (ts : List GroupValue) (i : ℕ) (t : GroupValue) → i < length ts → t ≡ get_or ts i t → map ordered_of_job jobs ≡ map orders_in (take i ts) → job.orders.items ≡ orders_in t
    → map ordered_of_job (jobs ++ job ∷ []) ≡ map orders_in (take (i + 1) ts)
orders_more jobs job ts i t lt is so_far orders =
    let next : take (i + 1) ts ≡ take i ts ++ t ∷ [] = take_more ts i t lt ∙ ap (λ (x : GroupValue). take i ts ++ x ∷ []) (sym is) in
    map-append ordered_of_job jobs (job ∷ [])
    ∙ (ap (λ l. l ++ job.orders.items ∷ []) so_far
    ∙ (ap (λ l. map orders_in (take i ts) ++ l ∷ []) orders
    ∙ (sym (map-append orders_in (take i ts) (t ∷ [])) ∙ sym (ap (map orders_in) next))))

-- ---- texts beside their groups

pub texts_long : (ts : List TextGroup) (plan : List Group) → AllZip HaveAsMany (map group_value ts) plan → length ts ≡ length plan
texts_long [] [] zip = refl
texts_long [] (g ∷ gs) zip = absurd zip
texts_long (t ∷ ts) [] zip = absurd zip
texts_long (t ∷ ts) (g ∷ gs) zip = ap suc (texts_long ts gs zip.1)

pub text_at : (ts : List TextGroup) (i : ℕ) (t : TextGroup) → i < length ts → t ≡ get_or ts i t → group_value t ≡ get_or (map group_value ts) i (group_value t)
text_at ts i t lt is = sym (get_or-map group_value ts i t (group_value t) lt ∙ ap group_value (sym is))

take_whole : (ts : List GroupValue) → take (length ts) ts ≡ ts
take_whole [] = refl
take_whole (t ∷ ts) = ap (λ l. t ∷ l) (take_whole ts)

pub all_orders : (jobs : List Job) (ts : List TextGroup) (plan : List Group) → AllZip HaveAsMany (map group_value ts) plan → map ordered_of_job jobs ≡ map orders_in (take (length plan) (map group_value ts)) → map ordered_of_job jobs ≡ map orders_in (map group_value ts)
all_orders jobs ts plan zip so_far =
    let long : length plan ≡ length (map group_value ts) = sym (length-map ts group_value ∙ texts_long ts plan zip) in
    so_far ∙ ap (map orders_in) (ap (λ (n : ℕ). take n (map group_value ts)) long ∙ take_whole (map group_value ts))

pub no_groups : (plan : List Group) → (length plan == 0) ≡ true → plan ≡ []
no_groups [] e = refl
no_groups (g ∷ gs) e = absurd (let none = eqb-true (suc (length gs)) 0 e in cc none)

-- How the merge of a plan tells what a run leaves.
use Rattle.std.proofs.Common.{◌≡◌, ◌≢◌, ◌∙◌, ◌<◌, ℕ, zero, suc, Bool, true, false, List, [], ◌∷◌, Option, None, Some, Result, Ok, Err, inl, inr, arith, length, refl, ap, subst, sym, slice_get}
use Rattle.std.specs.Prelude.{Contains, IfErr, IsErrOf, OnOk, ⊤}
use Rattle.std.proofs.lemmas.List.{length-append}
use Rattle.build_pool.specs.declared.orders.Order.{Order}
use Rattle.dep_atom.specs.declared.package.PackageId.{PackageId}
use Rattle.file_tree.specs.Disk.{Map, Story}
use Rattle.file_tree.specs.declared.fault.TreeFault.TheVariants as trees
use Rattle.file_tree.specs.declared.limits.Quantity.{Quantity}
use Rattle.file_tree.specs.declared.limits.Quantity.TheVariants.{Paths, RecordBytes}
use Rattle.file_tree.specs.declared.objects.Entry.{Entry}
use Rattle.file_tree.specs.declared.objects.Kind.TheVariants.{Plain}
use Rattle.merge_image.specs.Images.{IsBuilt}
use Rattle.merge_image.specs.Images as seen
use Rattle.merge_image.specs.declared.limits.TheConstants.{MOST_ENTRIES}
use Rattle.vdb_law.specs.Packages.{Installed}
use Rattle.law_run.specs.Openings.{AreOwners}
use Rattle.owner_book.specs.Book.{Book}
use Rattle.owner_book.specs.declared.fault.Collision as books
use Rattle.merge_fit.specs.declared.fault.ImageBad.{ImageBad}
use Rattle.owner_book.specs.declared.fault.Collision.TheVariants as met
use Rattle.plan_law.specs.Plans.{Group}
use Rattle.merge_site.specs.declared.fault.ClaimStop.{ClaimStop}
use Rattle.merge_site.specs.declared.fault.ClaimStop.TheVariants as claims
use Rattle.merge_group.specs.Causes.{IsOfGroup}
use Rattle.merge_group.specs.Went.{WentWith}
use Rattle.merge_group.specs.declared.stop.Stop.{Stop}
use Rattle.merge_group.specs.declared.stop.Stop.TheVariants as stops
use Rattle.run_turns.specs.Plans.{orders_at}
use Rattle.run_turns.specs.declared.job.Job.{Job}
use Rattle.run_plan.specs.Runs.{SaysBuild, WentFor, WentOn, merge_end, upto}
use Rattle.run_plan.specs.declared.stop.PlanStop.{PlanStop}
use Rattle.run_plan.specs.declared.stop.PlanStop.TheVariants as plans
use Rattle.run_sound.specs.Ends.{AreMade, Images, Making}
use Rattle.emerge_run.specs.Answers.{AsksMerge}
use Rattle.emerge_run.specs.Outcomes.{IsOfMerge, IsTold, MergedTo}
use Rattle.emerge_run.specs.Package.{StopsAt}
use Rattle.emerge_run.specs.Collisions.{ids_with, owned_by, status_of_collision}
use Rattle.emerge_run.specs.Refusals.{EndsAtCollision, IsStatusOf, status_of_claim, status_of_end, status_of_stop}
use Rattle.merge_report.specs.declared.collision.Collision.{Collision}
use Rattle.merge_report.specs.declared.status.Status.{Status}
use Rattle.merge_report.specs.declared.status.Status.TheVariants as status

-- ---- images with too many entries

an_entry : Entry
an_entry = record { path = []; object = record { kind = Plain; bytes = [] } }

longer : (n : ℕ) → (image : List Entry) × (n < length image)
longer zero = (an_entry ∷ [], omega arith)
longer (suc n) = let rest = longer n in (an_entry ∷ rest.0, omega (arith, rest.1))

-- of a builder that tells nothing any image is one that it makes
module _ {B : Type 0} (told : B → Order → List Entry) (resting : List B) (order : Order) where
  untold : (b : B) → Contains resting b → (image : List Entry) × (MOST_ENTRIES < length image) → (image : List Entry) × IsBuilt false told resting order image × (MOST_ENTRIES < length image)
  untold b has (image, many) = (image, (b, has, λ t. absurd (cc t)), many)

  many_built : (tells : Bool) → seen.IsPastLimit tells told resting order → (image : List Entry) × IsBuilt tells told resting order image × (MOST_ENTRIES < length image)
  many_built true (b, has, many) = (told b order, (b, has, λ t. refl), many refl)
  many_built false (b, has, many) = untold b has (longer MOST_ENTRIES)

-- what is said of the builds, for these images
abbrev pub Builds : (Image : Images) → (Failed : Type 0) → List Job → List ℕ → PlanStop → Type 0
Builds Image Failed jobs history = SaysBuild (λ o. (image : List Entry) × Image o image × (MOST_ENTRIES < length image)) Failed (orders_at jobs (length history))

module _ {B : Type 0} (told : B → Order → List Entry) (resting : List B) (tells : Bool) (Failed : Type 0) (jobs : List Job) (history : List ℕ) where
  builds_stop : (e : PlanStop) → SaysBuild (seen.IsPastLimit tells told resting) Failed (orders_at jobs (length history)) e → Builds (IsBuilt tells told resting) Failed jobs history e
  builds_stop (plans.Merge s) says = tt
  builds_stop (plans.Build id) says = says
  builds_stop (plans.Image id) (o, has, is, many) = (o, has, is, many_built told resting o tells many)

  pub builds_end : (end : Result ⊤ PlanStop) → IfErr end (SaysBuild (seen.IsPastLimit tells told resting) Failed (orders_at jobs (length history))) → IfErr end (Builds (IsBuilt tells told resting) Failed jobs history)
  builds_end (Ok x) says = tt
  builds_end (Err e) says = builds_stop e says

-- ---- collisions

-- a collision of the book is told as one, or as want of memory
owned_kind : (P : Status → Type 0) → P status.Memory → ((c : Collision) → P (status.Collision c)) → (path : List ℕ) (o : Option PackageId) → P (owned_by path o)
owned_kind P memory some path None = memory
owned_kind P memory some path (Some id) = some _

collision_kind : (P : Status → Type 0) → P status.Memory → ((c : Collision) → P (status.Collision c)) → (ids : List PackageId) (k : books.Collision) → P (status_of_collision ids k)
collision_kind P memory some ids (met.Owned path key) = owned_kind P memory some path (slice_get ids key.number)
collision_kind P memory some ids (met.Claimed path group) = some _
collision_kind P memory some ids (met.Ancestor path other) = some _
collision_kind P memory some ids (met.Unowned path) = some _

-- ---- how it ended

-- a stop of the merge is one of its groups' merge
stop_in : (end : Result ⊤ PlanStop) (s : Stop) → IsErrOf (merge_end tt end) s → end ≡ Err (plans.Merge s)
stop_in (Ok x) s e = absurd (cc e)
stop_in (Err (plans.Merge t)) s e = let same : t ≡ s = cc e in ap (λ (x : Stop). Err (plans.Merge x)) same
stop_in (Err (plans.Build id)) s e = absurd (cc e)
stop_in (Err (plans.Image id)) s e = absurd (cc e)

module _ (Image : Images) (ps : List Installed) (plan : List Group) (jobs : List Job) (book : Book) (old new : Story) (owners : AreOwners old.now.holds ps book) (history : List ℕ) where
  abbrev m : Map
  m = old.now.holds

  abbrev ids : List PackageId
  ids = ids_with ps plan

  abbrev Made : Type 0
  Made = Making Image ps plan jobs m

  abbrev Stops : Stop → Type 0
  Stops s = StopsAt Image ps plan jobs m (length history) s

  abbrev Asked : Status → Type 0
  Asked s = AsksMerge Image ps plan jobs m history s

  abbrev Goes : Result ⊤ Stop → Type 0
  Goes e = WentFor Image book ps plan jobs old new history e

  abbrev making : (e : Result ⊤ Stop) → WentOn Image book ps plan jobs old new history e → Made
  making e w = record { book = book; groups = w.groups; turns = w.turns; is = record { owners = owners; opened_for = w.opened_for; held = w.held; owned = w.owned; made = w.made } }

  -- what was made, if anything was, and how its merge went
  way_of : (e : Result ⊤ Stop) → Goes e → (k : Option Made) × WentWith (AreMade k) old new history e
  way_of e (inl w) = (None, w.0)
  way_of e (inr w) = (Some (making e w), w.went)

  stopped : (s : Stop) → IsOfGroup s → Goes (Err s) → Stops s
  stopped s of (inl w) = absurd (w.1 of)
  stopped s of (inr w) = record { making = making (Err s) w; behind = w.cause }

  owned_asks : (k : books.Collision) (path : List ℕ) (o : Option PackageId) → status_of_collision ids k ≡ owned_by path o → Stops (stops.Claim (claims.Collision k)) → Asked (owned_by path o)
  owned_asks k path None e h = tt
  owned_asks k path (Some id) e h = (k, e, h)

  collision_asks : (k : books.Collision) → Stops (stops.Claim (claims.Collision k)) → Asked (status_of_collision ids k)
  collision_asks (met.Owned path key) h = owned_asks (met.Owned path key) path (slice_get ids key.number) refl h
  collision_asks (met.Claimed path group) h = (met.Claimed path group, refl, h)
  collision_asks (met.Ancestor path other) h = (met.Ancestor path other, refl, h)
  collision_asks (met.Unowned path) h = (met.Unowned path, refl, h)

  claim_asks : (s : ClaimStop) → Stops (stops.Claim s) → Asked (status_of_claim ids s)
  claim_asks (claims.Collision c) h = collision_asks c h
  claim_asks (claims.Image b) h = inr h
  claim_asks (claims.Removal p) h = tt
  claim_asks claims.Overlap h = tt
  claim_asks claims.Limit h = inr h
  claim_asks (claims.Tree of) h = tt

  stop_asks : (s : Stop) → Goes (Err s) → Asked (status_of_stop ids s)
  stop_asks stops.Output went = tt
  stop_asks (stops.Image b) went = inl (stopped (stops.Image b) tt went)
  stop_asks (stops.Claim s) went = claim_asks s (stopped (stops.Claim s) tt went)
  stop_asks stops.Limit went = stopped stops.Limit tt went
  stop_asks (stops.Tree trees.Failed) went = tt
  stop_asks (stops.Tree trees.Memory) went = tt

  module _ (Failed : Type 0) where
    ended_asks : (end : Result ⊤ PlanStop) → Goes (merge_end tt end) → OnOk end (history ≡ upto (length plan)) → IfErr end (Builds Image Failed jobs history) → Asked (status_of_end ids (length plan) end)
    ended_asks (Ok x) went all builds = (all, refl)
    ended_asks (Err (plans.Merge s)) went all builds = stop_asks s went
    ended_asks (Err (plans.Build id)) went all (o, has, is, failed) = (o, has, is)
    ended_asks (Err (plans.Image id)) went all (o, has, is, (image, made, many)) = inl (record { order = o; ordered = has; image = image; made = made; many = many })

    pub asked_so : (end : Result ⊤ PlanStop) (s : Status) → IsStatusOf ids (length plan) end s → Goes (merge_end tt end) → OnOk end (history ≡ upto (length plan)) → IfErr end (Builds Image Failed jobs history) → Asked s
    asked_so end s (inl is) went all builds = subst Asked (sym is) (ended_asks end went all builds)
    asked_so end s (inr (memory, collides)) went all builds = subst Asked (sym memory) tt

  healthy : (end : Result ⊤ PlanStop) (s : Status) → IsStatusOf ids (length plan) end s → s ≢ status.DeviceFault → IsErrOf (merge_end tt end) (stops.Tree trees.Failed) → ⊥
  healthy end s (inl is) h e = h (is ∙ ap (status_of_end ids (length plan)) (stop_in end (stops.Tree trees.Failed) e))
  healthy end s (inr (memory, collides)) h e = subst EndsAtCollision (stop_in end (stops.Tree trees.Failed) e) collides

  fed : (end : Result ⊤ PlanStop) (s : Status) → IsStatusOf ids (length plan) end s → s ≢ status.Memory → IsErrOf (merge_end tt end) (stops.Tree trees.Memory) → ⊥
  fed end s (inl is) h e = h (is ∙ ap (status_of_end ids (length plan)) (stop_in end (stops.Tree trees.Memory) e))
  fed end s (inr (memory, collides)) h e = h memory

  pub merged_to : (end : Result ⊤ PlanStop) (s : Status) → IsStatusOf ids (length plan) end s → Goes (merge_end tt end) → MergedTo Image ps plan jobs old new history s
  merged_to end s is went =
      let way = way_of (merge_end tt end) went in
      let w = way.1 in
      record {
        made = way.0;
        moments = w.moments;
        crash = w.crash;
        left = λ h. w.left (healthy end s is h);
        tree = λ h k. w.tree (healthy end s is h) (fed end s is k);
      }

-- ---- which statuses a merge ends with

module _ (ids : List PackageId) (n : ℕ) where
  claim_of_merge : (s : ClaimStop) → IsOfMerge (status_of_claim ids s)
  claim_of_merge (claims.Collision c) = collision_kind IsOfMerge tt (λ k. tt) ids c
  claim_of_merge (claims.Image b) = tt
  claim_of_merge (claims.Removal p) = tt
  claim_of_merge claims.Overlap = tt
  claim_of_merge claims.Limit = tt
  claim_of_merge (claims.Tree of) = tt

  all_of_merge : (end : Result ⊤ PlanStop) → IsOfMerge (status_of_end ids n end)
  all_of_merge (Ok x) = tt
  all_of_merge (Err (plans.Merge stops.Output)) = tt
  all_of_merge (Err (plans.Merge (stops.Image b))) = tt
  all_of_merge (Err (plans.Merge (stops.Claim s))) = claim_of_merge s
  all_of_merge (Err (plans.Merge stops.Limit)) = tt
  all_of_merge (Err (plans.Merge (stops.Tree trees.Failed))) = tt
  all_of_merge (Err (plans.Merge (stops.Tree trees.Memory))) = tt
  all_of_merge (Err (plans.Build id)) = tt
  all_of_merge (Err (plans.Image id)) = tt

  pub end_of_merge : (end : Result ⊤ PlanStop) (s : Status) → IsStatusOf ids n end s → IsOfMerge s
  end_of_merge end s (inl is) = subst IsOfMerge (sym is) (all_of_merge end)
  end_of_merge end s (inr (memory, collides)) = subst IsOfMerge (sym memory) tt

module _ (ids : List PackageId) (n : ℕ) (this : Status) (P : Result ⊤ PlanStop → Type 0)
    (ok : status.Ok n ≡ this → P (Ok tt)) (device : status.DeviceFault ≡ this → P (Err (plans.Merge (stops.Tree trees.Failed)))) (output : status.OutputFault ≡ this → P (Err (plans.Merge stops.Output)))
    (build : (id : PackageId) → status.BuildFailed id ≡ this → P (Err (plans.Build id)))
    (no_memory : status.Memory ≡ this → ⊥) (no_collision : (c : Collision) → status.Collision c ≡ this → ⊥) (no_image : (b : ImageBad) → status.BadImage b ≡ this → ⊥) (no_limit : (q : Quantity) → status.Limit q ≡ this → ⊥) where
  at_claim : (s : ClaimStop) → status_of_claim ids s ≡ this → P (Err (plans.Merge (stops.Claim s)))
  at_claim (claims.Collision c) e = absurd (collision_kind (λ s. s ≡ this → ⊥) no_memory no_collision ids c e)
  at_claim (claims.Image b) e = absurd (no_image b e)
  at_claim (claims.Removal p) e = absurd (no_memory e)
  at_claim claims.Overlap e = absurd (no_memory e)
  at_claim claims.Limit e = absurd (no_limit Paths e)
  at_claim (claims.Tree of) e = absurd (no_memory e)

  at_end : (end : Result ⊤ PlanStop) → status_of_end ids n end ≡ this → P end
  at_end (Ok x) e = ok e
  at_end (Err (plans.Merge stops.Output)) e = output e
  at_end (Err (plans.Merge (stops.Image b))) e = absurd (no_image b e)
  at_end (Err (plans.Merge (stops.Claim s))) e = at_claim s e
  at_end (Err (plans.Merge stops.Limit)) e = absurd (no_limit RecordBytes e)
  at_end (Err (plans.Merge (stops.Tree trees.Failed))) e = device e
  at_end (Err (plans.Merge (stops.Tree trees.Memory))) e = absurd (no_memory e)
  at_end (Err (plans.Build id)) e = build id e
  at_end (Err (plans.Image id)) e = absurd (no_limit Paths e)

  -- an end that is told so is one that has P
  told_so : (end : Result ⊤ PlanStop) (s : Status) → IsStatusOf ids n end s → s ≡ this → P end
  told_so end s (inl is) e = at_end end (sym is ∙ e)
  told_so end s (inr (memory, collides)) e = absurd (no_memory (sym memory ∙ e))

module _ (ids : List PackageId) (n : ℕ) (end : Result ⊤ PlanStop) (s : Status) (is : IsStatusOf ids n end s) where
  pub ok_ended : (k : ℕ) → s ≡ status.Ok k → (end ≡ Ok tt) × (k ≡ n)
  ok_ended k e = told_so ids n (status.Ok k) (λ r. (r ≡ Ok tt) × (k ≡ n)) (λ q. (refl, cc q)) (λ q. absurd (cc q)) (λ q. absurd (cc q)) (λ id q. absurd (cc q)) (λ q. cc q) (λ c q. cc q) (λ b q. cc q) (λ l q. cc q) end s is e

  pub device_ended : s ≡ status.DeviceFault → IsErrOf end (plans.Merge (stops.Tree trees.Failed))
  device_ended e = told_so ids n status.DeviceFault (λ r. IsErrOf r (plans.Merge (stops.Tree trees.Failed))) (λ q. absurd (cc q)) (λ q. refl) (λ q. absurd (cc q)) (λ id q. absurd (cc q)) (λ q. cc q) (λ c q. cc q) (λ b q. cc q) (λ l q. cc q) end s is e

  pub output_ended : s ≡ status.OutputFault → IsErrOf end (plans.Merge stops.Output)
  output_ended e = told_so ids n status.OutputFault (λ r. IsErrOf r (plans.Merge stops.Output)) (λ q. absurd (cc q)) (λ q. absurd (cc q)) (λ q. refl) (λ id q. absurd (cc q)) (λ q. cc q) (λ c q. cc q) (λ b q. cc q) (λ l q. cc q) end s is e

  build_ended : (id : PackageId) → s ≡ status.BuildFailed id → IsErrOf end (plans.Build id)
  build_ended id e = told_so ids n (status.BuildFailed id) (λ r. IsErrOf r (plans.Build id)) (λ q. absurd (cc q)) (λ q. absurd (cc q)) (λ q. absurd (cc q)) (λ other q. let same : other ≡ id = cc q in ap (λ (x : PackageId). Err (plans.Build x)) same) (λ q. cc q) (λ c q. cc q) (λ b q. cc q) (λ l q. cc q) end s is e

  -- a builder's failure is told for the builder that failed
  pub failed_ended : (Many : Order → Type 0) (Failed : Type 0) (orders : List Order) (id : PackageId) → IfErr end (SaysBuild Many Failed orders) → s ≡ status.BuildFailed id → Failed
  failed_ended Many Failed orders id says e =
      let built = subst (λ (r : Result ⊤ PlanStop). IfErr r (SaysBuild Many Failed orders)) (build_ended id e) says in
      built.3

-- what holds where no group was stopped, or the stop is one of a group, holds where the status tells
told_at : {X : Type 0} (owners : List PackageId) (n : ℕ) (end : Result ⊤ PlanStop) → IfErr (merge_end tt end) (λ e. IsOfGroup e → X) → OnOk (merge_end tt end) X → IsTold (status_of_end owners n end) → X
told_at owners n (Ok x) stop ok of = ok
told_at owners n (Err (plans.Merge stops.Output)) stop ok of = absurd of
told_at owners n (Err (plans.Merge (stops.Image b))) stop ok of = stop tt
told_at owners n (Err (plans.Merge (stops.Claim s))) stop ok of = stop tt
told_at owners n (Err (plans.Merge stops.Limit)) stop ok of = stop tt
told_at owners n (Err (plans.Merge (stops.Tree trees.Failed))) stop ok of = absurd of
told_at owners n (Err (plans.Merge (stops.Tree trees.Memory))) stop ok of = absurd of
told_at owners n (Err (plans.Build id)) stop ok of = ok
told_at owners n (Err (plans.Image id)) stop ok of = ok

pub told_ended : {X : Type 0} (owners : List PackageId) (n : ℕ) (end : Result ⊤ PlanStop) (s : Status) → IsStatusOf owners n end s → IfErr (merge_end tt end) (λ e. IsOfGroup e → X) → OnOk (merge_end tt end) X → IsTold s → X
told_ended owners n end s (inl is) stop ok of = told_at owners n end stop ok (subst IsTold is of)
told_ended owners n end s (inr (memory, collides)) stop ok of = absurd (subst IsTold memory of)

-- ---- a history of all groups

length_upto : (n : ℕ) → length (upto n) ≡ n
length_upto zero = refl
length_upto (suc n) = let one = length-append (upto n) (suc n ∷ []) in let k = length_upto n in omega (arith, one, k)

pub all_counted : (end : Result ⊤ PlanStop) (n k : ℕ) (history : List ℕ) → OnOk end (history ≡ upto n) → (end ≡ Ok tt) × (k ≡ n) → k ≡ length history
all_counted end n k history all (ended, same) =
    let told : history ≡ upto n = subst (λ (r : Result ⊤ PlanStop). OnOk r (history ≡ upto n)) ended all in
    same ∙ sym (ap length told ∙ length_upto n)

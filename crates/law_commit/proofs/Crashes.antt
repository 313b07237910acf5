-- What a crash leaves while a plan is merged recovers to a sound tree.
use Rattle.std.proofs.Common.{◌≡◌, ◌<◌, ℕ, Bool, true, false, cond, not, List, [], ◌∷◌, filter, length, map, inl, inr, refl, sym, ap, subst, arith, ◌∙◌}
use Rattle.basics.specs.Members.{AreDistinct, Has}
use Rattle.basics.proofs.Membership.{has-append_right, has-map, has-map_back, has-filter_back}
use Rattle.file_tree.specs.Disk.{Disk, Map, Story}
use Rattle.file_tree.specs.Moments.{Leaves}
use Rattle.file_tree.proofs.Moments.{since_weaker}
use Rattle.merge_journal.specs.Open.{IsRising, open_groups}
use Rattle.merge_journal.specs.Recovered.{IsRecovered}
use Rattle.merge_journal.specs.Group.{Group, applied, groups}
use Rattle.merge_journal.proofs.Forms.{groups_has}
use Rattle.merge_core.specs.Event.{Admits, Event, answered, begun}
use Rattle.merge_core.specs.Order.{IsFirm, IsInOrder, IsListed}
use Rattle.merge_core.specs.Phase.{is_settled, was_opened}
use Rattle.merge_core.specs.Roll.{Machine, Roll, RecoversCommitted, committed, group_at, idle, others, phase_at}
use Rattle.merge_core.specs.Runs.{AllWait, IsFollowing, IsRunFrom, Waits}
use Rattle.merge_core.specs.Trail.{Entry, EventKeeps, Happens, IsAtRest, machine_after}
use Rattle.merge_core.proofs.Runs.{opened_begun, run_then}
use Rattle.merge_core.proofs.Stays.{Stays, stays_then}
use Rattle.vdb_law.specs.Packages.{Installed}
use Rattle.vdb_law.specs.Step.{Change, groups_of}
use Rattle.plan_law.specs.Plans as plans
use Rattle.basics.proofs.Members.{distinct_joined}
use Rattle.law_commit.specs.Commits.{CommitsLeaveSoundTrees}
use Rattle.law_commit.specs.Crashes.{AreStepsAllAlong, AreStepsCommitted, CrashesRecoverSoundly, EachMomentRecoversSoundly, IsPlanned, Merges, RecoversSoundly, SoundTrail}
use Rattle.law_commit.proofs.Stays.{answer_stays, begun_listed, run_stays}

abbrev pub number : Group → ℕ
number x = x.content.group

-- different elements with a number each have different numbers
numbers_differ : (xs : List Group) → ((x y : Group) → Has xs x → Has xs y → number x ≡ number y → x ≡ y) → AreDistinct xs → AreDistinct (map number xs)
numbers_differ [] one d = tt
numbers_differ (x ∷ xs) one d = (
  (λ h. let k = has-map_back number xs (number x) h in d.0 (subst (λ (z : Group). Has xs z) (one k.0 x (inr k.1) (inl refl) k.2) k.1)),
  numbers_differ xs (λ a b ha hb. one a b (inr ha) (inr hb)) d.1,
)

pub numbers_of : (f : ℕ → Group) → ((n : ℕ) → number (f n) ≡ n) → (ns : List ℕ) → map number (groups f ns) ≡ ns
numbers_of f own [] = refl
numbers_of f own (n ∷ ns) = ap (λ (k : ℕ). k ∷ map number (groups f ns)) (own n) ∙ ap (λ (ks : List ℕ). n ∷ ks) (numbers_of f own ns)

pub rising_differ : (ns : List ℕ) → IsRising ns → AreDistinct ns
rising_differ [] rising = tt
rising_differ (n ∷ ns) rising = ((λ h. let less = rising.0 n h in absurd (omega (arith, less))), rising_differ ns rising.1)

kept_step : (b : Bool) (n : ℕ) (ns : List ℕ) → ¬ Has ns n → AreDistinct ns → AreDistinct (cond b (n ∷ ns) ns)
kept_step true n ns none d = (none, d)
kept_step false n ns none d = d

pub kept_differ : (test : ℕ → Bool) (ns : List ℕ) → AreDistinct ns → AreDistinct (filter test ns)
kept_differ test [] d = tt
kept_differ test (n ∷ ns) d = kept_step (test n) n (filter test ns) (λ h. d.0 (has-filter_back test ns n h).0) (kept_differ test ns d.1)

module _ (r : Roll) (listed : IsListed r) (c : Map) (rising : IsRising (open_groups c)) where
  one_each : (x y : Group) → Has r.order x → Has r.order y → number x ≡ number y → x ≡ y
  one_each x y hx hy e = (listed.only x hx).1 ∙ ap (group_at r) e ∙ sym (listed.only y hy).1

  apart : (x y : Group) → Has r.order x → Has (groups (group_at r) (others r c)) y → ¬ (number x ≡ number y)
  apart x y hx hy e =
      let k = groups_has (group_at r) (others r c) y hy in
      let open_one = has-filter_back (λ g. not (is_settled (phase_at r g))) (open_groups c) k.0 k.1 in
      let settled = (listed.only x hx).0 in
      let same : number x ≡ k.0 = e ∙ ap number k.2 in
      let turned : not (is_settled (phase_at r k.0)) ≡ false = ap not (ap (λ (g : ℕ). is_settled (phase_at r g)) (sym same) ∙ settled) in
      absurd (cc (turned, open_one.1))

  -- each committed group has a number of its own
  pub committed_differ : AreDistinct (map number (committed r c))
  committed_differ = distinct_joined number r.order (groups (group_at r) (others r c))
      (numbers_differ r.order one_each listed.distinct)
      (subst (λ (ns : List ℕ). AreDistinct ns) (sym (numbers_of (group_at r) (λ n. refl) (others r c)))
      (kept_differ (λ g. not (is_settled (phase_at r g))) (open_groups c) (rising_differ (open_groups c) rising)))
      apart

module _ (plan : List plans.Group) where
  goes_on : (xs : List Group) (there : List ℕ) → IsRunFrom (λ g. (plans.group_at plan g).after) there xs → AreDistinct (map number xs)
      → ((x : Group) → Has xs x → ¬ Has there (number x)) → ((x : Group) → Has xs x → number x < length plan) → plans.GoesOn plan there (map number xs)
  goes_on [] there run d new within = tt
  goes_on (x ∷ xs) there run d new within = (
    within x (inl refl),
    new x (inl refl),
    run.0,
    goes_on xs (number x ∷ there) run.1 d.1
        (λ y hy h. elim h [
          | inl e ↦ d.0 (subst (λ (n : ℕ). Has (map number xs) n) (sym e) (has-map number xs y hy))
          | inr old ↦ new y (inr hy) old
        ])
        (λ y hy. within y (inr hy)),
  )

  -- the changes of the committed groups do just these
  does_these : (change : ℕ → Change) (xs : List Group) → ((x : Group) → Has xs x → (change (number x)).does ≡ x) → groups_of (map change (map number xs)) ≡ xs
  does_these change [] same = refl
  does_these change (x ∷ xs) same =
      ap (λ (y : Group). y ∷ groups_of (map change (map number xs))) (same x (inl refl)) ∙ ap (λ (ys : List Group). x ∷ ys) (does_these change xs (λ y hy. same y (inr hy)))

-- what is committed is a run, where a crash left a map that stands
stood_run : (opening : Map) (after : ℕ → List ℕ) (r : Roll) (c : Map) → RecoversCommitted opening r c → IsListed r → IsFollowing after r → IsRunFrom after [] (committed r c)
stood_run opening after r c stands listed follows =
    run_then after [] r.order (groups (group_at r) (others r c)) follows.run (λ y hy h has.
    let begins = opened_begun (phase_at r (number y)) (stands.opened y (has-append_right r.order (groups (group_at r) (others r c)) y hy)).0 in
    let told = follows.told (number y) h begins has in
    inr (group_at r h, listed.has h (ap is_settled told), refl))

-- where a map stands, it recovers to a sound tree
pub stands_soundly : ((c : Map) → IsRising (open_groups c)) → CommitsLeaveSoundTrees
    → (flags : List (List ℕ)) (plan : List plans.Group) (change : ℕ → Change) (opening : Map) (ps : List Installed) (r : Roll) (c : Map) → IsPlanned flags plan change opening ps → IsListed r → Merges r plan change
    → AreStepsCommitted opening r change ps → RecoversCommitted opening r c → RecoversSoundly flags opening r plan change c
stands_soundly rise commits flags plan change opening ps r c planned listed merges steps stands =
    let within : (x : Group) → Has (committed r c) x → number x < length plan = λ x h. merges.there (number x) (stands.opened x h).0 in
    let run : List ℕ = map number (committed r c) in
    let is_run : plans.IsRun plan run = goes_on plan (committed r c) [] (stood_run opening (λ g. (plans.group_at plan g).after) r c stands listed merges.follows) (committed_differ r listed c (rise c)) (λ x h none. none) within in
    let same : (x : Group) → Has (committed r c) x → (change (number x)).does ≡ x = λ x h. merges.does (number x) (stands.opened x h).0 ∙ sym (stands.opened x h).1 in
    let opened : (g : ℕ) → Has run g → was_opened (phase_at r g) ≡ true = λ g h. (let k = has-map_back number (committed r c) g h in subst (λ (n : ℕ). was_opened (phase_at r n) ≡ true) k.2 (stands.opened k.0 k.1).0) in
    let went = steps c stands in
    let whole : groups_of (map change run) ≡ committed r c = does_these plan change (committed r c) same in
    record {
      run = run;
      is_run = is_run;
      settled = λ g e. has-map number (committed r c) (group_at r g) (stands.settled g e);
      opened = opened;
      recovers = subst (λ (gs : List Group). IsRecovered c (applied opening gs)) (sym whole) stands.recovers;
      database = went.0;
      sound = commits flags plan change opening ps went.0 run planned.earlier planned.accepted planned.changes planned.database planned.kept is_run went.1;
    }

-- a machine on the way merges the plan where the one at the end does
merges_before : (plan : List plans.Group) (change : ℕ → Change) (r s : Roll) → IsFollowing (λ g. (plans.group_at plan g).after) r → Stays r s → Merges s plan change → Merges r plan change
merges_before plan change r s follows stays merges = record {
  follows = follows;
  there = λ g o. merges.there g (stays g o).0;
  does = λ g o. let k = stays g o in merges.does g k.0 ∙ k.1;
}

-- what the laws below say of one event
pub record Laws : Type 0 where
  pub rise : (c : Map) → IsRising (open_groups c)
  pub commits : CommitsLeaveSoundTrees
  pub keeps : (opening : Map) (m : Machine) (e : Event) → EventKeeps opening m e
  pub follows : (opening : Map) (after : ℕ → List ℕ) (m : Machine) (d : Disk) (e : Event) (ok : Bool) → IsInOrder opening m d → IsFollowing after m.roll → Admits m e → Waits after m e → IsFollowing after (answered m e ok).roll

module _ (laws : Laws) (flags : List (List ℕ)) (plan : List plans.Group) (change : ℕ → Change) (opening : Map) (ps : List Installed) (planned : IsPlanned flags plan change opening ps) where
  abbrev after : ℕ → List ℕ
  after g = (plans.group_at plan g).after

  pub walk : (m : Machine) (old new : Story) (es : List Entry) → IsInOrder opening m old.now → IsFollowing after m.roll → Happens m old es new → AllWait after m es
      → Merges (machine_after m es).roll plan change → AreStepsAllAlong opening change ps m es → SoundTrail flags opening plan change m old es new
  walk m old new [] order follows happens waits merges steps = happens
  walk m old new (e ∷ es) order follows happens waits merges steps =
      let next = answered m e.0 e.1 in
      let last = (machine_after next es).roll in
      let kept = laws.keeps opening m e.0 old happens.0 e.1 order happens.1 happens.2 happens.3 in
      let stays = stays_then (begun m e.0).roll next.roll last (answer_stays m e.0 e.1 happens.2) (run_stays next happens.0 new es happens.4) in
      let during = laws.follows opening after m old.now e.0 false order follows happens.2 waits.0 in (
        happens.0,
        since_weaker (RecoversCommitted opening (begun m e.0).roll) (RecoversSoundly flags opening (begun m e.0).roll plan change)
            (λ c stands. stands_soundly laws.rise laws.commits flags plan change opening ps (begun m e.0).roll c planned (begun_listed m e.0 happens.2 order.listed)
            (merges_before plan change (begun m e.0).roll last during stays merges) steps.0 stands)
            old happens.0 kept.1,
        walk next happens.0 new es kept.0 (laws.follows opening after m old.now e.0 e.1 order follows happens.2 waits.0) happens.4 waits.1 merges steps.1,
      )

pub crashes_recover_soundly : Laws → ((opening : Map) (r : Roll) (d : Disk) → IsFirm opening r d → IsListed r → Leaves (RecoversCommitted opening r) d) → CrashesRecoverSoundly
crashes_recover_soundly laws stand flags plan change opening ps r d c planned firm listed merges steps image =
    stands_soundly laws.rise laws.commits flags plan change opening ps r c planned listed merges steps (stand opening r d firm listed c image)

pub each_moment_recovers_soundly : Laws → ((opening : Map) (d : Disk) → IsAtRest opening d → IsInOrder opening idle d) → ((after : ℕ → List ℕ) → IsFollowing after idle.roll) → EachMomentRecoversSoundly
each_moment_recovers_soundly laws begins idles flags plan change opening ps old new es planned rest happens waits merges steps =
    walk laws flags plan change opening ps planned idle old new es (begins opening old.now rest) (idles (λ g. (plans.group_at plan g).after)) happens waits merges steps

-- Where only good claims are granted, what a crash commits are steps one after another.
use Rattle.std.proofs.Common.{◌≡◌, ◌++◌, ◌∙◌, ℕ, Bool, true, false, not, List, [], ◌∷◌, Option, None, map, inl, inr, refl, sym, ap, subst}
use Rattle.std.proofs.lemmas.Bool.{cases_Bool, cond-false, cond-true, not-true}
use Rattle.std.proofs.lemmas.List.{map-append}
use Rattle.basics.specs.Members.{AreDistinct, Has}
use Rattle.basics.proofs.Membership.{has-append_right, has-filter_back}
use Rattle.file_tree.specs.Disk.{Map, Story}
use Rattle.file_tree.specs.Paths.{is_below}
use Rattle.file_tree.specs.Fixed.{jobs}
use Rattle.merge_journal.specs.Open.{IsRising, open_groups}
use Rattle.dep_atom.proofs.Joined.{ComesApart}
use Rattle.vdb_paths.proofs.Packages.{OneSpelling}
use Rattle.merge_journal.specs.Group.{Group, applied, groups, with_groups}
use Rattle.merge_journal.proofs.Changes.{groups-append}
use Rattle.merge_journal.proofs.Forms.{has_groups}
use Rattle.merge_core.specs.Event.{Abandon, Acknowledge, Admits, Begin, Claim, CloseGate, Event, OpenGate, PlacePath, PutRecord, PutStage, PutToken, RemovePath, SyncClosed, SyncGate, SyncPlaced, SyncSealed, answered, begun}
use Rattle.merge_core.specs.Phase.{is_settled, was_opened}
use Rattle.merge_core.specs.Roll.{Machine, Roll, Standing, group_at, idle, others, phase_at, set}
use Rattle.merge_core.specs.Trail.{Entry, Happens, machine_after}
use Rattle.merge_core.proofs.Standings.{by_group, set_with}
use Rattle.vdb_law.specs.Database.{IsDatabase, IsKept}
use Rattle.vdb_law.specs.Packages.{Installed}
use Rattle.vdb_law.specs.Step.{AreSteps, Change, GroupKeepsDatabase, GroupsKeepDatabase, SomeAfter, groups_of}
use Rattle.vdb_law.proofs.Law.{applied_behind}
use Rattle.plan_law.specs.Plans as plans
use Rattle.law_commit.specs.Claims.{AreBeside, GoodClaimsSuffice, GrantsWell, GrantsWellAllAlong, IsGoodClaim, MayCome, is_granted, settled_numbers}
use Rattle.law_commit.specs.Crashes.{AreStepsAllAlong, AreStepsCommitted, IsPlanned, Merges, committed_numbers}
use Rattle.law_commit.proofs.Beside.{back, still_beside, still_comes}
use Rattle.law_commit.proofs.Crashes.{kept_differ, number, numbers_of, rising_differ}
use Rattle.law_commit.proofs.Stays.{run_stays}

-- nothing stands below the journal's folder
abbrev IsClear : Map → Type 0
IsClear m = (q : List ℕ) → is_below jobs q ≡ true → m q ≡ None

applied_none : (m : Map) → IsClear m → applied m [] ≡ m
applied_none m clear i q = at_path q i where
  at_path : (p : List ℕ) → applied m [] p ≡ m p
  at_path p = elim (cases_Bool (is_below jobs p)) [
    | inl e ↦ cond-true (is_below jobs p) None (m p) e ∙ sym (clear p e)
    | inr e ↦ cond-false (is_below jobs p) None (m p) e
  ]

applied_clear : (m : Map) (gs : List Group) → IsClear (applied m gs)
applied_clear m gs q e = cond-true (is_below jobs q) None (with_groups gs q (m q)) e

applied_twice : (m : Map) (gs hs : List Group) → applied (applied m gs) hs ≡ applied m (gs ++ hs)
applied_twice m gs hs i q = at_path q i where
  at_path : (p : List ℕ) → applied (applied m gs) hs p ≡ applied m (gs ++ hs) p
  at_path p = elim (cases_Bool (is_below jobs p)) [
    | inl e ↦ cond-true (is_below jobs p) None (with_groups hs p (applied m gs p)) e ∙ sym (cond-true (is_below jobs p) None (with_groups (gs ++ hs) p (m p)) e)
    | inr e ↦ cond-false (is_below jobs p) None (with_groups hs p (applied m gs p)) e
        ∙ ap (λ (x : Option _). with_groups hs p x) (cond-false (is_below jobs p) None (with_groups gs p (m p)) e)
        ∙ sym (groups-append gs hs p (m p))
        ∙ sym (cond-false (is_below jobs p) None (with_groups (gs ++ hs) p (m p)) e)
  ]

-- steps behind steps
steps_then : (cs ds : List Change) (m : Map) (ps mid qs : List Installed) → IsClear m → AreSteps cs m ps mid → AreSteps ds (applied m (groups_of cs)) mid qs → AreSteps (cs ++ ds) m ps qs
steps_then [] ds m ps mid qs clear same more =
    subst (λ (xs : List Installed). AreSteps ds m xs qs) same (subst (λ (n : Map). AreSteps ds n mid qs) (applied_none m clear) more)
steps_then (c ∷ cs) ds m ps mid qs clear steps more =
    let whole : applied (applied m (c.does ∷ [])) (groups_of cs) ≡ applied m (groups_of (c ∷ cs)) = λ i q. applied_behind m c.does (groups_of cs) q i in (
      steps.0,
      (
        steps.1.0,
        steps.1.1,
        steps_then cs ds (applied m (c.does ∷ [])) steps.1.0 mid qs (applied_clear m (c.does ∷ [])) steps.1.2
            (subst (λ (n : Map). AreSteps ds n mid qs) (sym whole) more),
      ),
    )

pub record Facts : Type 0 where
  pub comes : ComesApart
  pub spells : OneSpelling
  pub one : GroupKeepsDatabase
  pub all : GroupsKeepDatabase
  pub some : SomeAfter
  pub rise : (c : Map) → IsRising (open_groups c)

module _ (facts : Facts) (change : ℕ → Change) where
  -- changes beside one another that may all come are steps in any order
  all_come : (ns : List ℕ) (m : Map) (now : List Installed) → IsDatabase m now → IsKept m now → AreDistinct ns → ((n : ℕ) → Has ns n → MayCome m now (change n))
      → ((a b : ℕ) → Has ns a → Has ns b → ¬ (a ≡ b) → AreBeside now (change a) (change b)) → (qs : List Installed) × AreSteps (map change ns) m now qs
  all_come [] m now db kept differ may beside = (now, refl)
  all_come (n ∷ ns) m now db kept differ may beside =
      let c = change n in
      let first = may n (inl refl) in
      let after = facts.some now c.added c.gone db.rising first.own in
      let then = facts.one m now c.added after.0 c.gone c.does db kept first.step after.1 in
      let other : (k : ℕ) → Has ns k → ¬ (k ≡ n) = λ k h e. differ.0 (subst (λ (x : ℕ). Has ns x) e h) in
      let beside_first : (k : ℕ) → Has ns k → AreBeside now (change k) c = λ k h. beside k n (inr h) (inl refl) (other k h) in
      let rest = all_come ns (applied m (c.does ∷ [])) after.0 then.0 then.1 differ.1
      (λ k h. still_comes facts.comes facts.spells m now after.0 (change k) c db kept (may k (inr h)) first (beside_first k h) after.1)
      (λ a b ha hb ne. still_beside facts.comes facts.spells m now after.0 (change a) c db kept (may a (inr ha)) first (beside_first a ha) after.1 (change b)
      (beside a b (inr ha) (inr hb) ne) (back now (change b) c (beside_first b hb))) in
      (rest.0, (first.step, (after.0, after.1, rest.1)))

  module _ (flags : List (List ℕ)) (plan : List plans.Group) (opening : Map) (ps : List Installed) (planned : IsPlanned flags plan change opening ps) (clear : IsClear opening) where
    -- the settled groups are steps, and each group under way may come behind them, beside the others
    pub record IsFair (r : Roll) : Type 0 where
      pub now : List Installed
      pub steps : AreSteps (map change (settled_numbers r)) opening ps now
      pub does : groups_of (map change (settled_numbers r)) ≡ r.order
      pub may : (g : ℕ) → is_granted (phase_at r g) ≡ true → MayCome (applied opening r.order) now (change g)
      pub beside : (g h : ℕ) → is_granted (phase_at r g) ≡ true → is_granted (phase_at r h) ≡ true → ¬ (g ≡ h) → AreBeside now (change g) (change h)
      pub opened : (g : ℕ) → was_opened (phase_at r g) ≡ true → is_settled (phase_at r g) ≡ false → is_granted (phase_at r g) ≡ true

    fair_tree : (r : Roll) (fair : IsFair r) → IsDatabase (applied opening r.order) fair.now × IsKept (applied opening r.order) fair.now
    fair_tree r fair =
        let both = facts.all (map change (settled_numbers r)) opening ps fair.now planned.database planned.kept fair.steps in
        subst (λ (gs : List Group). IsDatabase (applied opening gs) fair.now × IsKept (applied opening gs) fair.now) fair.does both

    -- what a crash commits
    fair_commits : (r : Roll) → IsFair r → AreStepsCommitted opening r change ps
    fair_commits r fair c stands =
        let numbers : committed_numbers r c ≡ settled_numbers r ++ others r c =
        map-append number r.order (groups (group_at r) (others r c)) ∙ ap (λ (ks : List ℕ). settled_numbers r ++ ks) (numbers_of (group_at r) (λ n. refl) (others r c)) in
        let granted : (n : ℕ) → Has (others r c) n → is_granted (phase_at r n) ≡ true = λ n h.
        (let open_one = has-filter_back (λ g. not (is_settled (phase_at r g))) (open_groups c) n h in
        let there = stands.opened (group_at r n) (has-append_right r.order (groups (group_at r) (others r c)) (group_at r n) (has_groups (group_at r) (others r c) n h)) in
        fair.opened n there.0 (not-true (is_settled (phase_at r n)) open_one.1)) in
        let tree = fair_tree r fair in
        let went = all_come (others r c) (applied opening r.order) fair.now tree.0 tree.1
        (kept_differ (λ g. not (is_settled (phase_at r g))) (open_groups c) (rising_differ (open_groups c) (facts.rise c)))
        (λ n h. fair.may n (granted n h)) (λ a b ha hb ne. fair.beside a b (granted a ha) (granted b hb) ne) in
        let both = steps_then (map change (settled_numbers r)) (map change (others r c)) opening ps fair.now went.0 clear fair.steps
        (subst (λ (gs : List Group). AreSteps (map change (others r c)) (applied opening gs) fair.now went.0) (sym fair.does) went.1) in
        (went.0, subst (λ (cs : List Change). AreSteps cs opening ps went.0) (sym (map-append change (settled_numbers r) (others r c)) ∙ ap (map change) (sym numbers)) both)

    -- one standing changes, whose group isn't granted anew
    fair_set : (r : Roll) (g : ℕ) (s : Standing) → IsFair r → (is_granted s.phase ≡ true → is_granted (phase_at r g) ≡ true)
        → (was_opened s.phase ≡ true → is_settled s.phase ≡ false → is_granted s.phase ≡ true) → IsFair (set_with r g s r.order)
    fair_set r g s fair was opened = record {
      now = fair.now;
      steps = fair.steps;
      does = fair.does;
      may = by_group (λ h x. is_granted x.phase ≡ true → MayCome (applied opening r.order) fair.now (change h)) r g s (λ e. fair.may g (was e)) (λ h ne. fair.may h);
      beside = λ a b.
          by_group (λ i x. is_granted x.phase ≡ true → is_granted (phase_at (set r g s) b) ≡ true → ¬ (i ≡ b) → AreBeside fair.now (change i) (change b)) r g s
          (λ ga. by_group (λ j y. is_granted y.phase ≡ true → ¬ (g ≡ j) → AreBeside fair.now (change g) (change j)) r g s
          (λ gb ne. absurd (ne refl)) (λ j nj gb ne. fair.beside g j (was ga) gb ne) b)
          (λ i ni ga. by_group (λ j y. is_granted y.phase ≡ true → ¬ (i ≡ j) → AreBeside fair.now (change i) (change j)) r g s
          (λ gb ne. fair.beside i g ga (was gb) ne) (λ j nj gb ne. fair.beside i j ga gb ne) b)
          a;
      opened = by_group (λ h x. was_opened x.phase ≡ true → is_settled x.phase ≡ false → is_granted x.phase ≡ true) r g s opened (λ h ne. fair.opened h);
    }

    -- a claim is granted
    fair_claim : (r : Roll) (g : ℕ) (s : Standing) → IsFair r → is_settled s.phase ≡ false → is_granted s.phase ≡ true → IsGoodClaim opening change ps r g → IsFair (set_with r g s r.order)
    fair_claim r g s fair new granted good = record {
      now = fair.now;
      steps = fair.steps;
      does = fair.does;
      may = by_group (λ h x. is_granted x.phase ≡ true → MayCome (applied opening r.order) fair.now (change h)) r g s (λ e. k.0) (λ h ne. fair.may h);
      beside = λ a b.
          by_group (λ i x. is_granted x.phase ≡ true → is_granted (phase_at (set r g s) b) ≡ true → ¬ (i ≡ b) → AreBeside fair.now (change i) (change b)) r g s
          (λ ga. by_group (λ j y. is_granted y.phase ≡ true → ¬ (g ≡ j) → AreBeside fair.now (change g) (change j)) r g s
          (λ gb ne. absurd (ne refl)) (λ j nj gb ne. k.1 j gb) b)
          (λ i ni ga. by_group (λ j y. is_granted y.phase ≡ true → ¬ (i ≡ j) → AreBeside fair.now (change i) (change j)) r g s
          (λ gb ne. back fair.now (change g) (change i) (k.1 i ga)) (λ j nj gb ne. fair.beside i j ga gb ne) b)
          a;
      opened = by_group (λ h x. was_opened x.phase ≡ true → is_settled x.phase ≡ false → is_granted x.phase ≡ true) r g s (λ o u. granted) (λ h ne. fair.opened h);
    } where
      k : MayCome (applied opening r.order) fair.now (change g) × ((h : ℕ) → is_granted (phase_at r h) ≡ true → AreBeside fair.now (change g) (change h))
      k = good fair.now fair.steps

    -- the paths of a group are done
    fair_placed : (r : Roll) (g : ℕ) (s : Standing) → IsFair r → is_granted (phase_at r g) ≡ true → (change g).does ≡ group_at r g → is_granted s.phase ≡ false → is_settled s.phase ≡ true
        → IsFair (set_with r g s (r.order ++ group_at r g ∷ []))
    fair_placed r g s fair granted does ends settled =
        let c = change g in
        let first = fair.may g granted in
        let tree = fair_tree r fair in
        let after = facts.some fair.now c.added c.gone tree.0.rising first.own in
        let numbers : map number (r.order ++ group_at r g ∷ []) ≡ settled_numbers r ++ g ∷ [] = map-append number r.order (group_at r g ∷ []) in
        let changes : map change (map number (r.order ++ group_at r g ∷ [])) ≡ map change (settled_numbers r) ++ c ∷ [] = ap (map change) numbers ∙ map-append change (settled_numbers r) (g ∷ []) in
        let map_now : applied (applied opening r.order) (c.does ∷ []) ≡ applied opening (r.order ++ group_at r g ∷ []) =
        applied_twice opening r.order (c.does ∷ []) ∙ ap (λ (x : Group). applied opening (r.order ++ x ∷ [])) does in
        let one_more = steps_then (map change (settled_numbers r)) (c ∷ []) opening ps fair.now after.0 clear fair.steps
        (subst (λ (gs : List Group). AreSteps (c ∷ []) (applied opening gs) fair.now after.0) (sym fair.does) (first.step, (after.0, after.1, refl))) in
        let beside_it : (h : ℕ) → ¬ (h ≡ g) → is_granted (phase_at r h) ≡ true → AreBeside fair.now (change h) c = λ h ne e. fair.beside h g e granted ne in
        record {
          now = after.0;
          steps = subst (λ (cs : List Change). AreSteps cs opening ps after.0) (sym changes) one_more;
          does = ap groups_of changes ∙ map-append (λ (x : Change). x.does) (map change (settled_numbers r)) (c ∷ []) ∙ ap (λ (gs : List Group). gs ++ c.does ∷ []) fair.does
              ∙ ap (λ (x : Group). r.order ++ x ∷ []) does;
          may = by_group (λ h x. is_granted x.phase ≡ true → MayCome (applied opening (r.order ++ group_at r g ∷ [])) after.0 (change h)) r g s (λ e. absurd (cc (e, ends)))
              (λ h ne e. subst (λ (m : Map). MayCome m after.0 (change h)) map_now
              (still_comes facts.comes facts.spells (applied opening r.order) fair.now after.0 (change h) c tree.0 tree.1 (fair.may h e) first (beside_it h ne e) after.1));
          beside = λ a b.
              by_group (λ i x. is_granted x.phase ≡ true → is_granted (phase_at (set r g s) b) ≡ true → ¬ (i ≡ b) → AreBeside after.0 (change i) (change b)) r g s
              (λ e. absurd (cc (e, ends)))
              (λ i ni ga. by_group (λ j y. is_granted y.phase ≡ true → ¬ (i ≡ j) → AreBeside after.0 (change i) (change j)) r g s
              (λ e. absurd (cc (e, ends)))
              (λ j nj gb ne. still_beside facts.comes facts.spells (applied opening r.order) fair.now after.0 (change i) c tree.0 tree.1 (fair.may i ga) first (beside_it i ni ga) after.1 (change j)
              (fair.beside i j ga gb ne) (back fair.now (change j) c (beside_it j nj gb))) b)
              a;
          opened = by_group (λ h x. was_opened x.phase ≡ true → is_settled x.phase ≡ false → is_granted x.phase ≡ true) r g s (λ o u. absurd (cc (u, settled))) (λ h ne. fair.opened h);
        }

    -- each event keeps that
    fair_event : (m : Machine) (e : Event) (ok : Bool) → IsFair m.roll → Admits m e → GrantsWell opening change ps m e ok
        → ((g : ℕ) → was_opened (phase_at m.roll g) ≡ true → (change g).does ≡ group_at m.roll g) → IsFair (answered m e ok).roll
    fair_event m (Begin g) true fair a good does = fair_set m.roll g _ fair (λ e. absurd (cc e)) (λ o u. absurd (cc o))
    fair_event m (Begin g) false fair a good does = fair
    fair_event m (PutStage g p o) true fair a good does = fair_set m.roll g _ fair (λ e. e) (fair.opened g)
    fair_event m (PutStage g p o) false fair a good does = fair_set m.roll g _ fair (λ e. e) (fair.opened g)
    fair_event m (PutRecord g removals) true fair a good does = fair_set m.roll g _ fair (λ e. absurd (cc e)) (λ o u. absurd (cc o))
    fair_event m (PutRecord g removals) false fair a good does = fair_set m.roll g _ fair (λ e. e) (fair.opened g)
    fair_event m (PutToken g) true fair a good does = fair_set m.roll g _ fair (λ e. absurd (cc e)) (λ o u. absurd (cc o))
    fair_event m (PutToken g) false fair a good does = fair_set m.roll g _ fair (λ e. e) (fair.opened g)
    fair_event m (SyncSealed g) true fair a good does = fair_set m.roll g _ fair (λ e. absurd (cc e)) (λ o u. absurd (cc o))
    fair_event m (SyncSealed g) false fair a good does = fair
    fair_event m (Claim g) true fair a good does = fair_claim m.roll g _ fair refl refl good
    fair_event m (Claim g) false fair a good does = fair
    fair_event m (OpenGate g) true fair a good does = fair_set m.roll g _ fair (λ e. ap is_granted a) (λ o u. refl)
    fair_event m (OpenGate g) false fair a good does = fair_set m.roll g _ fair (λ e. ap is_granted a) (λ o u. refl)
    fair_event m (SyncGate g) true fair a good does = fair_set m.roll g _ fair (λ e. ap is_granted a) (λ o u. refl)
    fair_event m (SyncGate g) false fair a good does = fair
    fair_event m (PlacePath g) true fair a good does = fair_set m.roll g _ fair (λ e. e) (fair.opened g)
    fair_event m (PlacePath g) false fair a good does = fair_set m.roll g _ fair (λ e. e) (fair.opened g)
    fair_event m (RemovePath g) true fair a good does = fair_set m.roll g _ fair (λ e. e) (fair.opened g)
    fair_event m (RemovePath g) false fair a good does = fair_set m.roll g _ fair (λ e. e) (fair.opened g)
    fair_event m (SyncPlaced g) true fair a good does = fair_placed m.roll g _ fair (ap is_granted a.0) (does g (ap was_opened a.0)) refl refl
    fair_event m (SyncPlaced g) false fair a good does = fair
    fair_event m (CloseGate g) true fair a good does = fair_set m.roll g _ fair (λ e. absurd (cc e)) (λ o u. absurd (cc u))
    fair_event m (CloseGate g) false fair a good does = fair_set m.roll g _ fair (λ e. absurd (cc e)) (λ o u. absurd (cc u))
    fair_event m (SyncClosed g) true fair a good does = fair_set m.roll g _ fair (λ e. absurd (cc e)) (λ o u. absurd (cc u))
    fair_event m (SyncClosed g) false fair a good does = fair
    fair_event m (Acknowledge g) true fair a good does = fair_set m.roll g _ fair (λ e. absurd (cc e)) (λ o u. absurd (cc u))
    fair_event m (Acknowledge g) false fair a good does = fair
    fair_event m (Abandon g) true fair a good does = fair_set m.roll g _ fair (λ e. absurd (cc e)) (λ o u. absurd (cc o))
    fair_event m (Abandon g) false fair a good does = fair

    fair_idle : IsFair idle.roll
    fair_idle = record {
      now = ps;
      steps = refl;
      does = refl;
      may = λ g e. absurd (cc e);
      beside = λ g h e. absurd (cc e);
      opened = λ g e. absurd (cc e);
    }

    fair_walk : (m : Machine) (old new : Story) (es : List Entry) → IsFair m.roll → Happens m old es new → Merges (machine_after m es).roll plan change → GrantsWellAllAlong opening change ps m es
        → AreStepsAllAlong opening change ps m es
    fair_walk m old new [] fair happens merges grants = tt
    fair_walk m old new (e ∷ es) fair happens merges grants =
        let stays = run_stays m old new (e ∷ es) happens in
        let does : (g : ℕ) → was_opened (phase_at m.roll g) ≡ true → (change g).does ≡ group_at m.roll g = λ g o. (let k = stays g o in merges.does g k.0 ∙ k.1) in (
          fair_commits (begun m e.0).roll (fair_event m e.0 false fair happens.2 (not_granted e.0) does),
          fair_walk (answered m e.0 e.1) happens.0 new es (fair_event m e.0 e.1 fair happens.2 grants.0 does) happens.4 merges grants.1,
        )
      where
        not_granted : (f : Event) → GrantsWell opening change ps m f false
        not_granted (Begin g) = tt
        not_granted (PutStage g p o) = tt
        not_granted (PutRecord g removals) = tt
        not_granted (PutToken g) = tt
        not_granted (SyncSealed g) = tt
        not_granted (Claim g) = tt
        not_granted (OpenGate g) = tt
        not_granted (SyncGate g) = tt
        not_granted (PlacePath g) = tt
        not_granted (RemovePath g) = tt
        not_granted (SyncPlaced g) = tt
        not_granted (CloseGate g) = tt
        not_granted (SyncClosed g) = tt
        not_granted (Acknowledge g) = tt
        not_granted (Abandon g) = tt

pub good_claims_suffice : Facts → GoodClaimsSuffice
good_claims_suffice facts flags plan change opening ps old new es planned rest happens merges grants =
    fair_walk facts change flags plan opening ps planned rest.empty idle old new es (fair_idle facts change flags plan opening ps planned rest.empty) happens merges grants

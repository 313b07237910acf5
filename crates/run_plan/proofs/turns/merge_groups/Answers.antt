use Rattle.std.proofs.Common.{◌≡◌, ◌∙◌, ◌++◌, ◌∷◌, ◌<◌, ◌-◌, ◌+◌, ℕ, suc, List, [], Ok, Err, ap, arith, length, subst, sym}
use Rattle.std.proofs.lemmas.Result.{err_from_is_err_and}
use Rattle.std.specs.List.{AllZip}
use Rattle.basics.specs.Members.{Has}
use Rattle.build_pool.specs.Pool.{PoolRose}
use Rattle.build_pool.specs.declared.orders.Order.{Order}
use Rattle.plan_law.specs.Plans.{Group, group_at}
use Rattle.plan_lives.proofs.Places.{group_is}
use Rattle.file_tree.specs.declared.fault.TreeFault.TheVariants as trees
use Rattle.merge_group.specs.Runs.{EndsAt, IsUnderWay}
use Rattle.merge_group.specs.Turns.{numbers}
use Rattle.merge_group.specs.declared.stop.Stop.TheVariants as merges
use Rattle.merge_image.specs.Images.{IsBuilt, IsPastLimit}
use Rattle.run_turns.specs.Held.{holdings_of}
use Rattle.run_turns.specs.Plans.{orders_at}
use Rattle.run_turns.specs.declared.job.Job.{Job}
use Rattle.run_turns.specs.Turns.{AreNewcomersAt, IsTurnOf}
use Rattle.run_plan.specs.Runs.{SaysBuild, merge_end, upto}
use Rattle.run_plan.proofs.Course.{length_upto, not_yet, ran_now, ran_stopped, up_next}
use Rattle.run_plan.proofs.Ordered.{all_built, alike_then, build_counts, build_plain, orders_here, past_before, rose_before, says_before}
use Rattle.run_plan.proofs.Whole.{merge_counts}
use Rattle.merge_group.proofs.Rising.{written_on}
use Rattle.run_plan.proofs.turns.merge_groups.Goals as goal

pub returns-in_err-newcomers : goal.returns-in_err-newcomers
returns-in_err-newcomers g c =
    let B = g.B.Builder in
    let inv = c.loop-place.invariant in
    let p = err_from_is_err_and c.from_residual.result c.from_residual.ensures.1 in
    let f = c.in_err-newcomers.field-0.0 in
    let why = c.in_err-newcomers.ensures.stops in
    let n = c.newcomers_of.ensures in
    let here = c.deref-in-loop-place.result.now in
    let old = c.args.pool.now in
    let mid = c.loop-place.pool in
    let new = c.newcomers_of.new.pool in
    let Many = IsPastLimit B.tells B.told mid.resting in
    let Failed = PoolRose B.faults mid new in
    let M = IsPastLimit B.tells B.told old.resting in
    let F = PoolRose B.faults old new in
    let place : ℕ = c.loop-place.place in
    let long : length c.loop-place.progress.history.items ≡ place = ap length (inv.0.under.merged ∙ inv.0.numbered) ∙ length_upto place in
    let lt : place < length c.args.jobs.now = omega (arith, c.loop-place-test.true, c.requires.jobs.count) in
    let orders : here ≡ orders_at c.args.jobs.now (length c.loop-place.progress.history.items) =
    c.deref-in-loop-place.ensures.value ∙ (ap (λ (j : Job). j.orders.items) (sym c.index-jobs-place.is) ∙ (sym (orders_here c.args.jobs.now place c.index-jobs-place.result lt c.index-jobs-place.is) ∙ ap (orders_at c.args.jobs.now) (sym long))) in
    let builds = n.builds in
    rw (p.1, p.2)
    (record {
      same = inv.1;
      ran = ran_now (IsBuilt B.tells B.told old.resting) c.args.plan.now c.args.jobs.now c.args.places.now (holdings_of c.args.progress.now.held) g.T.Tree.tells (g.T.Tree.story c.args.site.now.opened).now.holds
          place (holdings_of c.loop-place.progress.held) c.loop-place.progress.history.items c.loop-place.progress.acknowledged.items c.loop-place.site (merge_end tt (Err f)) (omega (arith, c.loop-place-test.true)) inv.0
          (build_plain Many Failed here f why);
      merged = tt;
      written = inv.4;
      build = subst (λ (os : List Order). SaysBuild M F os f) orders
          (says_before Many M Failed F (λ x past. past_before B.told B.tells old.resting mid.resting x inv.7 past) (λ rose. rose_before B.faults old mid new inv.11 rose) here f why);
      ids = λ k. n.ids k ∙ inv.9 k;
      lent = n.lent ∙ inv.10;
      builds = omega (arith, builds, inv.11);
      device = build_counts Many Failed here f (merges.Tree trees.Failed) (g.T.Tree.faults c.args.site.now.tree) (g.T.Tree.faults c.loop-place.site.tree) why (λ e. cc e) inv.5;
      output = build_counts Many Failed here f merges.Output (g.S.Sink.faults c.args.site.now.sink) (g.S.Sink.faults c.loop-place.site.sink) why (λ e. cc e) inv.6;
    })

pub returns-in_err-turn : goal.returns-in_err-turn
returns-in_err-turn g c =
    let B = g.B.Builder in
    let inv = c.loop-place.invariant in
    let p = err_from_is_err_and c.from_residual-in_err-turn.result c.from_residual-in_err-turn.ensures.1 in
    let n = c.newcomers_of.ensures in
    let builds = n.builds in
    rw (p.1, p.2)
    (record {
      same = inv.1;
      ran = ran_now (IsBuilt B.tells B.told c.args.pool.now.resting) c.args.plan.now c.args.jobs.now c.args.places.now (holdings_of c.args.progress.now.held) g.T.Tree.tells (g.T.Tree.story c.args.site.now.opened).now.holds
          c.loop-place.place (holdings_of c.loop-place.progress.held) c.loop-place.progress.history.items c.loop-place.progress.acknowledged.items c.loop-place.site (Err (merges.Tree trees.Memory)) (omega (arith, c.loop-place-test.true)) inv.0 (λ of. of);
      merged = tt;
      written = inv.4;
      build = tt;
      ids = λ k. n.ids k ∙ inv.9 k;
      lent = n.lent ∙ inv.10;
      builds = omega (arith, builds, inv.11);
      device = record { later = inv.5; rose = λ failed. absurd (cc failed) };
      output = record { later = inv.6; rose = λ failed. absurd (cc failed) };
    })

pub merge_next-requires-clause-begun : goal.merge_next-requires-clause-begun
merge_next-requires-clause-begun g c =
    let inv = c.loop-place.invariant in
    let place : ℕ = c.loop-place.place in
    let t = c.in_ok-turn.turn in
    let number = c.in_ok-turn.ensures.number in
    let under = subst (λ o. IsUnderWay g.T.Tree.tells (g.T.Tree.story o).now.holds inv.0.turns c.loop-place.progress.history.items c.loop-place.progress.acknowledged.items c.loop-place.site) (sym inv.1.opened) inv.0.under in
    (inv.0.turns, (λ has. not_yet place t.group (omega (arith, number)) (subst (λ (l : List ℕ). Has l t.group) inv.0.numbered has)), under)

pub merge_next-requires-clause-room : goal.merge_next-requires-clause-room
merge_next-requires-clause-room g c =
    let place : ℕ = c.loop-place.place in
    let n = length c.args.plan.now in
    let k = c.loop-place.invariant.2 (n - place) (omega (arith, c.loop-place-test.true)) in
    omega (arith, k, c.loop-place-test.true)

pub merge_next-requires-clause-more : goal.merge_next-requires-clause-more
merge_next-requires-clause-more g c =
    let place : ℕ = c.loop-place.place in
    let n = length c.args.plan.now in
    let k = c.loop-place.invariant.3 (n - place) (omega (arith, c.loop-place-test.true)) in
    omega (arith, k, c.loop-place-test.true)

pub returns-in_err-merge_next : goal.returns-in_err-merge_next
returns-in_err-merge_next g c =
    let B = g.B.Builder in
    let inv = c.loop-place.invariant in
    let place : ℕ = c.loop-place.place in
    let plan = c.args.plan.now in
    let jobs = c.args.jobs.now in
    let old = c.args.pool.now in
    let Image = IsBuilt B.tells B.told old.resting in
    let p = err_from_is_err_and c.from_residual-in_err-merge_next.result c.from_residual-in_err-merge_next.ensures.1 in
    let f = c.in_err-merge_next.field-0.0 in
    let t = c.in_ok-turn.turn in
    let ns = c.in_ok-newcomers.newcomers.items in
    let last = holdings_of c.loop-place.progress.held in
    let next = holdings_of c.make_turn.new.held in
    let history = c.loop-place.progress.history.items in
    let told = c.loop-place.progress.acknowledged.items in
    let lt : place < length plan = omega (arith, c.loop-place-test.true) in
    let lt2 : place < length jobs = omega (arith, lt, c.requires.jobs.count) in
    let group : group_at plan place ≡ c.index-plan-place.result = group_is plan place c.index-plan-place.result lt c.index-plan-place.is in
    let number : t.group ≡ suc place = c.in_ok-turn.ensures.number ∙ omega arith in
    let additions : c.deref.result.now ≡ (group_at plan place).additions = c.deref.ensures.value ∙ (ap (λ (x : Group). x.additions) c.group.view_is ∙ ap (λ (x : Group). x.additions) (sym group)) in
    let orders : c.deref-in-loop-place.result.now ≡ orders_at jobs place = c.deref-in-loop-place.ensures.value ∙ (ap (λ (j : Job). j.orders.items) (sym c.index-jobs-place.is) ∙ sym (orders_here jobs place c.index-jobs-place.result lt2 c.index-jobs-place.is)) in
    let comes : AreNewcomersAt Image plan jobs place ns = record {
      there = lt;
      brings = c.in_ok-newcomers.ensures.brings ∙ additions;
      images = subst (λ (os : List Order). AllZip (λ o n. Image o n.image.items) os ns) orders
          (all_built B.told B.tells old.resting c.loop-place.pool.resting c.deref-in-loop-place.result.now ns inv.7 c.in_ok-newcomers.ensures.images);
    } in
    let up = up_next Image plan jobs c.args.places.now (holdings_of c.args.progress.now.held) g.T.Tree.tells (g.T.Tree.story c.args.site.now.opened).now.holds place last next history told c.loop-place.site inv.0 t ns number comes
    (λ ps are. subst (λ (x : Group). IsTurnOf ps plan x last ns t) (sym group) (c.in_ok-turn.ensures.turn ps plan are)) (λ i q. c.in_ok-turn.ensures.held q i) in
    let under = subst (λ o. IsUnderWay g.T.Tree.tells (g.T.Tree.story o).now.holds inv.0.turns history told c.loop-place.site) (sym inv.1.opened) inv.0.under in
    let fresh : Has (numbers inv.0.turns) t.group → ⊥ = λ has. not_yet place t.group (omega (arith, number)) (subst (λ (l : List ℕ). Has l t.group) inv.0.numbered has) in
    let ends = c.in_err-merge_next.ensures.stopped inv.0.turns fresh under in
    let ended = subst (λ o. EndsAt g.T.Tree.tells (g.T.Tree.story o).now.holds (inv.0.turns ++ t ∷ []) c.merge_next.new.history.items c.merge_next.new.acknowledged.items c.merge_next.new.site f) inv.1.opened ends in
    let e = c.merge_next.ensures in
    let n = c.newcomers_of.ensures in
    let builds = n.builds in
    let start = g.S.Sink.written c.args.site.now.sink in
    rw (p.1, p.2)
    (record {
      same = record { count = e.same.count ∙ inv.1.count; groups = e.same.groups ∙ inv.1.groups; opened_book = e.same.opened_book ∙ inv.1.opened_book; opened = e.same.opened ∙ inv.1.opened };
      ran = ran_stopped Image plan jobs c.args.places.now (holdings_of c.args.progress.now.held) g.T.Tree.tells (g.T.Tree.story c.args.site.now.opened).now.holds place next (inv.0.turns ++ t ∷ [])
          c.merge_next.new.history.items c.merge_next.new.acknowledged.items c.merge_next.new.site f lt up.0 up.1 ended;
      merged = tt;
      written = λ st. written_on g.S.Sink c.args.site.now.sink c.loop-place.site.sink c.merge_next.new.site.sink c.args.site.now.groups c.loop-place.site.groups history told c.merge_next.new.history.items c.merge_next.new.acknowledged.items inv.1.groups inv.6 (inv.4 st) (e.written st start);
      build = tt;
      ids = λ k. n.ids k ∙ inv.9 k;
      lent = n.lent ∙ inv.10;
      builds = omega (arith, builds, inv.11);
      device = merge_counts f (merges.Tree trees.Failed) _ _ _ c.merge_next.result c.in_err-merge_next.was inv.5 e.device;
      output = merge_counts f merges.Output _ _ _ c.merge_next.result c.in_err-merge_next.was inv.6 e.output;
    })

pub loop-place-preserved : goal.loop-place-preserved
loop-place-preserved g c =
    let B = g.B.Builder in
    let inv = c.loop-place.invariant in
    let place : ℕ = c.loop-place.place in
    let plan = c.args.plan.now in
    let jobs = c.args.jobs.now in
    let old = c.args.pool.now in
    let Image = IsBuilt B.tells B.told old.resting in
    let t = c.in_ok-turn.turn in
    let ns = c.in_ok-newcomers.newcomers.items in
    let last = holdings_of c.loop-place.progress.held in
    let next = holdings_of c.make_turn.new.held in
    let history = c.loop-place.progress.history.items in
    let told = c.loop-place.progress.acknowledged.items in
    let start = g.S.Sink.written c.args.site.now.sink in
    let lt : place < length plan = omega (arith, c.loop-place-test.true) in
    let lt2 : place < length jobs = omega (arith, lt, c.requires.jobs.count) in
    let group : group_at plan place ≡ c.index-plan-place.result = group_is plan place c.index-plan-place.result lt c.index-plan-place.is in
    let number : t.group ≡ suc place = c.in_ok-turn.ensures.number ∙ omega arith in
    let additions : c.deref.result.now ≡ (group_at plan place).additions = c.deref.ensures.value ∙ (ap (λ (x : Group). x.additions) c.group.view_is ∙ ap (λ (x : Group). x.additions) (sym group)) in
    let orders : c.deref-in-loop-place.result.now ≡ orders_at jobs place = c.deref-in-loop-place.ensures.value ∙ (ap (λ (j : Job). j.orders.items) (sym c.index-jobs-place.is) ∙ sym (orders_here jobs place c.index-jobs-place.result lt2 c.index-jobs-place.is)) in
    let comes : AreNewcomersAt Image plan jobs place ns = record {
      there = lt;
      brings = c.in_ok-newcomers.ensures.brings ∙ additions;
      images = subst (λ (os : List Order). AllZip (λ o n. Image o n.image.items) os ns) orders
          (all_built B.told B.tells old.resting c.loop-place.pool.resting c.deref-in-loop-place.result.now ns inv.7 c.in_ok-newcomers.ensures.images);
    } in
    let up = up_next Image plan jobs c.args.places.now (holdings_of c.args.progress.now.held) g.T.Tree.tells (g.T.Tree.story c.args.site.now.opened).now.holds place last next history told c.loop-place.site inv.0 t ns number comes
    (λ ps are. subst (λ (x : Group). IsTurnOf ps plan x last ns t) (sym group) (c.in_ok-turn.ensures.turn ps plan are)) (λ i q. c.in_ok-turn.ensures.held q i) in
    let under = subst (λ o. IsUnderWay g.T.Tree.tells (g.T.Tree.story o).now.holds inv.0.turns history told c.loop-place.site) (sym inv.1.opened) inv.0.under in
    let fresh : Has (numbers inv.0.turns) t.group → ⊥ = λ has. not_yet place t.group (omega (arith, number)) (subst (λ (l : List ℕ). Has l t.group) inv.0.numbered has) in
    let e = c.merge_next.ensures in
    let went = c.in_ok-merge_next.ensures.merged inv.0.turns fresh under in
    let next_place : suc place ≡ place + 1 = omega arith in
    let n = c.in_ok-newcomers.ensures in
    let device = e.device.later in
    let output = e.output.later in
    let builds = n.builds in (
      record {
        turns = inv.0.turns ++ t ∷ [];
        under = subst (λ o. IsUnderWay g.T.Tree.tells (g.T.Tree.story o).now.holds (inv.0.turns ++ t ∷ []) c.merge_next.new.history.items c.merge_next.new.acknowledged.items c.merge_next.new.site) inv.1.opened went;
        numbered = up.0 ∙ ap upto next_place;
        made = up.1;
      },
      record { count = e.same.count ∙ inv.1.count; groups = e.same.groups ∙ inv.1.groups; opened_book = e.same.opened_book ∙ inv.1.opened_book; opened = e.same.opened ∙ inv.1.opened },
      (λ k is. e.left k (inv.2 (suc k) (omega (arith, is)))),
      (λ k is. e.more k (inv.3 (suc k) (omega (arith, is)))),
      (λ st. written_on g.S.Sink c.args.site.now.sink c.loop-place.site.sink c.merge_next.new.site.sink c.args.site.now.groups c.loop-place.site.groups history told c.merge_next.new.history.items c.merge_next.new.acknowledged.items inv.1.groups inv.6 (inv.4 st) (e.written st start)),
      omega (arith, inv.5, device),
      omega (arith, inv.6, output),
      alike_then B.told old.resting c.loop-place.pool.resting c.newcomers_of.new.pool.resting inv.7 n.alike,
      n.resting ∙ inv.8,
      (λ k. n.ids k ∙ inv.9 k),
      n.lent ∙ inv.10,
      omega (arith, builds, inv.11),
    )

pub returns : goal.returns
returns g c =
    let B = g.B.Builder in
    let inv = c.loop-place.invariant in
    let place : ℕ = c.loop-place.place in
    let whole : place ≡ length c.args.plan.now = omega (arith, c.loop-place-test.false, c.loop-place.auto.place-end) in
    record {
      same = inv.1;
      ran = ran_now (IsBuilt B.tells B.told c.args.pool.now.resting) c.args.plan.now c.args.jobs.now c.args.places.now (holdings_of c.args.progress.now.held) g.T.Tree.tells (g.T.Tree.story c.args.site.now.opened).now.holds
          place (holdings_of c.loop-place.progress.held) c.loop-place.progress.history.items c.loop-place.progress.acknowledged.items c.loop-place.site (Ok tt) (omega (arith, whole)) inv.0 tt;
      merged = inv.0.under.merged ∙ (inv.0.numbered ∙ ap upto whole);
      written = inv.4;
      build = tt;
      ids = inv.9;
      lent = inv.10;
      builds = inv.11;
      device = record { later = inv.5; rose = λ failed. absurd (cc failed) };
      output = record { later = inv.6; rose = λ failed. absurd (cc failed) };
    }

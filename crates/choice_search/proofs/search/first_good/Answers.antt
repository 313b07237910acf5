use Rattle.std.proofs.Common.{◌≡◌, ◌∙◌, ◌++◌, ◌-◌, ◌<◌, [], ◌∷◌, Bool, Some, None, ap, arith, length, map, option_map, refl, subst, sym}
use Rattle.std.proofs.lemmas.Bool.{eqb-false, eqb-true}
use Rattle.choice_search.specs.Frames.{AreAmong, IsAhead, levels_at, next_if, resumed, to_try}
use Rattle.choice_search.specs.Path.{Path, down}
use Rattle.choice_search.specs.Shape.{Shape}
use Rattle.choice_search.specs.Visit.{barren, joined, seen_as}
use Rattle.choice_search.specs.declared.frame.Frame.{Frame}
use Rattle.choice_search.proofs.Going.{begun_at, down_at, enough_at, lower_at}
use Rattle.choice_search.proofs.Resuming.{nothing_left}
use Rattle.choice_search.proofs.Searching.{IsSearching, at_limit, back, fewer_left, found_good, none_good, steps_left}
use Rattle.choice_search.proofs.search.first_good.Goals as goal

pub loop-more-init : goal.loop-more-init
loop-more-init g c = (
  refl,
  let none = ap length c.new-frames.ensures.items in omega (arith, none),
  begun_at (g.T.Tree.shape c.args.tree.now) g.T.Tree.option_by c.args.limit (g.T.Tree.path c.args.tree.now) c.new-dead.result.items c.new-frames.result.items c.new-dead.ensures.items c.new-frames.ensures.items
      (let test = c.if-limit-eq0.false in omega (arith, test)),
)

pub returns-in_default-clause-outcome : goal.returns-in_default-clause-outcome
returns-in_default-clause-outcome g c =
    let shape = g.T.Tree.shape c.args.tree.now in
    let by = g.T.Tree.option_by in
    let p = g.T.Tree.path c.loop-more.tree in
    let root = (g.T.Tree.path c.args.tree.now).here in
    let ls = levels_at by p c.loop-more.frames.items in
    let s = subst (λ (b : Bool). IsSearching shape root c.args.limit c.loop-more.dead.items ls (next_if b p)) c.loop-more-test.true c.loop-more.invariant.2 in
    let is : shape.options p.here ≡ None =
    ap (λ (x : Shape _). x.options p.here) (sym c.loop-more.invariant.0) ∙ sym c.in_ok-rest.ensures.found ∙ ap (option_map (λ v. map (by p.here) v.items)) c.in_default.is in
    let r = found_good shape root c.args.limit (g.met.T.Tree.smaller c.args.tree.now) c.loop-more.dead.items ls p.here s is in
    (r.0 ∙ ap (λ x. Some x) (sym (c.in_ok-choice.ensures ∙ ap (λ (x : Path _). x.here) c.options.ensures.stays)), r.1)

pub loop-more-smaller-in_ok-go : goal.loop-more-smaller-in_ok-go
loop-more-smaller-in_ok-go g c =
    let shape = g.T.Tree.shape c.args.tree.now in
    let by = g.T.Tree.option_by in
    let p = g.T.Tree.path c.loop-more.tree in
    let q = g.T.Tree.path c.go.new.self in
    let root = (g.T.Tree.path c.args.tree.now).here in
    let steps = steps_left shape (shape.room root) (c.args.limit - length c.loop-more.dead.items) in
    let is : shape.options p.here ≡ Some (map (by p.here) c.in-Some.rest.items) =
    ap (λ (x : Shape _). x.options p.here) (sym c.loop-more.invariant.0) ∙ sym c.in_ok-rest.ensures.found ∙ ap (option_map (λ v. map (by p.here) v.items)) c.in-Some.is in
    subst (λ (b : Bool). steps (next_if b q) < steps (next_if b p)) (sym c.loop-more-test.true)
    (lower_at shape by c.args.limit root (g.met.T.Tree.smaller c.args.tree.now) p q (record { cause = c.new-cause.result; rest = c.pop.new.self }) c.in-Some.rest.items c.reverse.new.self.items c.in-Some-pop.step is c.reverse.ensures.items c.in-Some-pop.ensures.items
    (subst (λ (x : Path _). q ≡ down (by x.here c.in-Some-pop.step) x) c.options.ensures.stays c.in_ok-go.ensures.there) (c.args.limit - length c.loop-more.dead.items))

pub loop-more-preserved-in_ok-go : goal.loop-more-preserved-in_ok-go
loop-more-preserved-in_ok-go g c =
    let shape = g.T.Tree.shape c.args.tree.now in
    let by = g.T.Tree.option_by in
    let p = g.T.Tree.path c.loop-more.tree in
    let q = g.T.Tree.path c.go.new.self in
    let root = (g.T.Tree.path c.args.tree.now).here in
    let dead = c.loop-more.dead.items in
    let deep = g.met.T.Tree.smaller c.args.tree.now in
    let f : Frame _ = record { cause = c.new-cause.result; rest = c.pop.new.self } in
    let s = subst (λ (b : Bool). IsSearching shape root c.args.limit dead (levels_at by p c.loop-more.frames.items) (next_if b p)) c.loop-more-test.true c.loop-more.invariant.2 in
    let is : shape.options p.here ≡ Some (map (by p.here) c.in-Some.rest.items) =
    ap (λ (x : Shape _). x.options p.here) (sym c.loop-more.invariant.0) ∙ sym c.in_ok-rest.ensures.found ∙ ap (option_map (λ v. map (by p.here) v.items)) c.in-Some.is in
    let gone = subst (λ (x : Path _). q ≡ down (by x.here c.in-Some-pop.step) x) c.options.ensures.stays c.in_ok-go.ensures.there in (
      c.go.ensures.same ∙ (c.options.ensures.same ∙ c.loop-more.invariant.0),
      enough_at shape by c.args.limit root deep p q f c.in-Some.rest.items c.reverse.new.self.items c.in-Some-pop.step is c.reverse.ensures.items c.in-Some-pop.ensures.items gone c.loop-more.frames.items c.push.new.self.items c.in_ok-push.ensures.items c.loop-more.invariant.1,
      subst (λ (b : Bool). IsSearching shape root c.args.limit dead (levels_at by q c.push.new.self.items) (next_if b q)) (sym c.loop-more-test.true)
          (down_at shape by c.args.limit root deep p q f c.in-Some.rest.items c.reverse.new.self.items c.in-Some-pop.step is c.reverse.ensures.items c.in-Some-pop.ensures.items gone dead c.loop-more.frames.items c.push.new.self.items s c.in_ok-push.ensures.items c.new-cause.ensures.items),
    )

pub returns-then-is_full-clause-outcome : goal.returns-then-is_full-clause-outcome
returns-then-is_full-clause-outcome g c =
    let shape = g.T.Tree.shape c.args.tree.now in
    let by = g.T.Tree.option_by in
    let p = g.T.Tree.path c.loop-more.tree in
    let root = (g.T.Tree.path c.args.tree.now).here in
    let ls = levels_at by p c.loop-more.frames.items in
    let s = subst (λ (b : Bool). IsSearching shape root c.args.limit c.loop-more.dead.items ls (next_if b p)) c.loop-more-test.true c.loop-more.invariant.2 in
    let none = nothing_left c.in-Some.rest.items c.in-Some.rest.ok.0 (sym c.reverse.ensures.len ∙ c.in_default-pop.ensures.cases.0) in
    let is : shape.options p.here ≡ Some [] =
    ap (λ (x : Shape _). x.options p.here) (sym c.loop-more.invariant.0) ∙ sym c.in_ok-rest.ensures.found ∙ ap (option_map (λ v. map (by p.here) v.items)) c.in-Some.is ∙ ap (λ xs. Some (map (by p.here) xs)) none in
    let cause_is : c.join_reason.new.cause.items ≡ joined (shape.knows p.here) [] (shape.reason p.here) =
    c.in_ok-join_reason.ensures.cause
    ∙ ap (λ (x : Path _). joined ((g.T.Tree.shape c.options.new.self).knows x.here) c.new-cause.result.items ((g.T.Tree.shape c.options.new.self).reason x.here)) c.options.ensures.stays
    ∙ ap (λ (x : Shape _). joined (x.knows p.here) c.new-cause.result.items (x.reason p.here)) (c.options.ensures.same ∙ c.loop-more.invariant.0)
    ∙ ap (λ w. joined (shape.knows p.here) w (shape.reason p.here)) c.new-cause.ensures.items in
    let choice_is = c.in_ok-choice-2.ensures ∙ ap (λ (x : Path _). x.here) (c.join_reason.ensures.stays ∙ c.options.ensures.stays) in
    at_limit shape root c.args.limit (g.met.T.Tree.smaller c.args.tree.now) c.loop-more.dead.items c.push-in_default-pop.new.self.items ls p.here c.join_reason.new.cause.items s is cause_is
    (c.in_ok-push-2.ensures.items ∙ ap (λ x. c.loop-more.dead.items ++ x ∷ []) choice_is) (eqb-true _ _ (sym c.is_full.ensures ∙ c.if-is_full.true))

pub loop-more-preserved : goal.loop-more-preserved
loop-more-preserved g c =
    let shape = g.T.Tree.shape c.args.tree.now in
    let by = g.T.Tree.option_by in
    let path = g.T.Tree.path in
    let p = path c.loop-more.tree in
    let root = (path c.args.tree.now).here in
    let ls = levels_at by p c.loop-more.frames.items in
    let s = subst (λ (b : Bool). IsSearching shape root c.args.limit c.loop-more.dead.items ls (next_if b p)) c.loop-more-test.true c.loop-more.invariant.2 in
    let none = nothing_left c.in-Some.rest.items c.in-Some.rest.ok.0 (sym c.reverse.ensures.len ∙ c.in_default-pop.ensures.cases.0) in
    let is : shape.options p.here ≡ Some [] =
    ap (λ (x : Shape _). x.options p.here) (sym c.loop-more.invariant.0) ∙ sym c.in_ok-rest.ensures.found ∙ ap (option_map (λ v. map (by p.here) v.items)) c.in-Some.is ∙ ap (λ xs. Some (map (by p.here) xs)) none in
    let cause_is : c.join_reason.new.cause.items ≡ joined (shape.knows p.here) [] (shape.reason p.here) =
    c.in_ok-join_reason.ensures.cause
    ∙ ap (λ (x : Path _). joined ((g.T.Tree.shape c.options.new.self).knows x.here) c.new-cause.result.items ((g.T.Tree.shape c.options.new.self).reason x.here)) c.options.ensures.stays
    ∙ ap (λ (x : Shape _). joined (x.knows p.here) c.new-cause.result.items (x.reason p.here)) (c.options.ensures.same ∙ c.loop-more.invariant.0)
    ∙ ap (λ w. joined (shape.knows p.here) w (shape.reason p.here)) c.new-cause.ensures.items in
    let stays = c.join_reason.ensures.stays ∙ c.options.ensures.stays in
    let choice_is = c.in_ok-choice-2.ensures ∙ ap (λ (x : Path _). x.here) stays in
    let before = c.join_reason.ensures.same ∙ c.options.ensures.same ∙ c.loop-more.invariant.0 in
    let q = path c.go_back.new.tree in
    let ls' = levels_at by q c.go_back.new.frames.items in
    let next = next_if c.in_ok-more.more q in (
      c.go_back.ensures.same ∙ before,
      c.in_ok-more.ensures.above,
      back shape root c.args.limit (g.met.T.Tree.smaller c.args.tree.now) c.loop-more.dead.items c.push-in_default-pop.new.self.items ls ls' p.here c.join_reason.new.cause.items next s is cause_is
          (c.in_ok-push-2.ensures.items ∙ ap (λ x. c.loop-more.dead.items ++ x ∷ []) choice_is) (eqb-false _ _ (sym c.is_full.ensures ∙ c.if-is_full.false))
          (subst (λ (x : Path _). IsAhead shape ls' (resumed shape (levels_at by x c.loop-more.frames.items) (seen_as [] (barren c.join_reason.new.cause.items))) next) stays
          (subst (λ (x : Shape _). IsAhead x ls' (resumed x (levels_at by (path c.join_reason.new.tree) c.loop-more.frames.items) (seen_as [] (barren c.join_reason.new.cause.items))) next) before c.in_ok-more.ensures.ahead))
          (subst (λ (x : Path _). AreAmong (to_try ls' next) (to_try (levels_at by x c.loop-more.frames.items) None)) stays c.in_ok-more.ensures.among),
    )

pub loop-more-smaller : goal.loop-more-smaller
loop-more-smaller g c =
    let shape = g.T.Tree.shape c.args.tree.now in
    let by = g.T.Tree.option_by in
    let p = g.T.Tree.path c.loop-more.tree in
    let q = g.T.Tree.path c.go_back.new.tree in
    let root = (g.T.Tree.path c.args.tree.now).here in
    let s = subst (λ (b : Bool). IsSearching shape root c.args.limit c.loop-more.dead.items (levels_at by p c.loop-more.frames.items) (next_if b p)) c.loop-more-test.true c.loop-more.invariant.2 in
    let left = steps_left shape (shape.room root) in
    let choice_is = c.in_ok-choice-2.ensures ∙ ap (λ (x : Path _). x.here) (c.join_reason.ensures.stays ∙ c.options.ensures.stays) in
    subst (λ (b : Bool). left (c.args.limit - length c.push-in_default-pop.new.self.items) (next_if c.in_ok-more.more q) < left (c.args.limit - length c.loop-more.dead.items) (next_if b p)) (sym c.loop-more-test.true)
    (fewer_left shape root c.args.limit (g.met.T.Tree.smaller c.args.tree.now) c.loop-more.dead.items c.push-in_default-pop.new.self.items (levels_at by q c.go_back.new.frames.items) p.here (next_if c.in_ok-more.more q) s.fewer (c.in_ok-push-2.ensures.items ∙ ap (λ x. c.loop-more.dead.items ++ x ∷ []) choice_is) (loop-more-preserved g c).2)

pub returns-clause-outcome : goal.returns-clause-outcome
returns-clause-outcome g c =
    let shape = g.T.Tree.shape c.args.tree.now in
    let p = g.T.Tree.path c.loop-more.tree in
    let root = (g.T.Tree.path c.args.tree.now).here in
    let ls = levels_at g.T.Tree.option_by p c.loop-more.frames.items in
    none_good shape root c.args.limit c.loop-more.dead.items ls (subst (λ (b : Bool). IsSearching shape root c.args.limit c.loop-more.dead.items ls (next_if b p)) c.loop-more-test.false c.loop-more.invariant.2)

use Rattle.std.proofs.Common.{◌≡◌, ◌∙◌, [], List, ap, subst, sym}
use Rattle.std.specs.List.{list_all}
use Rattle.choice_search.specs.Frames.{levels_at}
use Rattle.choice_search.specs.Path.{Path}
use Rattle.choice_search.specs.Shape.{Shape}
use Rattle.choice_search.specs.Visit.{joined}
use Rattle.choice_search.proofs.Backing.{IsBacking, exhausted, jumped, next_ahead, next_among, next_enough, none_left}
use Rattle.choice_search.proofs.Resuming.{nothing_left}
use Rattle.choice_search.proofs.back.go_back.Goals as goal

pub returns-in-Some-pop-clause-above : goal.returns-in-Some-pop-clause-above
returns-in-Some-pop-clause-above g c =
    let shape = g.T.Tree.shape c.args.tree.now in
    let by = g.T.Tree.option_by in
    let path = g.T.Tree.path in
    let first = levels_at by (path c.args.tree.now) c.args.frames.now.items in
    next_enough shape by first c.args.cause.items (path c.loop-frame.tree) (path c.back.new.self) c.loop-frame.frames.items c.pop.new.self.items c.in-Some.frame c.loop-frame.cause.items c.loop-frame.invariant.1 c.in-Some.ensures.items c.in_ok-back.ensures.there
    (path c.go.new.self) c.push.new.self.items _ c.in-Some-pop.step c.in_ok-push.ensures.items c.in_ok-go.ensures.there c.in-Some-pop.ensures.items

pub returns-in-Some-pop-clause-ahead : goal.returns-in-Some-pop-clause-ahead
returns-in-Some-pop-clause-ahead g c =
    let shape = g.T.Tree.shape c.args.tree.now in
    let by = g.T.Tree.option_by in
    let path = g.T.Tree.path in
    let first = levels_at by (path c.args.tree.now) c.args.frames.now.items in
    let q = path c.back.new.self in
    let why = c.loop-frame.cause.items in
    let same = c.back.ensures.same ∙ c.loop-frame.invariant.0 in
    let tested : c.knows_all.result ≡ list_all (shape.knows q.here) why =
    c.knows_all.ensures ∙ (ap (λ (s : Shape _). list_all (s.knows q.here) c.deref.result.now) same ∙ ap (list_all (shape.knows q.here)) c.deref.ensures.value) in
    next_ahead shape by first c.args.cause.items (path c.loop-frame.tree) q c.loop-frame.frames.items c.pop.new.self.items c.in-Some.frame why c.loop-frame.invariant.1 c.in-Some.ensures.items c.in_ok-back.ensures.there
    (path c.go.new.self) c.push.new.self.items _ c.in-Some-pop.step c.in_ok-push.ensures.items c.in_ok-go.ensures.there c.in-Some-pop.ensures.items
    (sym tested ∙ c.if-not-knows_all.true)
    (c.in_ok-join.ensures ∙ (ap (λ (s : Shape _). joined (s.knows q.here) c.in-Some.frame.cause.items c.deref-then-not-knows_all.result.now) same ∙ ap (joined (shape.knows q.here) c.in-Some.frame.cause.items) c.deref-then-not-knows_all.ensures.value))

pub returns-in-Some-pop-clause-among : goal.returns-in-Some-pop-clause-among
returns-in-Some-pop-clause-among g c =
    let shape = g.T.Tree.shape c.args.tree.now in
    let by = g.T.Tree.option_by in
    let path = g.T.Tree.path in
    let first = levels_at by (path c.args.tree.now) c.args.frames.now.items in
    next_among shape by first c.args.cause.items (path c.loop-frame.tree) (path c.back.new.self) c.loop-frame.frames.items c.pop.new.self.items c.in-Some.frame c.loop-frame.cause.items c.loop-frame.invariant.1 c.in-Some.ensures.items c.in_ok-back.ensures.there
    (path c.go.new.self) c.push.new.self.items _ c.in-Some-pop.step c.in_ok-push.ensures.items c.in_ok-go.ensures.there c.in-Some-pop.ensures.items

pub loop-frame-preserved-then-not-knows_all : goal.loop-frame-preserved-then-not-knows_all
loop-frame-preserved-then-not-knows_all g c =
    let shape = g.T.Tree.shape c.args.tree.now in
    let by = g.T.Tree.option_by in
    let path = g.T.Tree.path in
    let first = levels_at by (path c.args.tree.now) c.args.frames.now.items in
    let f = c.in-Some.frame in
    let q = path c.back.new.self in
    let why = c.loop-frame.cause.items in
    let same = c.back.ensures.same ∙ c.loop-frame.invariant.0 in
    let tested : c.knows_all.result ≡ list_all (shape.knows q.here) why =
    c.knows_all.ensures ∙ (ap (λ (s : Shape _). list_all (s.knows q.here) c.deref.result.now) same ∙ ap (list_all (shape.knows q.here)) c.deref.ensures.value) in (
      c.join_reason.ensures.same ∙ same,
      subst (λ (x : Path _). IsBacking shape by first c.args.cause.items x c.pop.new.self.items c.join_reason.new.cause.items) (sym c.join_reason.ensures.stays)
          (exhausted shape by first c.args.cause.items (path c.loop-frame.tree) q c.loop-frame.frames.items c.pop.new.self.items f why c.loop-frame.invariant.1 c.in-Some.ensures.items c.in_ok-back.ensures.there
          c.join.new.cause.items c.join_reason.new.cause.items (sym tested ∙ c.if-not-knows_all.true)
          (nothing_left f.rest.items f.rest.ok.0 c.in_default-pop.ensures.cases.0)
          (c.in_ok-join.ensures ∙ (ap (λ (s : Shape _). joined (s.knows q.here) f.cause.items c.deref-then-not-knows_all.result.now) same ∙ ap (joined (shape.knows q.here) f.cause.items) c.deref-then-not-knows_all.ensures.value))
          (c.in_ok-join_reason.ensures.cause ∙ ap (λ (s : Shape _). joined (s.knows q.here) c.join.new.cause.items (s.reason q.here)) same)),
    )

pub loop-frame-preserved : goal.loop-frame-preserved
loop-frame-preserved g c =
    let shape = g.T.Tree.shape c.args.tree.now in
    let by = g.T.Tree.option_by in
    let path = g.T.Tree.path in
    let first = levels_at by (path c.args.tree.now) c.args.frames.now.items in
    let q = path c.back.new.self in
    let why = c.loop-frame.cause.items in
    let same = c.back.ensures.same ∙ c.loop-frame.invariant.0 in
    let tested : c.knows_all.result ≡ list_all (shape.knows q.here) why =
    c.knows_all.ensures ∙ (ap (λ (s : Shape _). list_all (s.knows q.here) c.deref.result.now) same ∙ ap (list_all (shape.knows q.here)) c.deref.ensures.value) in (
      same,
      jumped shape by first c.args.cause.items (path c.loop-frame.tree) q c.loop-frame.frames.items c.pop.new.self.items c.in-Some.frame why c.loop-frame.invariant.1 c.in-Some.ensures.items c.in_ok-back.ensures.there
          (sym tested ∙ c.if-not-knows_all.false),
    )

pub returns-clause-ahead : goal.returns-clause-ahead
returns-clause-ahead g c =
    let shape = g.T.Tree.shape c.args.tree.now in
    let by = g.T.Tree.option_by in
    let path = g.T.Tree.path in
    let first = levels_at by (path c.args.tree.now) c.args.frames.now.items in
    let none : c.loop-frame.frames.items ≡ [] = nothing_left c.loop-frame.frames.items c.loop-frame.frames.ok.0 c.in_default.ensures.cases.0 in
    (c.loop-frame.cause.items, none_left shape by first c.args.cause.items (path c.loop-frame.tree) c.loop-frame.cause.items (subst (λ (fs : List _). IsBacking shape by first c.args.cause.items (path c.loop-frame.tree) fs c.loop-frame.cause.items) none c.loop-frame.invariant.1))

use Rattle.std.proofs.Common.{◌≡◌, ◌∷◌, ◌+◌, ◌∙◌, ◌++◌, [], drop, refl, inl, ap}
use Rattle.std.proofs.lemmas.List.{map-append}
use Rattle.basics.proofs.Lists.{at_drop}
use Rattle.plan_law.specs.Lives.{IsPast}
use Rattle.plan_lives.specs.Lives.{life_of, lives_of}
use Rattle.plan_lives.specs.Stretches.{stretch_value}
use Rattle.plan_lives.proofs.Joining.{begun, left_behind, moved}
use Rattle.plan_lives.proofs.chain.take_past.Goals as goal
use Rattle.plan_lives.proofs.chain.take_past.Goals.{then-is_past+in_ok-push, else-is_past+in_ok-push-2}

pub is_past-requires-clause-moment : goal.is_past-requires-clause-moment
is_past-requires-clause-moment c =
    let e = at_drop c.args.fits.now c.loop-x.x-index c.x-item.result c.loop-x-test.true c.x-item.is in
    (c.requires.within (life_of c.x-item.result) (c.loop-x.invariant.todo_inside (life_of c.x-item.result) (rw (ap lives_of e) (inl refl)))).0

pub loop-x-init : goal.loop-x-init
loop-x-init c = rw c.new-others.ensures.items (begun (IsPast c.args.reach.now.groups.now (stretch_value c.args.stretch.now)) (lives_of c.args.fits.now) (lives_of c.args.waiting.now.items))

pub loop-x-preserved : goal.loop-x-preserved
loop-x-preserved c =
    let e = at_drop c.args.fits.now c.loop-x.x-index c.x-item.result c.loop-x-test.true c.x-item.is in
    let s = rw (ap lives_of e) at c.loop-x.invariant in
    let x = life_of c.x-item.result in
    let rest = lives_of c.args.fits.now in
    let todo = lives_of (drop (c.loop-x.x-index + 1) c.args.fits.now) in
    elim c.if-is_past.branch [
      | then-is_past+in_ok-push w ↦
          let is : lives_of c.if-is_past.waiting.items ≡ lives_of c.loop-x.waiting.items ++ x ∷ [] = ap (λ v. lives_of v.items) w.waiting-is ∙ ap lives_of w.in_ok-push.ensures.items ∙ map-append life_of c.loop-x.waiting.items (c.x-item.result ∷ []) in
          let same : lives_of c.if-is_past.others.items ≡ lives_of c.loop-x.others.items = ap (λ v. lives_of v.items) w.others-is in
          rw (is, same) (moved (IsPast c.args.reach.now.groups.now (stretch_value c.args.stretch.now)) rest todo (lives_of c.loop-x.others.items) (lives_of c.args.waiting.now.items) (lives_of c.loop-x.waiting.items) x s (c.is_past.ensures.0 w.if-is_past.true))
      | else-is_past+in_ok-push-2 w ↦
          let is : lives_of c.if-is_past.others.items ≡ lives_of c.loop-x.others.items ++ x ∷ [] = ap (λ v. lives_of v.items) w.others-is ∙ ap lives_of w.in_ok-push-2.ensures.items ∙ map-append life_of c.loop-x.others.items (c.x-item.result ∷ []) in
          let same : lives_of c.if-is_past.waiting.items ≡ lives_of c.loop-x.waiting.items = ap (λ v. lives_of v.items) w.waiting-is in
          rw (is, same) (left_behind (IsPast c.args.reach.now.groups.now (stretch_value c.args.stretch.now)) rest todo (lives_of c.loop-x.others.items) (lives_of c.args.waiting.now.items) (lives_of c.loop-x.waiting.items) x s (λ r. let t = c.is_past.ensures.1 r in cc))
    ]

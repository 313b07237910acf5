use Rattle.std.proofs.Common.{◌≡◌, ◌∷◌, ◌∙◌, [], ap, subst, List, length, arith, rules, refl}
use Rattle.std.proofs.lemmas.List.{map-append, nil_from_length}
use Rattle.plan_law.specs.Lives.{Life, Moment, IsPast, Precedes}
use Rattle.plan_lives.specs.Chains.{AreParted}
use Rattle.plan_lives.specs.Lives.{life_of, lives_of, moment_of}
use Rattle.plan_lives.specs.Stretches.{stretch_value}
use Rattle.plan_lives.proofs.Joining.{AreJoining, arrives_has, has-last, joining_begun, joining_next, not_joined}
use Rattle.plan_lives.proofs.chain.are_joined.Goals as goal

pub loop-x-init : goal.loop-x-init
loop-x-init c =
    joining_begun _ _ _ _ _ (subst (λ (old : List Life). AreParted (IsPast c.args.reach.now.groups.now (stretch_value c.args.stretch.now)) (lives_of c.args.fits.now) [] (lives_of c.in_ok-rest.rest.items) old (lives_of c.take_past.new.waiting.items)) (ap lives_of c.new-waiting.ensures.items) c.in_ok-rest.ensures)

pub is_ahead-requires-clause-moment : goal.is_ahead-requires-clause-moment
is_ahead-requires-clause-moment c =
    let j = subst (AreJoining c.args.reach.now.groups.now (lives_of c.args.fits.now) (stretch_value c.args.stretch.now) (lives_of c.loop-x.rest.items)) (ap lives_of c.in-Some.ensures.items ∙ map-append life_of c.pop.new.self.items (c.in-Some.x ∷ [])) c.loop-x.invariant in
    (c.requires.within (life_of c.in-Some.x) (arrives_has _ _ _ _ (j.arrived (life_of c.in-Some.x) (has-last (lives_of c.pop.new.self.items) (life_of c.in-Some.x))))).1

pub take_past-requires-in-Some-clause-stretch : goal.take_past-requires-in-Some-clause-stretch
take_past-requires-in-Some-clause-stretch c =
    let j = subst (AreJoining c.args.reach.now.groups.now (lives_of c.args.fits.now) (stretch_value c.args.stretch.now) (lives_of c.loop-x.rest.items)) (ap lives_of c.in-Some.ensures.items ∙ map-append life_of c.pop.new.self.items (c.in-Some.x ∷ [])) c.loop-x.invariant in
    ((c.requires.within (life_of c.in-Some.x) (arrives_has _ _ _ _ (j.arrived (life_of c.in-Some.x) (has-last (lives_of c.pop.new.self.items) (life_of c.in-Some.x))))).1, tt)

pub returns-then-is_ahead : goal.returns-then-is_ahead
returns-then-is_ahead c =
    let j = subst (AreJoining c.args.reach.now.groups.now (lives_of c.args.fits.now) (stretch_value c.args.stretch.now) (lives_of c.loop-x.rest.items)) (ap lives_of c.in-Some.ensures.items ∙ map-append life_of c.pop.new.self.items (c.in-Some.x ∷ [])) c.loop-x.invariant in
    (λ t. record { last = life_of c.in-Some.x; arrives = j.arrived (life_of c.in-Some.x) (has-last (lives_of c.pop.new.self.items) (life_of c.in-Some.x)); outlasts = c.is_ahead.ensures.0 c.if-is_ahead.true }, λ k. refl)

pub loop-x-preserved : goal.loop-x-preserved
loop-x-preserved c =
    let j = subst (AreJoining c.args.reach.now.groups.now (lives_of c.args.fits.now) (stretch_value c.args.stretch.now) (lives_of c.loop-x.rest.items)) (ap lives_of c.in-Some.ensures.items ∙ map-append life_of c.pop.new.self.items (c.in-Some.x ∷ [])) c.loop-x.invariant in
    joining_next _ _ _ (lives_of c.loop-x.rest.items) (lives_of c.pop.new.self.items) _ _ (life_of c.in-Some.x) j (λ r. let t = c.is_ahead.ensures.1 r in cc)
    (subst (λ (xs : List Life). AreParted (λ (m : Moment). Precedes c.args.reach.now.groups.now m (moment_of c.in-Some.x.death)) xs [] (lives_of c.in_ok-rest-2.rest.items) (lives_of c.pop.new.self.items) (lives_of c.take_past-in-Some.new.waiting.items)) (ap lives_of c.deref.ensures.value) c.in_ok-rest-2.ensures)

pub returns : goal.returns
returns c =
    let n : length c.loop-x.waiting.items ≡ 0 = first_of (omega (arith, c.in_default.ensures.cases.0), search rules) in
    let e : c.loop-x.waiting.items ≡ [] = nil_from_length c.loop-x.waiting.items n in
    (λ t. cc, λ k. absurd (not_joined _ _ _ _ (subst (AreJoining c.args.reach.now.groups.now (lives_of c.args.fits.now) (stretch_value c.args.stretch.now) (lives_of c.loop-x.rest.items)) (ap lives_of e) c.loop-x.invariant) k))

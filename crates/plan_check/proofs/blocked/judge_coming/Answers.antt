use Rattle.std.proofs.Common.{◌⊎◌, true, Some, inl, inr, length, subst, sym}
use Rattle.plan_law.specs.Lives as law
use Rattle.plan_lives.specs.Index.{plan_of, start_of}
use Rattle.plan_lives.specs.Lives.{life_of, lives_of}
use Rattle.plan_lives.specs.Stretches.{IsStretchWithin, IsWithin}
use Rattle.plan_lives.proofs.Within.{lives_within}
use Rattle.plan_check.specs.Kept.{IsKeptOutToo}
use Rattle.plan_check.specs.PackageRules.{IsBarred, IsBlocked, strong_rule}
use Rattle.plan_rules.specs.Order.{number_of}
use Rattle.plan_rules.specs.Refusals.{Refusal, Refusal as refused}
use Rattle.plan_rules.specs.Verdicts.{each, refuse}
use Rattle.plan_rules.proofs.Trying.{says_more}
use Rattle.plan_check.proofs.KeptOut.{kept_met, met_kept, refused_alike}
use Rattle.plan_check.proofs.blocked.judge_coming.Goals as goal

pub judge_kept-requires-clause-others : goal.judge_kept-requires-clause-others
judge_kept-requires-clause-others c =
    let plan = plan_of c.args.index.now in
    subst (λ (s : law.Stretch). IsStretchWithin (length plan) s) (sym c.in_ok-barring.ensures.stretch)
    (subst (λ (b : law.Moment). IsWithin (length plan) b) c.requires.comes (lives_within plan (start_of c.args.index.now) (life_of c.args.x.now) c.requires.x).0)

pub returns : goal.returns
returns c =
    let plan = plan_of c.args.index.now in
    let all = lives_of c.args.all.now in
    let x = life_of c.args.x.now in
    let k = c.in_ok-barring.barring in
    let f : law.Life → Refusal = λ y. refused.Barred (number_of x.birth) x.package_is.facts.id y.package_is.facts.id in
    let P : law.Life → Type 0 = λ y. IsBlocked plan true x y ⊎ IsKeptOutToo plan (Some k) y in
    let Q : law.Life → Type 0 = λ y. IsBlocked plan true x y ⊎ IsBarred plan x.package_is x.birth y in
    says_more (each all (λ y. refuse (P y) (f y))) (strong_rule plan all x) c.judge_kept.result
    (refused_alike P Q
    (λ y h. elim h [ inl m ↦ inl m | inr too ↦ inr (subst (λ (b : law.Moment). IsBarred plan x.package_is b y) (sym c.requires.comes) (kept_met plan k _ _ _ _ c.in_ok-barring.ensures y too)) ])
    (λ y h. elim h [ inl m ↦ inl m | inr bar ↦ inr (met_kept plan k _ _ _ _ c.in_ok-barring.ensures y (subst (λ (b : law.Moment). IsBarred plan x.package_is b y) c.requires.comes bar)) ])
    f all)
    c.judge_kept.ensures

use Rattle.std.proofs.Common.{◌≡◌, inl, inr, rules}
use Rattle.pkg_state.specs.Package.{line_of}
use Rattle.plan_law.specs.Lives.{IsLife}
use Rattle.plan_lives.specs.Index.{plan_of, start_of}
use Rattle.plan_lives.specs.Lives.{life_of}
use Rattle.plan_lives.proofs.AllLives.{has_lives}
use Rattle.plan_rules.proofs.InTheWay.{crowds, in_the_way}
use Rattle.plan_rules.proofs.hindrance.takes_line.Goals as goal

pub returns : goal.returns
returns c =
    let plan = plan_of c.args.index.now in
    let start = start_of c.args.index.now in
    let x = life_of c.args.x.now in
    let y = life_of c.args.y.now in
    let g = c.args.g in
    let is : IsLife plan start y = (has_lives plan start y).0 c.requires.y in
    let twin : line_of y.package_is.facts ≡ line_of x.package_is.facts = c.in_ok-on_one_line.ensures.0 (search rules) in (
      (λ t. elim (c.is_there_too.ensures.0 t) [
        | inl way ↦ inl (crowds plan start g x.package_is y is twin way)
        | inr comes ↦ inr (record { comes = comes; twin = twin })
      ]),
      (λ h. elim h [
        | inl crowd ↦ c.is_there_too.ensures.1 (inl (in_the_way plan start g x.package_is y is crowd))
        | inr twins ↦ c.is_there_too.ensures.1 (inr twins.comes)
      ]),
    )

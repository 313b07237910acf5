use Rattle.std.proofs.Common.{◌≡◌, ◌∙◌, List, ap, sym, subst, refl, arith}
use Rattle.std.proofs.lemmas.List.{take_all}
use Rattle.basics.specs.Members.{Has}
use Rattle.plan_law.specs.Plans.{removed_line}
use Rattle.plan_lives.specs.Index.{all_lives, line_key, plan_of, start_of}
use Rattle.plan_lives.specs.Lives.{life_of, lives_of}
use Rattle.plan_lives.specs.declared.life.Life.{Life}
use Rattle.plan_lives.proofs.AllLives.{has_lives}
use Rattle.plan_lives.proofs.Keyed.{in_items, item_at, none_more}
use Rattle.plan_rules.specs.Rules.{IsTheOne}
use Rattle.plan_rules.proofs.presence.is_present.Goals as goal

pub returns-then-is_the_one : goal.returns-then-is_the_one
returns-then-is_the_one c =
    let index = c.args.index.now in
    let x = life_of c.x-item.result in
    let one = c.is_the_one.ensures.0 c.if-is_the_one.true in
    let text : c.text.result.now ≡ removed_line c.args.removal.now = c.text.ensures ∙ (c.in_ok-line.ensures ∙ ap removed_line c.removal.view_is) in
    let k = (in_items line_key (all_lives index) index.by_line.lists c.text.result.now c.get-x-items.result.now c.requires.by_line c.get-x-items.ensures x).0 (item_at c.get-x-items.result.now c.loop-x.x-index c.x-item.result (omega arith) c.x-item.is) in
    (λ t. (x, (has_lives (plan_of index) (start_of index) x).0 k.0, one.stands, one.same, sym k.1 ∙ text), λ p. refl)

pub loop-x-preserved : goal.loop-x-preserved
loop-x-preserved c =
    none_more (IsTheOne c.args.g c.args.removal.now) c.get-x-items.result.now c.loop-x.x-index c.x-item.result (omega arith) c.x-item.is c.loop-x.invariant
    (λ one. let t = c.is_the_one.ensures.1 one in let f = c.if-is_the_one.false in cc (t, f))

pub returns : goal.returns
returns c =
    let index = c.args.index.now in
    let text : c.text.result.now ≡ removed_line c.args.removal.now = c.text.ensures ∙ (c.in_ok-line.ensures ∙ ap removed_line c.removal.view_is) in
    let whole = take_all c.loop-x.x-index c.get-x-items.result.now (omega arith) in (
      λ t. cc,
      λ p. absurd (c.loop-x.invariant p.0
          (subst (λ (items : List Life). Has (lives_of items) p.0) (sym whole)
          ((in_items line_key (all_lives index) index.by_line.lists c.text.result.now c.get-x-items.result.now c.requires.by_line c.get-x-items.ensures p.0).1 ((has_lives (plan_of index) (start_of index) p.0).1 p.1, text ∙ sym p.4)))
          (record { stands = p.2; same = p.3 })),
    )

use Rattle.std.proofs.Common.{◌≡◌, ◌∙◌, List, sym, subst, arith}
use Rattle.std.proofs.lemmas.List.{take_all}
use Rattle.basics.specs.Members.{Has}
use Rattle.pkg_state.specs.Package.{line_of}
use Rattle.plan_lives.specs.Index.{all_lives, line_key, plan_of, start_of}
use Rattle.plan_lives.specs.Lives.{lives_of}
use Rattle.plan_lives.specs.declared.life.Life.{Life}
use Rattle.plan_lives.proofs.AllLives.{has_lives}
use Rattle.plan_lives.proofs.Keyed.{in_items, none_more}
use Rattle.plan_rules.specs.Rules.{IsInTheWay}
use Rattle.plan_rules.proofs.InTheWay.{in_the_way}
use Rattle.plan_rules.proofs.room.is_vacant.Goals as goal

pub loop-y-preserved : goal.loop-y-preserved
loop-y-preserved c =
    none_more (IsInTheWay c.args.g) c.get-y-items.result.now c.loop-y.y-index c.y-item.result (omega arith) c.y-item.is c.loop-y.invariant
    (λ way. let t = c.is_in_the_way.ensures.1 way in let f = c.if-is_in_the_way.false in cc (t, f))

pub returns : goal.returns
returns c =
    let index = c.args.index.now in
    let items = c.get-y-items.result.now in
    let text : c.text.result.now ≡ line_of c.args.pkg.now.facts = c.text.ensures ∙ c.in_ok-line.ensures in
    let whole = take_all c.loop-y.y-index items (omega arith) in
    λ t y has crowd. c.loop-y.invariant y
    (subst (λ (xs : List Life). Has (lives_of xs) y) (sym whole)
    ((in_items line_key (all_lives index) index.by_line.lists c.text.result.now items c.requires.is.by_line c.get-y-items.ensures y).1 (has, text ∙ sym crowd.twin)))
    (in_the_way (plan_of index) (start_of index) c.args.g c.args.pkg.now y ((has_lives (plan_of index) (start_of index) y).0 has) crowd)

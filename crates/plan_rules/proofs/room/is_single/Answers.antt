use Rattle.std.proofs.Common.{◌≡◌, ◌∙◌, List, ap, sym, subst, arith}
use Rattle.std.proofs.lemmas.List.{take_all}
use Rattle.basics.specs.Members.{Has}
use Rattle.dep_atom.specs.declared.package.PackageId.{PackageId}
use Rattle.pkg_state.specs.Package.{Package}
use Rattle.plan_lives.specs.Index.{all_lives, name_key, plan_of}
use Rattle.plan_lives.specs.Lives.{life_of, lives_of}
use Rattle.plan_lives.specs.declared.life.Life.{Life}
use Rattle.plan_lives.proofs.Keyed.{in_items, item_at, none_more}
use Rattle.plan_rules.specs.Rules.{AreDouble}
use Rattle.plan_rules.proofs.room.is_single.Goals as goal

pub are_double-requires-clause-y : goal.are_double-requires-clause-y
are_double-requires-clause-y c =
    let index = c.args.index.now in
    let items = c.get-y-items.result.now in
    ((in_items name_key (all_lives index) index.by_name.lists c.text.result.now items c.requires.is.by_name c.get-y-items.ensures (life_of c.y-item.result)).0 (item_at items c.loop-y.y-index c.y-item.result (omega arith) c.y-item.is)).0

pub loop-y-preserved : goal.loop-y-preserved
loop-y-preserved c =
    none_more (AreDouble (plan_of c.args.index.now) (life_of c.args.x.now)) c.get-y-items.result.now c.loop-y.y-index c.y-item.result (omega arith) c.y-item.is c.loop-y.invariant
    (λ d. let t = c.in_ok-are_double.ensures.1 d in let f = c.if-branch.false in cc (t, f))

pub returns : goal.returns
returns c =
    let index = c.args.index.now in
    let items = c.get-y-items.result.now in
    let x = life_of c.args.x.now in
    let text : c.text.result.now ≡ name_key x = c.text.ensures.text ∙ ap (λ (q : Package). q.facts.id.name.«package») c.pkg.view_is in
    let whole = take_all c.loop-y.y-index items (omega arith) in
    λ t y has d. c.loop-y.invariant y
    (subst (λ (xs : List Life). Has (lives_of xs) y) (sym whole)
    ((in_items name_key (all_lives index) index.by_name.lists c.text.result.now items c.requires.is.by_name c.get-y-items.ensures y).1 (has, text ∙ ap (λ (id : PackageId). id.name.«package») d.double.same)))
    d

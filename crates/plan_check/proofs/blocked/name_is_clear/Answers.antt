use Rattle.std.proofs.Common.{◌≡◌, ◌∙◌, List, sym, subst, arith}
use Rattle.std.proofs.lemmas.List.{take_all}
use Rattle.std.proofs.lemmas.Slice.Eq.{bytes_eq-Decides}
use Rattle.basics.specs.Members.{Has}
use Rattle.dep_atom.specs.Values.{atom_value}
use Rattle.pkg_state.proofs.Named.{same_package}
use Rattle.plan_lives.specs.Index.{all_lives, name_key, plan_of}
use Rattle.plan_lives.specs.Lives.{life_of, lives_of}
use Rattle.plan_lives.specs.declared.life.Life.{Life}
use Rattle.plan_lives.proofs.Keyed.{in_items, item_at, none_more}
use Rattle.plan_check.specs.Kept.{IsKeptOut}
use Rattle.plan_check.proofs.blocked.name_is_clear.Goals as goal

pub keeps_out-requires-clause-y : goal.keeps_out-requires-clause-y
keeps_out-requires-clause-y c =
    let index = c.args.index.now in
    let items = c.get-y-items.result.now in
    ((in_items name_key (all_lives index) index.by_name.lists c.text.result.now items c.requires.is.by_name c.get-y-items.ensures (life_of c.y-item.result)).0 (item_at items c.loop-y.y-index c.y-item.result (omega arith) c.y-item.is)).0

pub loop-y-preserved : goal.loop-y-preserved
loop-y-preserved c =
    none_more (IsKeptOut (plan_of c.args.index.now) c.args.keeping.now) c.get-y-items.result.now c.loop-y.y-index c.y-item.result (omega arith) c.y-item.is c.loop-y.invariant
    (λ k. let t = c.in_ok-keeps_out.ensures.1 k in let f = c.if-branch.false in cc (t, f))

pub returns : goal.returns
returns c t y h m =
    let index = c.args.index.now in
    let items = c.get-y-items.result.now in
    let a = atom_value c.args.atom.now in
    let name : c.text.result.now ≡ name_key y = c.text.ensures.text ∙ (bytes_eq-Decides a.name.«package» (name_key y)).0 (same_package a y.package_is.facts c.args.keeping.now.asker.now m) in
    c.loop-y.invariant y (subst (λ (is : List Life). Has (lives_of is) y) (sym (take_all c.loop-y.y-index items (omega arith)))
    ((in_items name_key (all_lives index) index.by_name.lists c.text.result.now items c.requires.is.by_name c.get-y-items.ensures y).1 (h, name)))

use Rattle.std.proofs.Common.{◌∙◌, refl}
use Rattle.std.proofs.lemmas.Result.{on_ok_weaker}
use Rattle.visible_rules.specs.declared.near.Near.{Near}
use Rattle.visible_rules.specs.declared.near.Placed.{Placed}
use Rattle.visible_rules.proofs.Weaving.{near_named, near_plain}
use Rattle.visible_rules.proofs.near.Near.add.Goals as goal

pub returns-in-Some : goal.returns-in-Some
returns-in-Some c =
    let new : Near = record { plain = c.args.self.now.plain; named = c.add.new.self } in
    let placed : Placed = record { before = c.len-before.result; item = c.args.item } in
    on_ok_weaker c.add.result
    (λ put items so. near_named items c.args.item c.args.self.now new so c.in-Some.atom placed c.text.result.now c.in-Some.is c.text.ensures.text (c.len-before.ensures ∙ c.args.self.now.plain.ok.0) refl refl put)
    c.add.ensures

pub returns-in_ok-push-in-None : goal.returns-in_ok-push-in-None
returns-in_ok-push-in-None c items so =
    let new : Near = record { plain = c.push.new.self; named = c.args.self.now.named } in
    near_plain items c.args.item c.args.self.now new so c.in-None.is c.in_ok-push-in-None.ensures.items refl

use Rattle.std.proofs.Common.{◌≡◌, ◌∙◌, ◌↔◌, IsTrue, [], Bool, length, map, get_or, ap, sym, subst, arith}
use Rattle.std.proofs.lemmas.List.{get_or-map, length-map}
use Rattle.plan_law.specs.Plans.{Reaches}
use Rattle.plan_lives.specs.Reaching.{has_bit}
use Rattle.plan_lives.proofs.reach.Reach.reaches.Goals as goal

pub has_bit-requires : goal.has_bit-requires
has_bit-requires c =
    let e : get_or (map (λ v. v.items) c.args.self.now.rows.items) c.args.later [] ≡ c.deref.result.now =
    get_or-map _ c.args.self.now.rows.items c.args.later c.index.result.now [] (omega (arith, c.requires.is.rows_are.count, length-map c.args.self.now.rows.items (λ v. v.items), c.requires.later)) ∙ ap (λ v. v.items) (sym c.index.ensures) ∙ sym c.deref.ensures.value in
    let w = c.requires.is.rows_are.wide c.args.later c.requires.later in
    omega (arith, w, ap length e, c.requires.earlier)

pub returns : goal.returns
returns c =
    let e : get_or (map (λ v. v.items) c.args.self.now.rows.items) c.args.later [] ≡ c.deref.result.now =
    get_or-map _ c.args.self.now.rows.items c.args.later c.index.result.now [] (omega (arith, c.requires.is.rows_are.count, length-map c.args.self.now.rows.items (λ v. v.items), c.requires.later)) ∙ ap (λ v. v.items) (sym c.index.ensures) ∙ sym c.deref.ensures.value in
    let m = c.requires.is.rows_are.marks c.args.later c.args.earlier c.requires.later c.requires.earlier in
    subst (λ (b : Bool). IsTrue b ↔ Reaches c.args.self.now.groups.now c.args.later c.args.earlier) (ap (λ ws. has_bit ws c.args.earlier) e ∙ sym c.has_bit.ensures) m

use Rattle.std.proofs.Common.{◌≡◌, ◌∙◌, ◌++◌, ◌∷◌, [], ap, rules, string_bytes}
use Rattle.std.specs.Prelude.{codes}
use Rattle.std.specs.List.{flat_map}
use Rattle.plan_text.specs.Printed.{spaced}
use Rattle.merge_groups.specs.Lined.{line_begun}
use Rattle.merge_groups.specs.Order.{enabled_of}
use Rattle.merge_groups.proofs.Texts.{addition_is}
use Rattle.merge_groups.proofs.order.addition_text.Goals as goal

pub returns : goal.returns
returns c =
    let p = c.args.pkg.now in
    let flags : c.in_ok-flags.flags ≡ enabled_of p = c.in_ok-flags.ensures in
    let front : string_bytes c.push_str-2.new.self ≡ (line_begun (codes "add") p ++ (47 ∷ [])) ++ p.facts.subslot = search rules in
    c.in_ok-push_flags.ensures
    ∙ (ap (λ l. l ++ flat_map spaced c.in_ok-flags.flags) front
    ∙ (ap (λ fs. ((line_begun (codes "add") p ++ (47 ∷ [])) ++ p.facts.subslot) ++ flat_map spaced fs) flags ∙ addition_is p))

use Rattle.std.proofs.Common.{rules, ◌≡◌, ◌∙◌, Some, ap, false, sym, true}
use Rattle.std.specs.List.{find}
use Rattle.std.specs.Option.{option_map}
use Rattle.pkg_state.specs.Package.{Package}
use Rattle.pkg_state.specs.Consistent.{blocks, facts_of, fits_required, is_blocked, is_met}
use Rattle.pkg_state.specs.declared.class.Class.TheVariants.{Rdepend}
use Rattle.pkg_state.proofs.Faults.{parts_right}
use Rattle.pkg_state.proofs.Lists.{none_found}
use Rattle.pkg_state.proofs.judging.judge.Goals as goal

pub returns-in-Some-clause-wrong : goal.returns-in-Some-clause-wrong
returns-in-Some-clause-wrong c =
    let one = c.args.one.now in
    let fits : fits_required one ≡ true = search rules in
    let found : find (λ q. blocks q one) c.args.around.now.packages.now ≡ Some c.in-Some.by.now = sym c.in_ok-by.ensures ∙ ap (option_map (λ q. q.now)) c.in-Some.is in
    (c.in_ok-package-2.ensures ∙ ap (λ (p : Package). p.facts.id) c.one.view_is, fits, (c.in-Some.by.now, found, c.in_ok-by-2.ensures ∙ ap (λ (p : Package). p.facts.id) c.by.view_is))

pub returns-then-not-is_met-clause-wrong : goal.returns-then-not-is_met-clause-wrong
returns-then-not-is_met-clause-wrong c =
    let one = c.args.one.now in
    let ps = c.args.around.now.packages.now in
    let fits : fits_required one ≡ true = search rules in
    let none : is_blocked ps one ≡ false = none_found (λ q. blocks q one) ps (sym c.in_ok-by.ensures ∙ ap (option_map (λ q. q.now)) c.in_default.is) in
    let unmet : is_met (facts_of ps) Rdepend one ≡ false = search rules in
    (c.in_ok-package-3.ensures ∙ ap (λ (p : Package). p.facts.id) c.one.view_is, fits, none, unmet, c.in_ok-leaf.ensures ∙ c.lacking_leaf.ensures)

pub returns-clause-ok : goal.returns-clause-ok
returns-clause-ok c =
    let one = c.args.one.now in
    let ps = c.args.around.now.packages.now in
    let fits : fits_required one ≡ true = search rules in
    let none : is_blocked ps one ≡ false = none_found (λ q. blocks q one) ps (sym c.in_ok-by.ensures ∙ ap (option_map (λ q. q.now)) c.in_default.is) in
    let met : is_met (facts_of ps) Rdepend one ≡ true = search rules in
    parts_right ps one (record { required = fits; unblocked = none; runtime = met })

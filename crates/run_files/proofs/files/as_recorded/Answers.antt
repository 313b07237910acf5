use Rattle.std.proofs.Common.{◌≡◌, ◌∙◌, ◌&&◌, ℕ, List, ap, subst}
use Rattle.pms_names.specs.Flags.{IsRising, has}
use Rattle.pkg_state.specs.Package.{Package, with_enabled}
use Rattle.run_files.proofs.Kept.{recorded_with}
use Rattle.run_files.proofs.files.as_recorded.Goals as goal

pub returns : goal.returns
returns c =
    let kept : List (List ℕ) = c.in_ok-recorded-inside.field-0 in
    let was : IsRising c.args.pkg.facts.enabled = subst (λ (p : Package). IsRising p.facts.enabled) c.pkg.view_is c.facts_are_named.ensures.enabled.rising in
    let same : (q : List ℕ) → has kept q ≡ (has c.args.pkg.facts.iuse q && has c.args.pkg.facts.enabled q) =
    subst (λ (p : Package). (q : List ℕ) → has kept q ≡ (has p.facts.iuse q && has p.facts.enabled q)) c.recorded.view_is c.in_ok-recorded-inside.ensures in
    ap (with_enabled kept) c.recorded.view_is ∙ recorded_with c.args.pkg kept was c.facts_are_named-2.ensures.enabled.rising same

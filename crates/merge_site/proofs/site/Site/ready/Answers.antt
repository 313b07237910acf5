use Rattle.std.proofs.Common.{ℕ, List, subst}
use Rattle.std.specs.Prelude.{MatchOption}
use Rattle.merge_site.specs.declared.group.SiteGroup.{SiteGroup}
use Rattle.merge_site.specs.Waiting.{IsFirstReady, IsReady}
use Rattle.merge_site.proofs.site.Site.ready.Goals as goal

pub returns : goal.returns
returns g c =
    let k = c.self.inside.core in
    subst (λ a. MatchOption c.first_ready.result ((h : ℕ) → ¬ IsReady a.keeping a.groups h) (IsFirstReady a.keeping a.groups)) c.self.view_is
    (subst (λ (xs : List SiteGroup). MatchOption c.first_ready.result ((h : ℕ) → ¬ IsReady k xs h) (IsFirstReady k xs)) c.deref.ensures.value c.first_ready.ensures)

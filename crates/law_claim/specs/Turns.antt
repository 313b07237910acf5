-- Groups of a plan that are under way at a time.
use Rattle.std.specs.Prelude.{◌≡◌, ℕ, true, List}
use Rattle.merge_core.specs.Roll.{Roll, phase_at}
use Rattle.plan_law.specs.Accepted.{Changes, IsAccepted}
use Rattle.plan_law.specs.Plans as plans
use Rattle.pkg_state.specs.Package.{Package}
use Rattle.merge_core.specs.Runs.{IsFollowing}
use Rattle.law_commit.specs.Claims.{is_granted}

-- Of two groups of an accepted plan whose claims are granted, none changes a line that the other
-- changes: one of two that change a line waits for the other to be told.
abbrev pub GrantedLinesAreApart : Type 0
GrantedLinesAreApart =
    (plan : List plans.Group) (start : List Package) (r : Roll) (g h : ℕ) (line : List ℕ) →
    IsAccepted plan start → IsFollowing (λ i. (plans.group_at plan i).after) r →
    is_granted (phase_at r g) ≡ true → is_granted (phase_at r h) ≡ true → ¬ (g ≡ h) →
    Changes plan g line → ¬ Changes plan h line

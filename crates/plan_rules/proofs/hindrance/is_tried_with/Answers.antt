use Rattle.std.proofs.Common.{◌≡◌, ◌∙◌, ap, refl, sym}
use Rattle.plan_law.specs.Lives.{commit, never, opening}
use Rattle.plan_lives.specs.Lives.{moment_of}
use Rattle.plan_rules.proofs.hindrance.is_tried_with.Goals as goal

pub returns-in-Opening : goal.returns-in-Opening
returns-in-Opening c = ((λ t e. c.is_opening.ensures.0 t), (λ h. c.is_opening.ensures.1 (h (ap moment_of c.in-Opening.is))))

pub returns-in-Commit : goal.returns-in-Commit
returns-in-Commit c = ((λ t e. absurd (let k : commit c.in-Commit.field-0 ≡ opening = sym (ap moment_of c.in-Commit.is) ∙ e in cc k)), (λ h. refl))

pub returns-in-Never : goal.returns-in-Never
returns-in-Never c = ((λ t e. absurd (let k : never ≡ opening = sym (ap moment_of c.in-Never.is) ∙ e in cc k)), (λ h. refl))

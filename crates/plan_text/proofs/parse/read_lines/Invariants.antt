use Rattle.std.proofs.Common.{ℕ, List, Bor, map, drop}
use Rattle.plan_text.specs.Drafts.{current_group, whole_groups}
use Rattle.plan_text.specs.Progress.{IsReadTo}
use Rattle.plan_text.specs.Standing.{standing_value}
use Rattle.plan_text.proofs.parse.read_lines.Given as goal

abbrev pub invariant-loop-at : goal.invariant-loop-at
invariant-loop-at l =
    IsReadTo (map {A = Bor (List ℕ)} {B = List ℕ} (λ w. w.now) l.texts) (map {A = Bor (List ℕ)} {B = List ℕ} (λ w. w.now) (drop l.at l.texts)) l.at (standing_value l.standing) (whole_groups l.draft) (current_group l.draft)

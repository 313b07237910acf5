use Rattle.std.proofs.Common.{◌≡◌, ℕ, List, Bor, map, length}
use Rattle.plan_text.specs.Words.{rise}
use Rattle.plan_text.proofs.words.rise.Given as goal

abbrev pub invariant-loop-rest : goal.invariant-loop-rest
invariant-loop-rest l = rise (map {A = Bor (List ℕ)} {B = List ℕ} (λ t. t.now) l.rest) ≡ rise (map {A = Bor (List ℕ)} {B = List ℕ} (λ t. t.now) l.texts)

abbrev pub decreases-loop-rest : goal.decreases-loop-rest
decreases-loop-rest l = length l.rest

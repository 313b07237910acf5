use Rattle.std.proofs.Common.{ℕ, List, ◌++◌, ◌∷◌, [], ap, ◌∙◌, sym, length, arith, length-append}
use Rattle.merge_journal.specs.Names.{stage_path}
use Rattle.recovery.proofs.Stages.{stages_more}
use Rattle.recovery.proofs.paths.stage_paths.Goals as goal

pub loop-index-preserved : goal.loop-index-preserved
loop-index-preserved c =
    let pushed = c.in_ok-push.ensures.items in
    let more = stages_more c.args.group c.loop-index.index in
    let one = ap (λ (p : List ℕ). c.loop-index.paths.items ++ p ∷ []) c.in_ok-stage_path.ensures in
    let front = ap (λ (l : List (List ℕ)). l ++ stage_path c.args.group c.loop-index.index ∷ []) c.loop-index.invariant.0 in
    (pushed ∙ (one ∙ (front ∙ sym more)), omega (arith, ap length pushed, length-append c.loop-index.paths.items (c.in_ok-stage_path.field-0 ∷ []), c.loop-index.invariant.1))

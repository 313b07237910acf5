use Rattle.std.proofs.Common.{inl, inr, rules}
use Rattle.std.proofs.lemmas.Result.{IfOk-weaker}
use Rattle.plan_lives.specs.Index.{all_lives}
use Rattle.plan_lives.specs.Lives.{lives_of}
use Rattle.plan_rules.proofs.Hindered.{within_all}
use Rattle.plan_rules.proofs.room.line_is_free.Goals as goal

pub returns : goal.returns
returns c =
    IfOk-weaker c.is_alone.result _ _ (λ alone h yes j y at_j apart line. elim line [
      | inl crowd ↦ c.in_ok-is_vacant.ensures (search rules) y (within_all (all_lives c.args.index.now) (lives_of c.args.all.now) c.requires.order j y at_j) crowd
      | inr twins ↦ h yes j y at_j apart twins
    ]) c.is_alone.ensures

use Rattle.std.proofs.Common.{◌≡◌, ap, is_lt, rules}
use Rattle.std.proofs.lemmas.Cmp.{on_total}
use Rattle.std.proofs.lemmas.List.Sorted.{answers_always, ranks_by}
use Rattle.dep_atom.proofs.Ranked.{rank_total}
use Rattle.emerge_choose.specs.Reasons.{reason_rank}
use Rattle.emerge_choose.specs.declared.reason.NotTaken.{NotTaken}
use Rattle.emerge_choose.proofs.reasons.ranked.Goals as goal

pub returns-clause-sorted : goal.returns-clause-sorted
returns-clause-sorted c = c.in_ok-sort_by.ensures.sorted (λ f g. is_lt (reason_rank f g)) (ranks_by (on_total (λ (r : NotTaken). r.id) (rank_total c.order_is_that_of_keys.ensures.total)) (λ (r : NotTaken). r)) (answers_always _ (λ a r. is_lt r ≡ is_lt (reason_rank a.0.now a.1.0.now)) _ (λ f a r q k. let is : r ≡ reason_rank a.0.now a.1.0.now = search rules in ap is_lt is))

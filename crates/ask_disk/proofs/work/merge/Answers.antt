use Rattle.std.proofs.Common.{[]}
use Rattle.ask_disk.proofs.work.merge.Goals as goal

pub merge_next-end-requires-clause-begun : goal.merge_next-end-requires-clause-begun
merge_next-end-requires-clause-begun c =
    rw (c.in_ok-history.ensures.items, c.in_ok-acknowledged.ensures.items) ([], (λ has. absurd has), c.in_ok-site.ensures.begun)

use Rattle.std.proofs.Common.{[]}
use Rattle.ask_disk.proofs.runs.merge_one.Goals as goal

pub merge_next-end-requires-clause-begun : goal.merge_next-end-requires-clause-begun
merge_next-end-requires-clause-begun c =
    let under = c.in_ok-site.ensures.begun in
    ([], (λ has. absurd has), record { through = under.through; count = under.count; merged = c.in_ok-notes.ensures.none; told = c.in_ok-notes.ensures.untold })

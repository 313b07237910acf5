use Rattle.std.proofs.Common.{sym, subst}
use Rattle.file_tree.specs.Disk.{Story}
use Rattle.merge_core.specs.Trail.{IsAtRest}
use Rattle.ask_disk.proofs.openings.stopping.Goals as goal

pub returns : goal.returns
returns c = subst (λ (s : Story). IsAtRest s.now.holds s.now) (sym c.stop_at.ensures.story) c.in_ok-tree.ensures

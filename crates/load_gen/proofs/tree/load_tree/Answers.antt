use Rattle.std.proofs.Common.{◌≡◌, ℕ, List, Some, subst}
use Rattle.std.specs.Prelude.{◌↔◌, Contains}
use Rattle.file_tree.specs.ObjectValue.{ObjectValue}
use Rattle.tree_mem.specs.Items.{Item}
use Rattle.tree_mem.specs.MemTree.{mem_holds}
use Rattle.load_gen.proofs.tree.load_tree.Goals as goal

pub returns-in-Ok-clause-held : goal.returns-in-Ok-clause-held
returns-in-Ok-clause-held c =
    subst (λ (files : List Item). (p : List ℕ) (x : ObjectValue) → Contains files (p, x) ↔ (mem_holds c.in-Ok.tree p ≡ Some x)) c.in_ok-files.ensures c.in-Ok.ensures.held

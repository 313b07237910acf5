use Rattle.std.proofs.Common.{◌≡◌, ◌∙◌, ap}
use Rattle.file_tree.specs.Disk.{Story}
use Rattle.tree_mem.specs.Items.{held}
use Rattle.tree_mem.proofs.Held.{contains-distinct}
use Rattle.tree_mem.proofs.tree.MemTree.new.Goals as goal

pub returns-clause-held : goal.returns-clause-held
returns-clause-held c p x =
    let same : held c.new.result.objects.items ≡ held c.args.objects.items = ap (λ (s : Story). s.now.holds) c.new.ensures ∙ c.in_ok-objects.ensures.held in
    rw same (contains-distinct c.args.objects.items p x c.in_ok-objects.ensures.distinct)

pub returns-clause-untouched : goal.returns-clause-untouched
returns-clause-untouched c q = ap (λ (s : Story). s.now.touched q) c.new.ensures

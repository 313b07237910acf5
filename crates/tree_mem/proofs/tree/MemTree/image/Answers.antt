use Rattle.std.proofs.Common.{◌∙◌, ap}
use Rattle.file_tree.specs.Disk.{Story}
use Rattle.tree_mem.specs.Items.{held}
use Rattle.tree_mem.specs.Record.{is_among}
use Rattle.tree_mem.proofs.Wishes.{chosen-apart}
use Rattle.tree_mem.proofs.tree.MemTree.image.Goals as goal

pub returns-clause-image : goal.returns-clause-image
returns-clause-image c q out =
    let disk = c.args.self.now.disk in
    ap (λ (s : Story). s.now.holds q) c.in_ok-disk.ensures.story
    ∙ chosen-apart (is_among disk.touched.keys) c.args.choice.now (held disk.objects.items) q c.in_ok-disk.ensures.touched out

pub returns-clause-untouched : goal.returns-clause-untouched
returns-clause-untouched c q = ap (λ (s : Story). s.now.touched q) c.in_ok-disk.ensures.story

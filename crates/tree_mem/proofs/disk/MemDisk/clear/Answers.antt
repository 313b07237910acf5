use Rattle.std.proofs.Common.{◌≡◌, ◌∙◌, List, [], ◌∷◌, ◌++◌, None, ap}
use Rattle.file_tree.specs.Disk.{with_path}
use Rattle.tree_mem.specs.declared.record.Change.{Change}
use Rattle.tree_mem.specs.declared.record.Change.TheVariants.{Wrote}
use Rattle.tree_mem.specs.Items.{held}
use Rattle.tree_mem.specs.Record.{disk_of, story_of}
use Rattle.tree_mem.proofs.Story.{story_of-wrote}
use Rattle.tree_mem.proofs.disk.MemDisk.clear.Goals as goal

pub returns-clause-ok : goal.returns-clause-ok
returns-clause-ok c =
    let old = c.args.self.now in
    let told = c.in_ok-path.ensures in
    let changes : c.note.new.changes.items ≡ old.changes.items ++ Wrote c.args.path.now c.clear-old.result c.in_ok-path.was' ∷ [] = rw (told.same, told.path) at c.note.ensures in
    let holds : held c.clear-old.new.items.items ≡ with_path (held old.objects.items) c.args.path.now None = rw told.path at c.clear-old.ensures.held in
    let before : c.clear-old.result ≡ held old.objects.items c.args.path.now = rw told.path at c.clear-old.ensures.before in
    ap (λ (cs : List Change). story_of (disk_of c.clear-old.new.items.items c.begin_change.new.touched.keys) cs) changes
    ∙ story_of-wrote old.objects.items c.clear-old.new.items.items old.touched.keys c.begin_change.new.touched.keys old.changes.items c.args.path.now None
    c.clear-old.result c.in_ok-path.was' holds told.touched before told.was

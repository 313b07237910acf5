use Rattle.std.proofs.Common.{◌≡◌, ◌∙◌, List, [], ◌∷◌, ◌++◌, Some, ap}
use Rattle.file_tree.specs.Disk.{with_path}
use Rattle.tree_mem.specs.declared.record.Change.{Change}
use Rattle.tree_mem.specs.declared.record.Change.TheVariants.{Wrote}
use Rattle.tree_mem.specs.Items.{held}
use Rattle.tree_mem.specs.Record.{disk_of, story_of}
use Rattle.tree_mem.proofs.Story.{story_of-wrote}
use Rattle.tree_mem.proofs.disk.MemDisk.store.Goals as goal

pub returns-clause-ok : goal.returns-clause-ok
returns-clause-ok c =
    let old = c.args.self.now in
    let told = c.in_ok-path.ensures in
    let changes : c.note.new.changes.items ≡ old.changes.items ++ Wrote c.args.path.now c.store-old.result c.in_ok-path.was' ∷ [] = rw (told.same, told.path) at c.note.ensures in
    let holds : held c.store-old.new.items.items ≡ with_path (held old.objects.items) c.args.path.now (Some c.args.object)
    = rw (c.in_ok-reserve.ensures.items, c.in_ok-kept.ensures) at c.store-old.ensures.held in
    let before : c.store-old.result ≡ held old.objects.items c.args.path.now
    = rw (c.in_ok-reserve.ensures.items, c.in_ok-kept.ensures) at c.store-old.ensures.before in
    ap (λ (cs : List Change). story_of (disk_of c.store-old.new.items.items c.begin_change.new.touched.keys) cs) changes
    ∙ story_of-wrote old.objects.items c.store-old.new.items.items old.touched.keys c.begin_change.new.touched.keys old.changes.items c.args.path.now (Some c.args.object)
    c.store-old.result c.in_ok-path.was' holds told.touched before told.was

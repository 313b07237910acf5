use Rattle.std.proofs.Common.{◌≡◌, ◌∙◌, List, [], ◌∷◌, ◌++◌, ap}
use Rattle.tree_mem.specs.declared.record.Change.{Change}
use Rattle.tree_mem.specs.declared.record.Change.TheVariants.{Touched}
use Rattle.tree_mem.specs.Record.{disk_of, story_of}
use Rattle.tree_mem.proofs.Story.{story_of-touched}
use Rattle.tree_mem.proofs.disk.MemDisk.touch.Goals as goal

pub returns-clause-ok : goal.returns-clause-ok
returns-clause-ok c =
    let old = c.args.self.now in
    let told = c.in_ok-path.ensures in
    let changes : c.note.new.changes.items ≡ old.changes.items ++ Touched c.args.path.now c.in_ok-path.was' ∷ [] = rw (told.same, told.path) at c.note.ensures in
    ap (λ (cs : List Change). story_of (disk_of old.objects.items c.begin_change.new.touched.keys) cs) changes
    ∙ story_of-touched old.objects.items old.touched.keys c.begin_change.new.touched.keys old.changes.items c.args.path.now c.in_ok-path.was' told.touched told.was

use Rattle.profile_folders.proofs.Once.{only_walk}
use Rattle.profile_folders.proofs.folders.find_folders.Goals as goal

pub returns-clause-only : goal.returns-clause-only
returns-clause-only g c t folders are = only_walk (g.T.Tree.story c.args.tree.now).now.holds c.args.path.now c.read_all-end.result c.read_all-end.new.course.folders.items folders (c.read_all-end.ensures.found t) (c.read_all-end.ensures.fault t) are

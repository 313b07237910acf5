use Rattle.std.proofs.Common.{◌∙◌}
use Rattle.file_tree.proofs.PathSets.{free_key, taken_key}
use Rattle.file_tree.proofs.taken.TakenPaths.take.Goals as goal

pub returns-clause-free : goal.returns-clause-free
returns-clause-free c = free_key c.in_ok-text.text c.args.path.now c.self.inside.texts.keys c.args.self.now _ (c.in_ok-text.ensures ∙ c.text.ensures.text) c.self.view_is c.in_ok-insert.ensures.added

pub returns-clause-taken : goal.returns-clause-taken
returns-clause-taken c = taken_key c.in_ok-text.text c.args.path.now c.self.inside.texts.keys c.args.self.now _ (c.in_ok-text.ensures ∙ c.text.ensures.text) c.self.view_is (λ q. c.in_ok-insert.ensures.updates.0 q)

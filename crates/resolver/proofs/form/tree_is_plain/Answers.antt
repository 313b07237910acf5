use Rattle.resolver.proofs.Plain.{tree_plain}
use Rattle.resolver.proofs.form.tree_is_plain.Goals as goal

pub returns : goal.returns
returns c = tree_plain c.args._tree.now

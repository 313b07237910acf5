-- The choices of the tree, over a universe in form.
use Rattle.choice_law.specs.Laws.{IsUniverse}
use Rattle.choice_law.specs.Tree.{Choice, IsNode}
use Rattle.choice_law.specs.Universe.{Universe}
use Rattle.choice_tree.specs.Open.{first_open}

abbrev pub IsOfTree : Universe → Choice → Type 0
IsOfTree u c = IsUniverse u × IsNode u (first_open u) c

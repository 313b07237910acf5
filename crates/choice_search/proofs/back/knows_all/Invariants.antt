use Rattle.std.proofs.Common.{◌≡◌, drop}
use Rattle.std.specs.List.{list_all}
use Rattle.choice_search.proofs.back.knows_all.Given as goal

abbrev pub invariant-loop-line : goal.invariant-loop-line
invariant-loop-line g l =
    let known = (g.T.Tree.shape l.tree).knows (g.T.Tree.path l.tree).here in
    list_all known (drop l.line-index l.lines) ≡ list_all known l.lines

use Rattle.std.proofs.Common.{◌≡◌, drop}
use Rattle.choice_search.specs.Visit.{joined}
use Rattle.choice_search.proofs.back.join.Given as goal

abbrev pub invariant-loop-line : goal.invariant-loop-line
invariant-loop-line g l =
    let known = (g.T.Tree.shape l.tree).knows (g.T.Tree.path l.tree).here in
    joined known l.cause.items (drop l.line-index l.lines) ≡ joined known l.fn.cause.items l.lines

use Rattle.std.proofs.Common.{◌∙◌, List, ap}
use Rattle.pkg_state.specs.Package.{Package}
use Rattle.pkg_state.specs.State.{on_line}
use Rattle.pkg_state.proofs.States.{lookup_line}
use Rattle.pkg_state.proofs.state.State.get.Goals as goal

pub returns : goal.returns
returns c =
    c.get.ensures.value ∙ (lookup_line c.self.inside.packages.entries c.args.line.now c.self.invariant.own
    ∙ ap (λ (ps : List Package). on_line ps c.args.line.now) c.self.view_is)

use Rattle.std.proofs.Common.{subst}
use Rattle.file_tree.specs.Moments.{Leaves, Since}
use Rattle.merge_core.specs.CoreValue.{machine_of}
use Rattle.merge_core.specs.Roll.{RecoversCommitted, idle}
use Rattle.merge_core.proofs.Images.{image_stands}
use Rattle.merge_site.specs.Site.{StoodDuring}
use Rattle.merge_site.proofs.Stood.{held_moments}
use Rattle.merge_site.proofs.site.Site.promise.Goals as goal

pub returns-clause-stands : goal.returns-clause-stands
returns-clause-stands g c t =
    let order = (c.self.invariant.0.held t).order in
    subst (λ a. Leaves (RecoversCommitted (g.T.Tree.story a.opened).now.holds (machine_of a.keeping).roll) (g.T.Tree.story a.tree).now) c.self.view_is
    (image_stands (g.T.Tree.story c.self.inside.opened.value).now.holds (machine_of c.self.inside.core).roll (g.T.Tree.story c.self.inside.tree).now order.firm order.listed)

pub returns-clause-moments : goal.returns-clause-moments
returns-clause-moments g c t =
    subst (λ a. Since (StoodDuring (g.T.Tree.story a.opened).now.holds idle a.events) (g.T.Tree.story a.opened) (g.T.Tree.story a.tree)) c.self.view_is
    (held_moments c.self.inside.core c.self.inside.log.items (g.T.Tree.story c.self.inside.opened.value) (g.T.Tree.story c.self.inside.tree) c.self.invariant.0.leads (c.self.invariant.0.held t))

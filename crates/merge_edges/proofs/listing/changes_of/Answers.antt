use Rattle.std.proofs.Common.{◌∙◌, ap}
use Rattle.choice_tree.specs.Seen.{places_of}
use Rattle.choice_tree.specs.Views.{universe_of}
use Rattle.merge_edges.specs.Found.{all_changes}
use Rattle.merge_edges.proofs.Numbered.{changes_are}
use Rattle.merge_edges.proofs.listing.changes_of.Goals as goal

pub returns : goal.returns
returns c =
    c.in_ok-changes.ensures
    ∙ (ap (λ ps. all_changes (places_of ps)) c.deref.ensures.value
    ∙ (ap all_changes c.in_ok-places.ensures ∙ changes_are (universe_of c.args.universe.now) c.args.choice.now))

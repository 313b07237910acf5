use Rattle.std.proofs.Common.{◌∙◌, ap, sym}
use Rattle.choice_law.specs.Universe.{no_offer}
use Rattle.choice_tree.specs.Views.{offer_of}
use Rattle.choice_tree.proofs.Numbers.{get_mapped}
use Rattle.choice_ends.proofs.standing.offer_at.Goals as goal

pub returns : goal.returns
returns c = ap offer_of c.index.ensures ∙ sym (get_mapped offer_of c.args.universe.now.offers.items c.args.line _ no_offer c.requires)

use Rattle.std.proofs.Common.{List, subst}
use Rattle.basics.specs.Members.{Has}
use Rattle.choice_law.specs.Tree.{Choice}
use Rattle.choice_search.proofs.Parts.{has_of_first}
use Rattle.choice_ends.specs.Ends.{most_told}
use Rattle.choice_ends.proofs.telling.dead_ends.Goals as goal

pub each_end-requires : goal.each_end-requires
each_end-requires c d h =
    c.requires d (has_of_first most_told c.args.choices.now d (subst (λ (cs : List Choice). Has cs d) c.first_told.ensures h))

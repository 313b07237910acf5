use Rattle.std.proofs.Common.{◌∙◌, ap, map}
use Rattle.dep_group.specs.Views.{spot}
use Rattle.dep_group.specs.Words.{words}
use Rattle.vdb_values.proofs.Sets.{found_plain, only_plain}
use Rattle.vdb_values.proofs.flags.read_flags.Goals as goal

pub returns-clause-found : goal.returns-clause-found
returns-clause-found c =
    found_plain (map spot c.deref.result.now) (words 0 c.args.text.now) c.read_each.result (ap (map spot) c.deref.ensures.value ∙ c.in_ok-words.ensures) c.read_each.ensures.found

pub returns-clause-only : goal.returns-clause-only
returns-clause-only c set is =
    only_plain (map spot c.deref.result.now) (words 0 c.args.text.now) set c.read_each.result (ap (map spot) c.deref.ensures.value ∙ c.in_ok-words.ensures) c.read_each.ensures.fault is

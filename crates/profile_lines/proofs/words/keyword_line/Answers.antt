use Rattle.dep_group.specs.Views.{spot}
use Rattle.dep_group.specs.Words.{texts}
use Rattle.std.proofs.Common.{map, refl}
use Rattle.profile_lines.proofs.WordLemmas.{names_again, names_here}
use Rattle.profile_lines.proofs.words.keyword_line.Goals as goal

pub returns-clause-found : goal.returns-clause-found
returns-clause-found c = record {
  rest = texts (map spot c.in-Some.rest.now);
  names = names_again _ _ c.in_ok-entry.entry _ (names_here c.args.words.now c.in-Some.first.now c.in-Some.rest.now c.in-Some.ensures.cases.0 c.in_ok-entry.entry c.in_ok-entry.ensures.found) refl refl refl;
  changes = c.in_ok-entry.ensures.changes;
  keywords = c.in_ok-entry-2.ensures;
}

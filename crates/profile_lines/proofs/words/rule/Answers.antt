use Rattle.std.proofs.Common.{inl, inr, map, refl}
use Rattle.std.proofs.lemmas.Result.{err_from_is_err_and}
use Rattle.dep_group.specs.Views.{spot}
use Rattle.dep_group.specs.Words.{texts}
use Rattle.profile_lines.proofs.WordLemmas.{bad_rule, names_again, names_here}
use Rattle.profile_lines.proofs.words.rule.Goals as goal

pub returns-in_err-entry-2-clause-fault : goal.returns-in_err-entry-2-clause-fault
returns-in_err-entry-2-clause-fault c =
    let q = err_from_is_err_and c.from_residual-in_err-entry-2.result c.from_residual-in_err-entry-2.ensures.1 in
    rw (q.1, q.2) (elim c.in_err-entry-2.ensures.fault [
      | inl memory ↦ inl memory
      | inr bad ↦ inr (bad_rule c.args.words.now c.in-Some.first.now c.in-Some.rest.now c.in-Some.ensures.cases.0 c.in_ok-entry.entry c.in_err-entry-2.field-0.0 c.in_ok-entry.ensures.found bad.0 bad.1)
    ])

pub returns-clause-found : goal.returns-clause-found
returns-clause-found c = record {
  rest = texts (map spot c.in-Some.rest.now);
  names = names_again _ _ c.in_ok-entry.entry _ (names_here c.args.words.now c.in-Some.first.now c.in-Some.rest.now c.in-Some.ensures.cases.0 c.in_ok-entry.entry c.in_ok-entry.ensures.found) refl refl refl;
  changes = c.in_ok-entry-2.ensures.found;
  keywords = c.in_ok-entry.ensures.keywords;
}

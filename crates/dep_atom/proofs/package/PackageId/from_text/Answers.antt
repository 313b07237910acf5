use Rattle.std.proofs.Common.{◌∙◌, ◌++◌, ◌∷◌, List, None, Some, ap, lit<, sym, ℕ}
use Rattle.std.proofs.lemmas.Str.Pattern.{split_parts}
use Rattle.dep_atom.proofs.Slashes.{at_slash}
use Rattle.dep_atom.proofs.package.PackageId.from_text.Goals as goal

pub returns-in_default : goal.returns-in_default
returns-in_default c = λ id is e. at_slash c.args.text.now id is e None c.in_default.ensures.cases

pub returns-in-Ok : goal.returns-in-Ok
returns-in-Ok c =
    let parts = split_parts 47 c.args.text.now (Some (c.in-Some.category, c.in-Some.pf)) c.in-Some.ensures.cases (lit< tt) in
    let found = c.in-Ok.ensures.found in
    record {
      is = found.0;
      named = parts.0 ∙ (ap (λ (t : List ℕ). t ++ (47 ∷ c.in-Some.pf.now)) found.1 ∙ ap (λ (t : List ℕ). c.in-Ok.id.name.category ++ (47 ∷ t)) found.2);
      only = λ other is e.
          let at = at_slash c.args.text.now other is e (Some (c.in-Some.category, c.in-Some.pf)) c.in-Some.ensures.cases in
          sym (c.in-Ok.ensures.only other is at.0 at.1);
    }

pub returns-in_default-fault : goal.returns-in_default-fault
returns-in_default-fault c = λ id is e.
    let at = at_slash c.args.text.now id is e (Some (c.in-Some.category, c.in-Some.pf)) c.in-Some.ensures.cases in
    c.in_default-fault.not-Memory (c.in-Err.ensures.only id is at.0 at.1)

use Rattle.std.proofs.Common.{◌∙◌, ℕ, List, Some, ap, sym, subst}
use Rattle.std.specs.Map.{values_of}
use Rattle.pkg_state.specs.Package.{Package, line_of}
use Rattle.pkg_state.specs.State.{ChangesLine, on_line}
use Rattle.pkg_state.proofs.States.{AreOwn, Entries, changes_line, lookup_line, own_inserted}
use Rattle.pkg_state.proofs.state.State.insert.Goals as goal

pub invariant_of-self-2 : goal.invariant_of-self-2
invariant_of-self-2 c = record {
  rising = c.in_ok-insert.ensures.ordered;
  own = subst (λ (es : Entries). AreOwn es) (sym c.in_ok-insert.ensures.entries)
      (own_inserted c.self.inside.packages.entries c.in_ok-line.line c.args.new c.in_ok-line.ensures c.self.invariant.own);
}

pub returns-clause-ok : goal.returns-clause-ok
returns-clause-ok c =
    let old = c.self.inside.packages.entries in
    let new = c.insert.new.self.entries in
    let own : AreOwn new = subst (λ (es : Entries). AreOwn es) (sym c.in_ok-insert.ensures.entries)
    (own_inserted old c.in_ok-line.line c.args.new c.in_ok-line.ensures c.self.invariant.own) in
    subst (λ (ps : List Package). ChangesLine ps (values_of new) (line_of c.args.new.facts) (Some c.args.new)) c.self.view_is
    (subst (λ (l : List ℕ). ChangesLine (values_of old) (values_of new) l (Some c.args.new)) c.in_ok-line.ensures
    (changes_line old new c.in_ok-line.line (Some c.args.new) c.self.invariant.own own c.in_ok-insert.ensures.updates.0))

pub returns-clause-replaced : goal.returns-clause-replaced
returns-clause-replaced c =
    c.in_ok-insert.ensures.old ∙ (lookup_line c.self.inside.packages.entries c.in_ok-line.line c.self.invariant.own
    ∙ (ap (λ (ps : List Package). on_line ps c.in_ok-line.line) c.self.view_is ∙ ap (λ (l : List ℕ). on_line c.args.self.now l) c.in_ok-line.ensures))

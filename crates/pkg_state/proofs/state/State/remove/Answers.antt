use Rattle.std.proofs.Common.{◌∙◌, List, None, ap, sym, subst}
use Rattle.std.specs.BTreeMap.{is_at}
use Rattle.std.specs.Map.{values_of}
use Rattle.pkg_state.specs.Package.{Package}
use Rattle.pkg_state.specs.State.{ChangesLine, on_line}
use Rattle.pkg_state.proofs.States.{AreOwn, Entries, changes_line, cmp, lookup_line, own_removed}
use Rattle.pkg_state.proofs.state.State.remove.Goals as goal

pub invariant_of-self : goal.invariant_of-self
invariant_of-self c = record {
  rising = c.remove.ensures.ordered;
  own = subst (λ (es : Entries). AreOwn es) (sym c.remove.ensures.entries)
      (own_removed c.self.inside.packages.entries (is_at (cmp c.args.line.now)) c.self.invariant.own);
}

pub returns-clause-after : goal.returns-clause-after
returns-clause-after c =
    let old = c.self.inside.packages.entries in
    let new = c.remove.new.self.entries in
    let own : AreOwn new = subst (λ (es : Entries). AreOwn es) (sym c.remove.ensures.entries)
    (own_removed old (is_at (cmp c.args.line.now)) c.self.invariant.own) in
    subst (λ (ps : List Package). ChangesLine ps (values_of new) c.args.line.now None) c.self.view_is
    (changes_line old new c.args.line.now None c.self.invariant.own own c.remove.ensures.updates.0)

pub returns-clause-removed : goal.returns-clause-removed
returns-clause-removed c =
    c.remove.ensures.value ∙ (lookup_line c.self.inside.packages.entries c.args.line.now c.self.invariant.own
    ∙ ap (λ (ps : List Package). on_line ps c.args.line.now) c.self.view_is)

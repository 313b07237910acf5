use Rattle.std.proofs.Common.{◌≡◌, ◌∙◌, true, arith, sym, ap, map}
use Rattle.dep_atom.specs.Match.{value_matches}
use Rattle.dep_atom.specs.Values.{atom_value}
use Rattle.pkg_state.specs.Package.{Package}
use Rattle.pkg_state.proofs.Lists.{any_at, none_at_all}
use Rattle.pkg_state.proofs.Named.{match_under}
use Rattle.plan_lives.proofs.packages.PackagesPresent.some_match.Goals as goal

pub returns-then-matches : goal.returns-then-matches
returns-then-matches c =
    let a = atom_value c.args.atom.now in
    let asker = c.args.asker.now in
    let items = c.get-pkg-items.result.now in
    let on : value_matches a c.pkg-item.result.now.facts asker ≡ true = ap (λ (p : Package). value_matches a p.facts asker) (sym c.pkg.view_is) ∙ (sym c.matches.ensures ∙ c.if-matches.true) in
    sym (any_at (λ p. value_matches a p.now.facts asker) items c.loop-pkg.pkg-index c.pkg-item.result (omega arith) c.pkg-item.is c.loop-pkg.invariant on)
    ∙ match_under (map (λ p. p.now) c.args.self.now.all.items) c.args.self.now.named.lists a asker c.text.result.now items c.args.self.now.are_named c.text.ensures.text c.get-pkg-items.ensures

pub returns : goal.returns
returns c =
    let a = atom_value c.args.atom.now in
    let asker = c.args.asker.now in
    let items = c.get-pkg-items.result.now in
    sym (none_at_all (λ p. value_matches a p.now.facts asker) items c.loop-pkg.pkg-index (omega arith) c.loop-pkg.invariant)
    ∙ match_under (map (λ p. p.now) c.args.self.now.all.items) c.args.self.now.named.lists a asker c.text.result.now items c.args.self.now.are_named c.text.ensures.text c.get-pkg-items.ensures

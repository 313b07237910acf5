use Rattle.std.proofs.Common.{◌≡◌, ◌++◌, ◌∷◌, ◌∙◌, ◌+◌, [], List, ap, subst, sym, take}
use Rattle.std.proofs.lemmas.List.{take_more}
use Rattle.pkg_state.specs.Package.{Package}
use Rattle.choice_universe.specs.Filled.{IsFilled}
use Rattle.choice_universe.proofs.Filled.{none_before}
use Rattle.choice_universe.proofs.filling.add_installed.Goals as goal

pub loop-one-preserved : goal.loop-one-preserved
loop-one-preserved c = λ empty.
    let ps = c.args.installed.now in
    let i = c.loop-one.one-index in
    let one = c.one-item.result in
    let lt = c.loop-one-test.true in
    let more : take (i + 1) ps ≡ take i ps ++ one ∷ [] = take_more ps i one lt ∙ ap (λ (p : Package). take i ps ++ p ∷ []) (sym c.one-item.is) in
    subst (λ (l : List Package). IsFilled l [] c.add_one_installed.new.offers.entries) (sym more)
    (c.in_ok-add_one_installed.ensures (take i ps) (c.loop-one.invariant empty) (none_before ps i one c.requires lt c.one-item.is))

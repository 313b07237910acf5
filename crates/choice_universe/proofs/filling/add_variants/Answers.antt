use Rattle.std.proofs.Common.{◌≡◌, ◌∙◌, ◌∷◌, ◌++◌, [], List, append_assoc, length, subst, sym}
use Rattle.std.proofs.lemmas.Iterator.Adapters.{YieldsList-from_vec}
use Rattle.std.proofs.lemmas.Iterator.Consumers.{YieldsList-end}
use Rattle.pkg_state.specs.Package.{Package}
use Rattle.choice_universe.specs.Filled.{IsFilled}
use Rattle.choice_universe.proofs.Filled.{same_map}
use Rattle.choice_universe.proofs.filling.add_variants.Goals as goal

pub loop-variant-preserved : goal.loop-variant-preserved
loop-variant-preserved c = λ installed before filled.
    subst (λ (l : List Package). IsFilled installed l c.add_variant.new.offers.entries) (append_assoc before c.loop-variant.yielded (c.in-Some.variant ∷ []))
    (c.in_ok-add_variant.ensures installed (before ++ c.loop-variant.yielded) (c.loop-variant.invariant installed before filled))

pub returns : goal.returns
returns c = λ installed before filled.
    let all = c.args.variants.items in
    let long : c.into_iter-variant-iterator.result.rest.len ≡ length all = cc in
    let known = YieldsList-from_vec all c.into_iter-variant-iterator.ensures.into_iter_gives.0 long in
    let y = YieldsList-end known c.loop-variant.yielded _ c.loop-variant.yielded_by c.next.result c.next.new.self c.in-None.is c.next.ensures.steps in
    subst (λ (l : List Package). IsFilled installed (before ++ l) c.loop-variant.offers.entries) (sym (same_map c.loop-variant.yielded) ∙ y.0)
    (c.loop-variant.invariant installed before filled)

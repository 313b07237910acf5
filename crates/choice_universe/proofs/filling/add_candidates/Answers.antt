use Rattle.std.proofs.Common.{◌≡◌, ◌∙◌, [], List, length, subst, sym}
use Rattle.std.proofs.lemmas.Iterator.Adapters.{YieldsList-from_vec}
use Rattle.std.proofs.lemmas.Iterator.Consumers.{YieldsList-end}
use Rattle.std.proofs.lemmas.List.{flat_map_more}
use Rattle.pkg_state.specs.Package.{Package}
use Rattle.choice_universe.specs.Filled.{IsFilled}
use Rattle.choice_universe.specs.Offers.{variants_of}
use Rattle.choice_universe.specs.declared.candidate.Candidate.{Candidate}
use Rattle.choice_universe.proofs.Filled.{same_map}
use Rattle.choice_universe.proofs.filling.add_candidates.Goals as goal

pub loop-candidate-preserved : goal.loop-candidate-preserved
loop-candidate-preserved c = λ installed filled.
    subst (λ (l : List Package). IsFilled installed l c.add_variants.new.offers.entries) (flat_map_more (λ (x : Candidate). x.variants.items) [] c.loop-candidate.yielded c.in-Some.candidate)
    (c.in_ok-add_variants.ensures installed (variants_of c.loop-candidate.yielded) (c.loop-candidate.invariant installed filled))

pub returns : goal.returns
returns c = λ installed filled.
    let all = c.args.candidates.items in
    let long : c.into_iter-candidate-iterator.result.rest.len ≡ length all = cc in
    let known = YieldsList-from_vec all c.into_iter-candidate-iterator.ensures.into_iter_gives.0 long in
    let y = YieldsList-end known c.loop-candidate.yielded _ c.loop-candidate.yielded_by c.next.result c.next.new.self c.in-None.is c.next.ensures.steps in
    subst (λ (l : List Candidate). IsFilled installed (variants_of l) c.loop-candidate.offers.entries) (sym (same_map c.loop-candidate.yielded) ∙ y.0)
    (c.loop-candidate.invariant installed filled)

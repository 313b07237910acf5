use Rattle.std.proofs.Common.{[], List, subst, sym, ◌∙◌}
use Rattle.basics.specs.Members.{Has}
use Rattle.choice_law.specs.Tree.{Choice}
use Rattle.choice_tree.specs.Views.{universe_of}
use Rattle.choice_search.specs.Visit.{IsOutcome, visit}
use Rattle.choice_search.specs.declared.outcome.Outcome.{Outcome}
use Rattle.resolver.specs.Tree.{tree_shape}
use Rattle.resolver.proofs.Hopeless.{same_first}
use Rattle.resolver.proofs.Leaves.{chosen_solves, none_solves}
use Rattle.resolver.proofs.Counted.{too_many}
use Rattle.resolver.proofs.resolving.resolve.Goals as goal

pub returns-in-Found-clause-chosen : goal.returns-in-Found-clause-chosen
returns-in-Found-clause-chosen c =
    let update = c.args.universe.now.update in
    let u = universe_of c.args.universe.now in
    let r = subst (λ (o : Outcome Choice). IsOutcome (visit (tree_shape update u) []) c.args.backtrack o) c.in-Found.is c.in_ok-choice.ensures.outcome in
    let whole = same_first update u c.universe_is_plain.ensures c.good_leaves_are_solutions.ensures c.first_open_is_a_pick.ensures c.hopeless_choices_fail.ensures in
    let first = sym whole ∙ (sym c.in_ok-choice.ensures.lossless.same_end ∙ r.0) in
    record {
      first = first;
      early = r.1;
      solution = chosen_solves update u c.in-Found.choice c.good_leaves_are_solutions.ensures c.first_open_is_a_pick.ensures first;
    }

pub returns-in-NoneGood-clause-cause : goal.returns-in-NoneGood-clause-cause
returns-in-NoneGood-clause-cause c =
    let update = c.args.universe.now.update in
    let u = universe_of c.args.universe.now in
    let r = subst (λ (o : Outcome Choice). IsOutcome (visit (tree_shape update u) []) c.args.backtrack o) c.in-NoneGood.is c.in_ok-choice.ensures.outcome in
    let whole = same_first update u c.universe_is_plain.ensures c.good_leaves_are_solutions.ensures c.first_open_is_a_pick.ensures c.hopeless_choices_fail.ensures in
    let none = sym whole ∙ (sym c.in_ok-choice.ensures.lossless.same_end ∙ r.0) in
    record {
      no_leaf = none;
      these = r.1;
      few = r.2;
      hopeless = λ d h. c.in_ok-choice.ensures.lossless.dead d (subst (λ (cs : List Choice). Has cs d) r.1 h);
      no_solution = none_solves update u c.solutions_have_leaves.ensures c.first_open_is_a_pick.ensures c.universe_is_plain.ensures none;
    }

pub returns-in-Limit-clause-cause : goal.returns-in-Limit-clause-cause
returns-in-Limit-clause-cause c =
    let update = c.args.universe.now.update in
    let u = universe_of c.args.universe.now in
    let r = subst (λ (o : Outcome Choice). IsOutcome (visit (tree_shape update u) []) c.args.backtrack o) c.in-Limit.is c.in_ok-choice.ensures.outcome in
    too_many update u c.args.backtrack c.in-Limit.refuted.items c.in_ok-choice.ensures.lossless r.0 r.1

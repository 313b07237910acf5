use Rattle.std.proofs.Common.{◌≡◌, ◌∙◌, ◌++◌, List, None, ap, subst}
use Rattle.std.specs.Option.{option_map}
use Rattle.basics.specs.Members.{Has}
use Rattle.dep_atom.specs.Values.{atom_value}
use Rattle.plan_law.specs.Lives as law
use Rattle.plan_lives.specs.Binding.{IsGreatest}
use Rattle.plan_lives.specs.Gathered.{matching}
use Rattle.plan_lives.specs.Index.{all_lives, plan_of, start_of}
use Rattle.plan_lives.specs.Lives.{lives_of}
use Rattle.plan_lives.specs.declared.life.Life.{Life}
use Rattle.plan_lives.proofs.Greatest.{right_slot}
use Rattle.plan_lives.proofs.Serving.{has_matching}
use Rattle.plan_lives.proofs.Within.{lives_within}
use Rattle.plan_lives.proofs.binding.is_right.Goals as goal

pub greatest-found-requires-clause-within : goal.greatest-found-requires-clause-within
greatest-found-requires-clause-within c z h =
    let index = c.args.index.now in
    let a = atom_value c.args.atom.now in
    let all = all_lives index in
    let fits = matching a c.args.asker.now all in
    let is : lives_of c.deref.result.now ≡ fits = ap lives_of c.deref.ensures.value ∙ (c.in_ok-add_matching.ensures ∙ ap (λ (xs : List Life). lives_of xs ++ fits) c.new-fits.ensures.items) in
    lives_within (plan_of index) (start_of index) z ((has_matching a c.args.asker.now all z).0 (subst (λ (xs : List law.Life). Has xs z) is h)).0

pub returns : goal.returns
returns c =
    let index = c.args.index.now in
    let plan = plan_of index in
    let a = atom_value c.args.atom.now in
    let fits = matching a c.args.asker.now (all_lives index) in
    let is : lives_of c.deref.result.now ≡ fits = ap lives_of c.deref.ensures.value ∙ (c.in_ok-add_matching.ensures ∙ ap (λ (xs : List Life). lives_of xs ++ fits) c.new-fits.ensures.items) in
    let found = option_map (λ p. p.now) c.greatest-found.result in
    let great = subst (λ (xs : List law.Life). IsGreatest plan c.args.g None xs found) is c.greatest-found.ensures in (
      (λ t. (found, great, c.is_slot_of.ensures.0 t)),
      (λ right. c.is_slot_of.ensures.1 (right_slot plan c.args.g (start_of index) c.args.asker.now a c.args.bind.now found great right)),
    )

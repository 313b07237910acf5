use Rattle.std.proofs.Common.{◌≡◌, ◌∙◌, ◌↔◌, ap, subst, List, map, IfOk, IsTrue}
use Rattle.dep_atom.specs.Values.{atom_value}
use Rattle.basics.specs.Members.{Has}
use Rattle.plan_law.specs.Lives as law
use Rattle.plan_lives.specs.Chains.{AreJoined}
use Rattle.plan_lives.specs.Gathered.{gathered}
use Rattle.plan_lives.specs.Index.{all_lives, plan_of, start_of}
use Rattle.plan_lives.specs.Lives.{lives_of}
use Rattle.plan_lives.specs.Stretches.{stretch_value}
use Rattle.plan_lives.proofs.Serving.{gathered_in, joined_chained, ok_iff}
use Rattle.plan_lives.proofs.Within.{lives_within}
use Rattle.plan_lives.proofs.chains.is_chained.Goals as goal

pub are_joined-requires-clause-within : goal.are_joined-requires-clause-within
are_joined-requires-clause-within c z h =
    let index = c.args.index.now in
    let atoms = map (λ atom. atom_value atom.now) c.args.atoms.now in
    let is : lives_of c.deref.result.now ≡ gathered atoms c.args.asker.now (all_lives index) = ap lives_of c.deref.ensures.value ∙ c.in_ok-fits.ensures in
    lives_within (plan_of index) (start_of index) z (gathered_in atoms c.args.asker.now (all_lives index) z (subst (λ (xs : List law.Life). Has xs z) is h)).0

pub returns : goal.returns
returns c =
    let index = c.args.index.now in
    let atoms = map (λ atom. atom_value atom.now) c.args.atoms.now in
    let s = stretch_value c.args.stretch.now in
    let is : lives_of c.deref.result.now ≡ gathered atoms c.args.asker.now (all_lives index) = ap lives_of c.deref.ensures.value ∙ c.in_ok-fits.ensures in
    ok_iff c.are_joined.result (joined_chained (plan_of index) (start_of index) atoms c.args.asker.now s)
    (subst (λ (xs : List law.Life). IfOk c.are_joined.result (λ b. IsTrue b ↔ AreJoined (plan_of index) xs s)) is c.are_joined.ensures)

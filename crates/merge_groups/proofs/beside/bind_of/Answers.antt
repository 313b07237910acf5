use Rattle.std.proofs.Common.{◌≡◌, ◌∙◌, List, ap, subst}
use Rattle.basics.specs.Members.{Has}
use Rattle.dep_atom.specs.Values.{atom_value}
use Rattle.plan_law.specs.Lives as law
use Rattle.plan_lives.specs.Gathered.{matching}
use Rattle.plan_lives.specs.Index.{all_lives, plan_of, start_of}
use Rattle.plan_lives.specs.Lives.{lives_of}
use Rattle.plan_lives.proofs.Serving.{has_matching}
use Rattle.plan_lives.proofs.Within.{lives_within}
use Rattle.merge_groups.proofs.beside.bind_of.Goals as goal

pub greatest-found-requires-clause-within : goal.greatest-found-requires-clause-within
greatest-found-requires-clause-within c z h =
    let index = c.args.index.now in
    let a = atom_value c.args.atom.now in
    let all = all_lives index in
    let fits = matching a c.args.asker.now all in
    let is : lives_of c.deref.result.now ≡ fits = ap lives_of c.deref.ensures.value ∙ c.in_ok-fits.ensures in
    lives_within (plan_of index) (start_of index) z ((has_matching a c.args.asker.now all z).0 (subst (λ (xs : List law.Life). Has xs z) is h)).0

use Rattle.std.proofs.Common.{ℕ, List, Option, None, subst, sym}
use Rattle.std.specs.Prelude.{is_ok}
use Rattle.merge_core.specs.Event.{Answers, RemovePath, removing}
use Rattle.merge_site.proofs.Device.{asks_answers, performed}
use Rattle.merge_site.proofs.calls.remove_path.Goals as goal

pub returns-clause-performs : goal.returns-clause-performs
returns-clause-performs g c t m next_is =
    let old = g.T.Tree.story c.args.tree.now in
    let new = g.T.Tree.story c.remove.new.self in
    performed m (RemovePath c.args.group) (is_ok c.remove.result) old new
    (subst (λ (o : Option (List ℕ)). Answers (removing o) (is_ok c.remove.result) old new) (sym next_is)
    (asks_answers c.remove.result c.args.path.now None old new (c.remove.ensures.ok t) (c.remove.ensures.moved t)))

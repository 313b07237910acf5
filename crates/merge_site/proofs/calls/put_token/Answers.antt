use Rattle.std.proofs.Common.{◌≡◌, ℕ, List, Some, subst}
use Rattle.std.specs.Prelude.{OnOk, is_ok}
use Rattle.file_tree.specs.Disk.{Moves, next, write}
use Rattle.file_tree.specs.ObjectValue.{ObjectValue}
use Rattle.merge_journal.specs.Group.{token}
use Rattle.merge_journal.specs.Names.{token_path}
use Rattle.merge_core.specs.Event.{PutToken}
use Rattle.merge_site.proofs.Device.{asks_answers, performed}
use Rattle.merge_site.proofs.calls.put_token.Goals as goal

pub returns-clause-performs : goal.returns-clause-performs
returns-clause-performs g c t m =
    let old = g.T.Tree.story c.args.tree.now in
    let new = g.T.Tree.story c.put.new.self in
    performed m (PutToken c.args.group) (is_ok c.put.result) old new
    (asks_answers c.put.result (token_path c.args.group) (Some token) old new
    (subst (λ (o : ObjectValue). OnOk c.put.result (new ≡ next old (write old.now (token_path c.args.group) (Some o)))) c.requires.mark
    (subst (λ (q : List ℕ). OnOk c.put.result (new ≡ next old (write old.now q (Some c.args.mark.now)))) c.requires.place (c.put.ensures.ok t)))
    (subst (λ (q : List ℕ). Moves old q new) c.requires.place (c.put.ensures.moved t)))

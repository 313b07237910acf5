use Rattle.std.proofs.Common.{◌≡◌, ℕ, List, Some, subst}
use Rattle.std.specs.Prelude.{OnOk, is_ok}
use Rattle.file_tree.specs.Disk.{Moves, next, write}
use Rattle.file_tree.specs.ObjectValue.{ObjectValue, plain}
use Rattle.merge_journal.specs.Names.{record_path}
use Rattle.merge_record.specs.Spelling.{spelling}
use Rattle.merge_core.specs.Event.{PutRecord, put_content}
use Rattle.merge_site.proofs.Device.{asks_answers, performed}
use Rattle.merge_site.proofs.calls.put_record.Goals as goal

pub returns-clause-performs : goal.returns-clause-performs
returns-clause-performs g c t m removals spelled =
    let old = g.T.Tree.story c.args.tree.now in
    let new = g.T.Tree.story c.put.new.self in
    performed m (PutRecord c.args.group removals) (is_ok c.put.result) old new
    (asks_answers c.put.result (record_path c.args.group) (Some (plain (spelling (put_content m c.args.group removals)))) old new
    (subst (λ (o : ObjectValue). OnOk c.put.result (new ≡ next old (write old.now (record_path c.args.group) (Some o)))) spelled
    (subst (λ (q : List ℕ). OnOk c.put.result (new ≡ next old (write old.now q (Some c.args.body.now)))) c.requires.place (c.put.ensures.ok t)))
    (subst (λ (q : List ℕ). Moves old q new) c.requires.place (c.put.ensures.moved t)))

use Rattle.std.proofs.Common.{◌≡◌, ℕ, List, None, subst}
use Rattle.std.specs.Prelude.{OnOk, is_ok}
use Rattle.file_tree.specs.Disk.{Moves, next, write}
use Rattle.merge_journal.specs.Names.{gate_path}
use Rattle.merge_core.specs.Event.{CloseGate}
use Rattle.merge_site.proofs.Device.{asks_answers, performed}
use Rattle.merge_site.proofs.calls.close_gate.Goals as goal

pub returns-clause-performs : goal.returns-clause-performs
returns-clause-performs g c t m =
    let old = g.T.Tree.story c.args.tree.now in
    let new = g.T.Tree.story c.remove.new.self in
    performed m (CloseGate c.args.group) (is_ok c.remove.result) old new
    (asks_answers c.remove.result (gate_path c.args.group) None old new
    (subst (λ (p : List ℕ). OnOk c.remove.result (new ≡ next old (write old.now p None))) c.requires.gate (c.remove.ensures.ok t))
    (subst (λ (p : List ℕ). Moves old p new) c.requires.gate (c.remove.ensures.moved t)))

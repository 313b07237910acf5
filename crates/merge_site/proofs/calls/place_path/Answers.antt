use Rattle.std.proofs.Common.{◌≡◌, ℕ, List, Option, subst, sym}
use Rattle.std.specs.Prelude.{OnOk, is_ok}
use Rattle.file_tree.specs.Disk.{Moves, next, write}
use Rattle.merge_journal.specs.Names.{stage_path}
use Rattle.merge_record.specs.declared.record.Placement.{Placement}
use Rattle.merge_core.specs.Event.{Answers, PlacePath, placing}
use Rattle.merge_site.proofs.Device.{asks_answers, performed}
use Rattle.merge_site.proofs.calls.place_path.Goals as goal

pub returns-clause-performs : goal.returns-clause-performs
returns-clause-performs g c t m p next_is stage_is path_is =
    let old = g.T.Tree.story c.args.tree.now in
    let new = g.T.Tree.story c.place.new.self in
    let at = (m.roll.standing c.args.group).placed in
    performed m (PlacePath c.args.group) (is_ok c.place.result) old new
    (subst (λ (o : Option Placement). Answers (placing old.now.holds c.args.group at o) (is_ok c.place.result) old new) (sym next_is)
    (asks_answers c.place.result p.path (old.now.holds (stage_path c.args.group at)) old new
    (subst (λ (q : List ℕ). OnOk c.place.result (new ≡ next old (write old.now p.path (old.now.holds q)))) stage_is
    (subst (λ (q : List ℕ). OnOk c.place.result (new ≡ next old (write old.now q (old.now.holds c.args.stage.now)))) path_is (c.place.ensures.ok t)))
    (subst (λ (q : List ℕ). Moves old q new) path_is (c.place.ensures.moved t))))

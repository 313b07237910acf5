use Rattle.std.proofs.Common.{◌≡◌, ◌<◌, ◌^◌, sym, ◌∙◌, arith}
use Rattle.std.specs.Prelude.{OnOk, is_ok}
use Rattle.std.proofs.Common.{ℕ, List, subst}
use Rattle.file_tree.specs.Disk.{Moves, next, write}
use Rattle.merge_journal.specs.Names.{gate_path, token_path}
use Rattle.merge_journal.specs.Names.Part.{Gate, Token}
use Rattle.merge_core.specs.Event.{OpenGate}
use Rattle.merge_core.proofs.Moves.{other_file}
use Rattle.merge_site.proofs.Device.{asks_answers, performed}
use Rattle.merge_site.proofs.calls.open_gate.Goals as goal

pub place-requires-clause-differ : goal.place-requires-clause-differ
place-requires-clause-differ g c e =
    let small : c.args.group < 2 ^ 32 = omega arith in
    other_file c.args.group Token Gate small (λ (h : 116 ≡ 103). omega (arith, h)) (sym c.requires.token ∙ (e ∙ c.requires.gate))

pub returns-clause-performs : goal.returns-clause-performs
returns-clause-performs g c t m =
    let old = g.T.Tree.story c.args.tree.now in
    let new = g.T.Tree.story c.place.new.self in
    performed m (OpenGate c.args.group) (is_ok c.place.result) old new
    (asks_answers c.place.result (gate_path c.args.group) (old.now.holds (token_path c.args.group)) old new
    (subst (λ (p : List ℕ). OnOk c.place.result (new ≡ next old (write old.now p (old.now.holds (token_path c.args.group))))) c.requires.gate
    (subst (λ (q : List ℕ). OnOk c.place.result (new ≡ next old (write old.now c.args.gate.now (old.now.holds q)))) c.requires.token (c.place.ensures.ok t)))
    (subst (λ (p : List ℕ). Moves old p new) c.requires.gate (c.place.ensures.moved t)))

use Rattle.std.specs.Prelude.{map}
use Rattle.std.proofs.Common.{◌∙◌, ap, sym, ◌≡◌, subst}
use Rattle.std.proofs.lemmas.Result.{err_from_is_err_and}
use Rattle.dep_group.specs.Maps.{token_map}
use Rattle.dep_group.specs.Texts.{FirstFault, IsMemory}
use Rattle.dep_group.specs.Words.{words}
use Rattle.dep_group.specs.Views.{spot}
use Rattle.dep_group.proofs.TextLemmas.{read_found, only_trees, only_memory, first_fault, memory_fault}
use Rattle.dep_group.proofs.text.read_text.Goals as goal

pub returns-in_err-words-clause-fault : goal.returns-in_err-words-clause-fault
returns-in_err-words-clause-fault g c =
    let p = err_from_is_err_and c.from_residual.result c.from_residual.ensures.1 in
    rw (p.1, p.2) (memory_fault g.N.Node.grammar g.N.Node.barred c.args.text.now)

pub returns-in_err-tokens-clause-fault : goal.returns-in_err-tokens-clause-fault
returns-in_err-tokens-clause-fault g c =
    let p = err_from_is_err_and c.from_residual-in_err-tokens.result c.from_residual-in_err-tokens.ensures.1 in
    rw (p.1, p.2) (memory_fault g.N.Node.grammar g.N.Node.barred c.args.text.now)

pub returns-in-Ok-clause-found : goal.returns-in-Ok-clause-found
returns-in-Ok-clause-found g c =
    let ws : map spot c.deref.result.now ≡ words 0 c.args.text.now = ap (map spot) c.deref.ensures.value ∙ c.in_ok-words.ensures in
    read_found g.N.Node.grammar g.N.Node.barred c.args.text.now _ (map (token_map g.N.Node.kind g.N.Node.said) c.in_ok-tokens.tokens.items) ws c.in_ok-tokens.ensures _ c.in-Ok.ensures.ok

pub returns-in-Ok-clause-only : goal.returns-in-Ok-clause-only
returns-in-Ok-clause-only g c = λ x writes.
    let ws : map spot c.deref.result.now ≡ words 0 c.args.text.now = ap (map spot) c.deref.ensures.value ∙ c.in_ok-words.ensures in
    only_trees g.N.Node.grammar g.N.Node.barred c.args.text.now _ (map (token_map g.N.Node.kind g.N.Node.said) c.in_ok-tokens.tokens.items) ws c.in_ok-tokens.ensures _ x c.in-Ok.ensures.ok writes

pub returns-clause-only : goal.returns-clause-only
returns-clause-only g c = λ x writes.
    let ws : map spot c.deref.result.now ≡ words 0 c.args.text.now = ap (map spot) c.deref.ensures.value ∙ c.in_ok-words.ensures in
    subst IsMemory (sym c.placed.ensures)
    (only_memory g.N.Node.grammar g.N.Node.barred c.args.text.now _ (map (token_map g.N.Node.kind g.N.Node.said) c.in_ok-tokens.tokens.items) ws c.in_ok-tokens.ensures (map spot c.deref-in-Err.result.now) c.in-Err.fault x c.in-Err.ensures.err writes)

pub returns-clause-fault : goal.returns-clause-fault
returns-clause-fault g c =
    let ws : map spot c.deref.result.now ≡ words 0 c.args.text.now = ap (map spot) c.deref.ensures.value ∙ c.in_ok-words.ensures in
    let us : map spot c.deref-in-Err.result.now ≡ words 0 c.args.text.now = ap (map spot) c.deref-in-Err.ensures.value ∙ c.in_ok-words.ensures in
    subst (FirstFault g.N.Node.grammar g.N.Node.barred c.args.text.now) (sym c.placed.ensures)
    (first_fault g.N.Node.grammar g.N.Node.barred c.args.text.now _ (map (token_map g.N.Node.kind g.N.Node.said) c.in_ok-tokens.tokens.items) ws c.in_ok-tokens.ensures (map spot c.deref-in-Err.result.now) c.in-Err.fault us c.in-Err.ensures.err)

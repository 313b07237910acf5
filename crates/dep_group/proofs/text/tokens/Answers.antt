use Rattle.std.proofs.Common.{[]}
use Rattle.dep_group.specs.declared.word.Word.{Word}
use Rattle.dep_group.proofs.TextLemmas.{tokens-more}
use Rattle.dep_group.proofs.text.tokens.Goals as goal

pub loop-word-preserved : goal.loop-word-preserved
loop-word-preserved g c =
    let none : Word = record { at = 0; text = record { ref_ptr = (0, 0); now = [] } } in
    rw c.in_ok-push.ensures.items
    (tokens-more g.N.Node.grammar g.N.Node.kind g.N.Node.said c.args.words.now c.loop-word.word-index none c.loop-word.tokens.items c.in_ok-token.field-0 c.loop-word-test.true c.loop-word.invariant c.in_ok-token.ensures)

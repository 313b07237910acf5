use Rattle.std.proofs.Common.{[]}
use Rattle.dep_group.specs.declared.word.Word.{Word}
use Rattle.vdb_values.proofs.Sets.{bad_word, first_word, next_word}
use Rattle.vdb_values.proofs.flags.read_each.Goals as goal

abbrev none : Word
none = record { at = 0; text = record { ref_ptr = (0, 0); now = [] } }

pub loop-word-preserved : goal.loop-word-preserved
loop-word-preserved c =
    next_word c.args.marked c.args.words.now c.loop-word.word-index none c.loop-word.flags c.add_word.new.flags c.loop-word-test.true c.loop-word.invariant.0 (rw c.if-not-branch.false at c.in_ok-add_word.ensures)

pub returns-then-not-branch-clause-fault : goal.returns-then-not-branch-clause-fault
returns-then-not-branch-clause-fault c =
    bad_word c.args.marked c.args.words.now c.loop-word.word-index none c.loop-word.flags c.loop-word-test.true c.loop-word.invariant.0 (rw c.if-not-branch.true at c.in_ok-add_word.ensures)

pub loop-word-init : goal.loop-word-init
loop-word-init c = first_word c.args.marked c.new-flags.result c.new-flags.ensures

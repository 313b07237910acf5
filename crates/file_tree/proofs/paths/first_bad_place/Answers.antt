use Rattle.std.proofs.Common.{arith, below_more}
use Rattle.file_tree.proofs.Grammar.{end_decides, first_bad}
use Rattle.file_tree.proofs.paths.first_bad_place.Goals as goal

pub returns-in-Some : goal.returns-in-Some
returns-in-Some c =
    first_bad c.args.bytes.now c.loop-at.at c.in-Some.fault (record { some = c.requires.some; short = c.requires.short; in_range = omega arith; before = c.loop-at.invariant }) c.in-Some.ensures

pub loop-at-preserved : goal.loop-at-preserved
loop-at-preserved c = below_more _ _ c.loop-at.invariant c.in_default.ensures

pub returns : goal.returns
returns c =
    end_decides c.args.bytes.now c.fault_at-2.result c.requires.some c.requires.short (λ k lt. c.loop-at.invariant k (omega arith)) c.fault_at-2.ensures

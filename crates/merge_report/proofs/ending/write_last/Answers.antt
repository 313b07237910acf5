use Rattle.std.proofs.Common.{◌∙◌, refl, subst, sym}
use Rattle.std.specs.Prelude.{IsErr}
use Rattle.merge_report.proofs.Last.{last_cut, last_whole}
use Rattle.merge_report.proofs.ending.write_last.Goals as goal

pub returns-in-Ok-clause-written : goal.returns-in-Ok-clause-written
returns-in-Ok-clause-written g c t =
    last_whole _ c.args.status c.as_bytes.result.now (g.S.Sink.written c.args.out.now) _ (c.as_bytes.ensures.value ∙ c.requires.line) (c.in-Ok.ensures.ok t)

pub returns-in-Err-clause-written : goal.returns-in-Err-clause-written
returns-in-Err-clause-written g c t =
    last_cut _ c.args.status c.unwritten.result c.as_bytes.result.now (g.S.Sink.written c.args.out.now) _ (c.write.ensures.faults.rose (subst IsErr (sym c.in-Err.is) refl)) (c.as_bytes.ensures.value ∙ c.requires.line) c.unwritten.ensures.is (c.write.ensures.moved t)

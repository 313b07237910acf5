use Rattle.merge_report.proofs.Last.{end_itself, end_memory}
use Rattle.merge_report.proofs.ending.finish.Goals as goal

pub returns-in-Some-clause-written : goal.returns-in-Some-clause-written
returns-in-Some-clause-written g c t = end_itself _ c.args.status c.write_last.result (g.S.Sink.written c.args.out.now) _ (c.write_last.ensures.written t)

pub returns-in-Ok-clause-written : goal.returns-in-Ok-clause-written
returns-in-Ok-clause-written g c t = end_itself _ c.args.status c.write_last-in-Ok.result (g.S.Sink.written c.args.out.now) _ (c.write_last-in-Ok.ensures.written t)

pub returns-in-Err-clause-written : goal.returns-in-Err-clause-written
returns-in-Err-clause-written g c t = end_memory _ c.args.status c.out_of_memory.result (g.S.Sink.written c.args.out.now) _ (c.out_of_memory.ensures.written t)

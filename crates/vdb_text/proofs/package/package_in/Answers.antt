use Rattle.std.proofs.Common.{◌∙◌, ap}
use Rattle.vdb_text.specs.Faults.{located}
use Rattle.vdb_text.proofs.package.package_in.Goals as goal

pub returns-in_ok-located-in-Err-clause-only : goal.returns-in_ok-located-in-Err-clause-only
returns-in_ok-located-in-Err-clause-only c p tell = c.in_ok-located-in-Err.ensures.told ∙ ap (located c.args.folder.now) (c.in-Err.ensures.only p tell)

use Rattle.md5_cache.proofs.FormLemmas.{needs_found, needs_only}
use Rattle.md5_cache.proofs.form.read_needs.Goals as goal

pub returns-clause-found : goal.returns-clause-found
returns-clause-found c = needs_found c.args.value.now c.parse.result c.parse.ensures.found

pub returns-clause-only : goal.returns-clause-only
returns-clause-only c = needs_only c.args.value.now c.parse.result c.parse.ensures.only

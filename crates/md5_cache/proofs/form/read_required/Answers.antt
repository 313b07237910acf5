use Rattle.md5_cache.proofs.FormLemmas.{required_found, required_only}
use Rattle.md5_cache.proofs.form.read_required.Goals as goal

pub returns-clause-found : goal.returns-clause-found
returns-clause-found c = required_found c.args.value.now c.parse.result c.parse.ensures.found

pub returns-clause-only : goal.returns-clause-only
returns-clause-only c = required_only c.args.value.now c.parse.result c.parse.ensures.only

use Rattle.std.proofs.Common.{◌≡◌}
use Rattle.merge_site.specs.Site.{new_payloads}
use Rattle.merge_site.proofs.open.new_jobs.Given as goal

abbrev pub invariant-loop-group : goal.invariant-loop-group
invariant-loop-group l = l.jobs.items ≡ new_payloads l.group

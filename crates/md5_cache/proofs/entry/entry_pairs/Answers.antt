use Rattle.std.proofs.Common.{◌∙◌}
use Rattle.std.proofs.lemmas.Result.{err_from_is_err_and}
use Rattle.md5_cache.proofs.EntryLemmas.{fields_fault, not_outdated}
use Rattle.md5_cache.proofs.entry.entry_pairs.Goals as goal

pub returns-in_err-edition-clause-fault : goal.returns-in_err-edition-clause-fault
returns-in_err-edition-clause-fault c =
    let p = err_from_is_err_and c.from_residual-in_err-edition.result c.from_residual-in_err-edition.ensures.1 in
    rw (p.1, p.2)
    (fields_fault c.args.bytes.now c.args.ebuild.now c.deref.result.now c.in_err-edition.field-0.0 c.in_ok-pairs.ensures.form (c.deref.ensures.value ∙ c.in_ok-pairs.ensures.found) c.in_err-edition.ensures.fault)

pub returns-in_err-check_digest-clause-only : goal.returns-in_err-check_digest-clause-only
returns-in_err-check_digest-clause-only c = λ entry.
    absurd
    (not_outdated c.args.bytes.now c.args.ebuild.now c.deref-2.result.now c.in_err-check_digest.field-0.0 entry (c.deref-2.ensures.value ∙ c.in_ok-pairs.ensures.found) c.in_err-check_digest.ensures)

use Rattle.std.specs.List.{AllByRecursion}
use Rattle.config_text.proofs.Runs.{some_of}
use Rattle.pkg_state.specs.declared.eapi.Eapi.{Eapi}
use Rattle.md5_cache.specs.FieldFaults.{IsFirstBad}
use Rattle.md5_cache.specs.Fields.{IsGood, IsOfEdition}
use Rattle.md5_cache.proofs.FieldLemmas.{none_bad}
use Rattle.md5_cache.proofs.field.check_fields.Goals as goal

pub returns-in_ok-try_clone-in-Some-2-clause-only :
    goal.returns-in_ok-try_clone-in-Some-2-clause-only
returns-in_ok-try_clone-in-Some-2-clause-only c = λ f.
    let e = c.in-Some-edition_of.edition in
    let pairs = c.args.pairs.now in
    absurd
    (none_bad e pairs c.in-Some-2.key.now f
    (some_of c.edition_of.result ((x : Eapi) → ¬ IsOfEdition pairs x) (IsOfEdition pairs) e c.edition_of.ensures c.in-Some-edition_of.is)
    (some_of c.in_ok-key.field-0 (AllByRecursion (IsGood e) pairs) (λ key. IsFirstBad e pairs key.now) c.in-Some-2.key c.in_ok-key.ensures c.in-Some-2.is))

use Rattle.std.proofs.Common.{None, []}
use Rattle.dep_group.proofs.MapLemmas.{read-map}
use Rattle.dep_group.proofs.law.replaced_tokens_are_read_alike.Goals as goal

pub returns : goal.returns
returns g c = λ f h any_of opens barred refused same_any_of same_barred tokens.
    read-map f h any_of opens barred refused same_any_of same_barred tokens 0 None [] []

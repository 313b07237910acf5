-- The order of packages by their versions is total.
use Rattle.std.specs.Cmp.{IsTotalOrder}
use Rattle.std.proofs.lemmas.Cmp.{back_total, nat_list_cmp_total, on_total, then_total}
use Rattle.pms_grammar.specs.Grammar.{spelling}
use Rattle.pms_version.specs.Keys.{key_cmp}
use Rattle.dep_atom.specs.Ids.{version_rank}
use Rattle.dep_atom.specs.declared.package.PackageId.{PackageId}

pub rank_total : IsTotalOrder key_cmp → IsTotalOrder version_rank
rank_total total =
    then_total (on_total (λ (p : PackageId). p.version) (back_total total)) (on_total (λ (p : PackageId). spelling p.version) nat_list_cmp_total)

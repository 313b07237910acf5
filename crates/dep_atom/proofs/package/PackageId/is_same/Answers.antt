use Rattle.std.proofs.Common.{◌≡◌, ap, rules}
use Rattle.dep_atom.specs.declared.package.PackageId.{PackageId}
use Rattle.dep_atom.proofs.SameParts.{same_id}
use Rattle.dep_atom.proofs.package.PackageId.is_same.Goals as goal

pub returns-then-eq : goal.returns-then-eq
returns-then-eq c =
    let same : c.args.self.now.name ≡ c.args.other.now.name = search rules in (
      (λ t. same_id c.args.self.now c.args.other.now same (c.same_version.ensures.0 t)),
      (λ e. c.same_version.ensures.1 (ap (λ (x : PackageId). x.version) e)),
    )

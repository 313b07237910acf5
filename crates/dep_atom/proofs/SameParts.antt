-- Names with a version, and facts, are the same by their parts.
use Rattle.std.proofs.Common.{◌≡◌}
use Rattle.dep_atom.specs.declared.package.Facts.{Facts}
use Rattle.dep_atom.specs.declared.package.PackageId.{PackageId}

pub same_id : (a b : PackageId) → a.name ≡ b.name → a.version ≡ b.version → a ≡ b
same_id a b name version = λ i. record { name = name i; version = version i }

pub same_facts : (f g : Facts) → f.id ≡ g.id → f.slot ≡ g.slot → f.subslot ≡ g.subslot → f.iuse ≡ g.iuse → f.enabled ≡ g.enabled → f ≡ g
same_facts f g id slot subslot iuse enabled = λ i. record { id = id i; slot = slot i; subslot = subslot i; iuse = iuse i; enabled = enabled i }

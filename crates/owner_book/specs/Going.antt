-- Which packages go, as the set of their numbers tells.
use Rattle.std.specs.Prelude.{Bool}
use Rattle.std.specs.BTreeSet.{contains}
use Rattle.std.specs.Ordering.{nat_cmp}
use Rattle.merge_record.specs.declared.record.OwnerKey.{OwnerKey}
use Rattle.owner_book.specs.declared.dying.Dying.{Dying}

-- the package is one of those that go
abbrev pub is_among : Dying → OwnerKey → Bool
is_among d k = contains nat_cmp d.numbers k.number

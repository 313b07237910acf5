use Rattle.std.proofs.Common.{◌≡◌, take}
use Rattle.std.specs.BTreeSet.{contains}
use Rattle.std.specs.Ordering.{nat_cmp}
use Rattle.merge_record.specs.declared.record.OwnerKey.{OwnerKey}
use Rattle.owner_book.specs.Rules.{is_dying}
use Rattle.owner_book.proofs.dying.Dying.of.Given as goal

abbrev pub invariant-loop-key : goal.invariant-loop-key
invariant-loop-key l = (k : OwnerKey) → contains nat_cmp l.numbers k.number ≡ is_dying (take l.key-index l.keys) k

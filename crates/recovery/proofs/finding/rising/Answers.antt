use Rattle.std.proofs.lemmas.List.Sorted.{IsPermutation-sym}
use Rattle.basics.proofs.Permutations.{has-moved}
use Rattle.recovery.proofs.Lists.{rising_if_sorted}
use Rattle.recovery.proofs.finding.rising.Goals as goal

pub returns-clause-same : goal.returns-clause-same
returns-clause-same c h = (
  has-moved c.sort.new.self.items c.args.groups.items h (IsPermutation-sym c.args.groups.items c.sort.new.self.items c.sort.ensures.permutation),
  has-moved c.args.groups.items c.sort.new.self.items h c.sort.ensures.permutation,
)

pub returns-clause-rising : goal.returns-clause-rising
returns-clause-rising c = rising_if_sorted c.args.groups.items c.sort.new.self.items c.requires c.sort.ensures.permutation c.in_ok-sort.ensures.sorted

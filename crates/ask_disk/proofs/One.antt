-- A list of at most one path is in order.
use Rattle.std.proofs.Common.{[], ◌∷◌, Ordering}
use Rattle.std.specs.List.Sorted.{IsStrictlySortedBy}

pub of_none : {K : Type 0} (c : K → K → Ordering) → IsStrictlySortedBy c []
unfolding IsStrictlySortedBy
of_none c = tt

pub of_one : {K : Type 0} (c : K → K → Ordering) (x : K) → IsStrictlySortedBy c (x ∷ [])
unfolding IsStrictlySortedBy
of_one c x = (tt, tt)

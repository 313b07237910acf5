-- Words are of one set of flags.
use Rattle.std.proofs.Common.{◌≡◌, ℕ, List}
use Rattle.std.proofs.lemmas.Cmp.{nat_list_cmp_total}
use Rattle.basics.proofs.Sorted.{same_sorted}
use Rattle.vdb_law.specs.Fields.{AreFlags}

pub one_flags : (ws a b : List (List ℕ)) → AreFlags ws a → AreFlags ws b → a ≡ b
one_flags ws a b x y = same_sorted nat_list_cmp_total a b x.rising y.rising (λ t h. (y.members t).1 ((x.members t).0 h)) (λ t h. (x.members t).1 ((y.members t).0 h))

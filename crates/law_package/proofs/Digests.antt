-- A digest is one that CONTENTS can have.
use Rattle.std.proofs.Common.{◌++◌, ℕ, zero, suc, List, [], ◌∷◌, arith}
use Rattle.std.specs.Prelude.{slice_index}
use Rattle.std.specs.Int.{to_le_bytes, w32}
use Rattle.hex.specs.Hex.{IsBytes}
use Rattle.md5.specs.Md5.{digest_bytes, md5}
use Rattle.md5.proofs.StandardFacts.{length-md5}
use Rattle.file_digest.specs.Digests.{IsDigest}

four_small : (n : ℕ) → IsBytes (to_le_bytes w32 n)
four_small n zero = omega arith
four_small n (suc zero) = omega arith
four_small n (suc (suc zero)) = omega arith
four_small n (suc (suc (suc zero))) = omega arith
four_small n (suc (suc (suc (suc i)))) = omega arith

both_small : (xs ys : List ℕ) → IsBytes xs → IsBytes ys → IsBytes (xs ++ ys)
both_small [] ys h k i = k i
both_small (x ∷ xs) ys h k zero = h zero
both_small (x ∷ xs) ys h k (suc i) = both_small xs ys (λ j. h (suc j)) k i

digest_small : (h : List ℕ) (n : ℕ) → IsBytes (digest_bytes h n)
unfolding digest_bytes
digest_small h zero i = omega arith
digest_small h (suc n) i = both_small (digest_bytes h n) (to_le_bytes w32 (slice_index h n)) (digest_small h n) (four_small (slice_index h n)) i

pub is_digest : (m : List ℕ) → IsDigest (md5 m)
unfolding md5
is_digest m = record { long = length-md5 m; bytes = digest_small _ 4 }

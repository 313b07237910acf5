-- Paths under the numbers of the packages that own them, or are to own them.
use Rattle.std.specs.Prelude.{◌≡◌, ◌+◌, ℕ, Bool, true, List, [], Some, map}
use Rattle.std.specs.BTreeSet.{contains, keys_between}
use Rattle.std.specs.Cmp.Lexicographic.{slice_cmp}
use Rattle.std.specs.List.{filter}
use Rattle.std.specs.Ordering.{nat_cmp, ordering_then}
use Rattle.std.specs.declared.cmp.Ordering.{Ordering}
use Rattle.std.specs.declared.ops.Bound.TheVariants.{Excluded, Included}
use Rattle.merge_record.specs.declared.record.OwnerKey.{OwnerKey}
use Rattle.owner_book.specs.declared.named.Named.{Named}
use Rattle.owner_book.specs.Book.{Book, ClaimValue, claim_in, is_owner, key_in, owner_in}
use Rattle.owner_book.specs.Marks.{owner_of}
use Rattle.owner_book.specs.Slots.{IndexValue, slot_at}

-- by number, and then in byte order
abbrev pub key_cmp : (ℕ × List ℕ) → (ℕ × List ℕ) → Ordering
key_cmp x y = ordering_then (nat_cmp x.0 y.0) (slice_cmp nat_cmp x.1 y.1)

-- the path stands under the number
abbrev pub is_named : Named → ℕ → List ℕ → Bool
is_named d n q = contains key_cmp d.keys (n, q)

-- the paths that stand under the number
abbrev pub named_under : Named → ℕ → List (List ℕ)
named_under d n =
    map (λ e. e.1) (keys_between key_cmp (Included (n, [])) (Excluded (n + 1, [])) d.keys)

-- those of the texts that the package owns
abbrev pub owned_among : IndexValue → OwnerKey → List (List ℕ) → List (List ℕ)
owned_among es k texts = filter (λ q. is_owner k (owner_of (slot_at es q))) texts

-- each owned path stands under its owner, and each that a claim places under who is to own it
pub record IsNamed (b : Book) (d : Named) : Type 0 where
  pub owned : (q : List ℕ) (k : OwnerKey) → owner_in b.owned q ≡ Some k →
      is_named d k.number q ≡ true
  pub placed : (g : ℕ) (c : ClaimValue) (q : List ℕ) (k : OwnerKey) →
      claim_in b.claims g ≡ Some c → key_in c.placed q ≡ Some k → is_named d k.number q ≡ true

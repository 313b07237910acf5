-- A claim has one refusal at most.
use Rattle.std.proofs.Common.{◌≡◌, ◌<◌, ℕ, Bool, true, false, List, Option, Some, refl, sym, ap, ◌∙◌, subst, arith, take, slice_get, inl, inr}
use Rattle.std.specs.declared.cmp.Ordering.{Ordering}
use Rattle.std.specs.declared.cmp.Ordering.TheVariants.{Less, Equal, Greater}
use Rattle.std.specs.Cmp.Lexicographic.{nat_list_cmp_total, slice_cmp}
use Rattle.std.specs.Ordering.{is_gt, nat_cmp, ordering_reverse}
use Rattle.std.proofs.lemmas.Bool.{cases_lt, false≢true, true≢false}
use Rattle.std.proofs.lemmas.Map.Lookups.{exact_bytes}
use Rattle.std.proofs.lemmas.Option.{same_Some}
use Rattle.merge_record.specs.declared.record.OwnerKey.{OwnerKey}
use Rattle.owner_book.specs.declared.fault.ClaimFault.{ClaimFault}
use Rattle.owner_book.specs.declared.fault.ClaimFault.TheVariants as faults
use Rattle.owner_book.specs.declared.fault.Collision.TheVariants as collisions
use Rattle.merge_fit.specs.declared.fault.ImageBad.TheVariants as images
use Rattle.owner_book.specs.declared.wish.Wish.{Wish}
use Rattle.owner_book.specs.Book.{AreDisjoint, Book, IsClaimedBy, IsTaken, is_wished, owner_in}
use Rattle.owner_book.specs.Rules.{IsFirstRefusal, IsNearest, IsPassed, Refuses, is_kept_out}
use Rattle.owner_book.specs.Laws.{FreeIsTaken, OneRefusal}
use Rattle.owner_book.specs.Whole.{FreeIn, RefusedIn}
use Rattle.owner_book.proofs.Exclusive.{exclusive, not_both}

one_nearest : (taken : List ℕ → Type 0) (p a b : List ℕ) → IsNearest taken p a → IsNearest taken p b → a ≡ b
one_nearest taken p a b x y = by (slice_cmp nat_cmp a b) refl
  where
    by : (o : Ordering) → slice_cmp nat_cmp a b ≡ o → a ≡ b
    by Less e = absurd (true≢false (sym (ap is_gt (nat_list_cmp_total.antisymm b a ∙ ap ordering_reverse e)) ∙ y.least a x.there x.near))
    by Equal e = exact_bytes a b e
    by Greater e = absurd (true≢false (sym (ap is_gt e) ∙ x.least b y.there y.near))

-- each rule that refuses a wish is the only one
module _ (own : List ℕ → Option OwnerKey) (claims : List ℕ → ℕ → Type 0) (wished taken : List ℕ → Type 0) (dying : OwnerKey → Bool) (w : Wish) where
  only_reserved : is_kept_out w ≡ true → (f : ClaimFault) → Refuses own claims wished taken dying w f → f ≡ faults.Image (images.Reserved w.path)
  only_reserved out (faults.Image (images.Reserved p)) h = ap (λ (q : List ℕ). faults.Image (images.Reserved q)) h.0
  only_reserved out (faults.Image (images.Twice p)) h = absurd (false≢true (sym h.1 ∙ out))
  only_reserved out (faults.Image (images.Large p)) h = absurd h
  only_reserved out (faults.Image (images.Link p)) h = absurd h
  only_reserved out (faults.Collision (collisions.Owned p k)) h = absurd (false≢true (sym h.1 ∙ out))
  only_reserved out (faults.Collision (collisions.Claimed p g)) h = absurd (false≢true (sym h.1 ∙ out))
  only_reserved out (faults.Collision (collisions.Ancestor p other)) h = absurd (false≢true (sym h.1 ∙ out))
  only_reserved out (faults.Collision (collisions.Unowned p)) h = absurd h
  only_reserved out faults.Limit h = absurd h
  only_reserved out faults.Memory h = absurd h

  module _ (in' : is_kept_out w ≡ false) where
    only_twice : wished w.path → (f : ClaimFault) → Refuses own claims wished taken dying w f → f ≡ faults.Image (images.Twice w.path)
    only_twice twice (faults.Image (images.Reserved p)) h = absurd (true≢false (sym h.1 ∙ in'))
    only_twice twice (faults.Image (images.Twice p)) h = ap (λ (q : List ℕ). faults.Image (images.Twice q)) h.0
    only_twice twice (faults.Image (images.Large p)) h = absurd h
    only_twice twice (faults.Image (images.Link p)) h = absurd h
    only_twice twice (faults.Collision (collisions.Owned p k)) h = absurd (h.2 twice)
    only_twice twice (faults.Collision (collisions.Claimed p g)) h = absurd (h.2 twice)
    only_twice twice (faults.Collision (collisions.Ancestor p other)) h = absurd (h.2.once twice)
    only_twice twice (faults.Collision (collisions.Unowned p)) h = absurd h
    only_twice twice faults.Limit h = absurd h
    only_twice twice faults.Memory h = absurd h

    module _ (once : wished w.path → ⊥) where
      only_owned : (k : OwnerKey) → own w.path ≡ Some k → dying k ≡ false → (f : ClaimFault) → Refuses own claims wished taken dying w f → f ≡ faults.Collision (collisions.Owned w.path k)
      only_owned k owned stays (faults.Image (images.Reserved p)) h = absurd (true≢false (sym h.1 ∙ in'))
      only_owned k owned stays (faults.Image (images.Twice p)) h = absurd (once h.2)
      only_owned k owned stays (faults.Image (images.Large p)) h = absurd h
      only_owned k owned stays (faults.Image (images.Link p)) h = absurd h
      only_owned k owned stays (faults.Collision (collisions.Owned p l)) h = λ i. faults.Collision (collisions.Owned (h.0 i) (same_Some l k (sym h.3 ∙ owned) i))
      only_owned k owned stays (faults.Collision (collisions.Claimed p g)) h = absurd (false≢true (sym stays ∙ h.3 k owned))
      only_owned k owned stays (faults.Collision (collisions.Ancestor p other)) h = absurd (false≢true (sym stays ∙ h.2.dies k owned))
      only_owned k owned stays (faults.Collision (collisions.Unowned p)) h = absurd h
      only_owned k owned stays faults.Limit h = absurd h
      only_owned k owned stays faults.Memory h = absurd h

      module _ (apart : (g h : ℕ) → claims w.path g → claims w.path h → g ≡ h) (dies : (k : OwnerKey) → own w.path ≡ Some k → dying k ≡ true) where
        only_claimed : (g : ℕ) → claims w.path g → (f : ClaimFault) → Refuses own claims wished taken dying w f → f ≡ faults.Collision (collisions.Claimed w.path g)
        only_claimed g claimed (faults.Image (images.Reserved p)) h = absurd (true≢false (sym h.1 ∙ in'))
        only_claimed g claimed (faults.Image (images.Twice p)) h = absurd (once h.2)
        only_claimed g claimed (faults.Image (images.Large p)) h = absurd h
        only_claimed g claimed (faults.Image (images.Link p)) h = absurd h
        only_claimed g claimed (faults.Collision (collisions.Owned p k)) h = absurd (true≢false (sym (dies k h.3) ∙ h.4))
        only_claimed g claimed (faults.Collision (collisions.Claimed p n)) h = λ i. faults.Collision (collisions.Claimed (h.0 i) (apart n g h.4 claimed i))
        only_claimed g claimed (faults.Collision (collisions.Ancestor p other)) h = absurd (h.2.unclaimed g claimed)
        only_claimed g claimed (faults.Collision (collisions.Unowned p)) h = absurd h
        only_claimed g claimed faults.Limit h = absurd h
        only_claimed g claimed faults.Memory h = absurd h

    only_near : (other : List ℕ) → IsPassed own claims wished taken dying w.path → IsNearest taken w.path other → (f : ClaimFault) → Refuses own claims wished taken dying w f → f ≡ faults.Collision (collisions.Ancestor w.path other)
    only_near other passed near (faults.Image (images.Reserved p)) h = absurd (true≢false (sym h.1 ∙ in'))
    only_near other passed near (faults.Image (images.Twice p)) h = absurd (passed.once h.2)
    only_near other passed near (faults.Image (images.Large p)) h = absurd h
    only_near other passed near (faults.Image (images.Link p)) h = absurd h
    only_near other passed near (faults.Collision (collisions.Owned p k)) h = absurd (true≢false (sym (passed.dies k h.3) ∙ h.4))
    only_near other passed near (faults.Collision (collisions.Claimed p g)) h = absurd (passed.unclaimed g h.4)
    only_near other passed near (faults.Collision (collisions.Ancestor p o)) h = λ i. faults.Collision (collisions.Ancestor (h.0 i) (one_nearest taken w.path o other h.3 near i))
    only_near other passed near (faults.Collision (collisions.Unowned p)) h = absurd h
    only_near other passed near faults.Limit h = absurd h
    only_near other passed near faults.Memory h = absurd h

  one_rule : ((g h : ℕ) → claims w.path g → claims w.path h → g ≡ h) → (f g : ClaimFault) → Refuses own claims wished taken dying w f → Refuses own claims wished taken dying w g → f ≡ g
  one_rule apart (faults.Image (images.Reserved p)) g h r = ap (λ (q : List ℕ). faults.Image (images.Reserved q)) h.0 ∙ sym (only_reserved h.1 g r)
  one_rule apart (faults.Image (images.Twice p)) g h r = ap (λ (q : List ℕ). faults.Image (images.Twice q)) h.0 ∙ sym (only_twice h.1 h.2 g r)
  one_rule apart (faults.Image (images.Large p)) g h r = absurd h
  one_rule apart (faults.Image (images.Link p)) g h r = absurd h
  one_rule apart (faults.Collision (collisions.Owned p k)) g h r = ap (λ (q : List ℕ). faults.Collision (collisions.Owned q k)) h.0 ∙ sym (only_owned h.1 h.2 k h.3 h.4 g r)
  one_rule apart (faults.Collision (collisions.Claimed p n)) g h r = ap (λ (q : List ℕ). faults.Collision (collisions.Claimed q n)) h.0 ∙ sym (only_claimed h.1 h.2 apart h.3 n h.4 g r)
  one_rule apart (faults.Collision (collisions.Ancestor p other)) g h r = ap (λ (q : List ℕ). faults.Collision (collisions.Ancestor q other)) h.0 ∙ sym (only_near h.1 other h.2 h.3 g r)
  one_rule apart (faults.Collision (collisions.Unowned p)) g h r = absurd h
  one_rule apart faults.Limit g h r = absurd h
  one_rule apart faults.Memory g h r = absurd h

module _ (b : Book) (dying : OwnerKey → Bool) (ws : List Wish) where
  abbrev First : ClaimFault → Type 0
  First f = IsFirstRefusal (FreeIn b dying) (RefusedIn b dying) ws f

  -- a refusal stands at no place before that of another
  not_before : (f g : ClaimFault) (x : First f) (y : First g) → x.at < y.at → ⊥
  not_before f g x y lt = not_both _ _ _ _ dying x.wish f (y.before x.at x.wish lt x.there) x.refused

  one_first : AreDisjoint b → (f g : ClaimFault) → First f → First g → f ≡ g
  one_first apart f g x y = elim (cases_lt x.at y.at) [
    | inl less ↦ absurd (not_before f g x y less)
    | inr ge ↦ elim (cases_lt y.at x.at) [
      | inl less ↦ absurd (not_before g f y x less)
      | inr le ↦ here (omega arith)
    ]
  ]
    where
      here : x.at ≡ y.at → f ≡ g
      here e =
          let same : x.wish ≡ y.wish = same_Some x.wish y.wish (sym x.there ∙ (ap (slice_get ws) e ∙ y.there)) in
          let moved : RefusedIn b dying (take x.at ws) x.wish g = subst (λ (n : ℕ). RefusedIn b dying (take n ws) x.wish g) (sym e) (subst (λ (v : Wish). RefusedIn b dying (take y.at ws) v g) (sym same) y.refused) in
          one_rule (owner_in b.owned) (IsClaimedBy b.claims) (λ q. is_wished (take x.at ws) q ≡ true) (IsTaken b (take x.at ws)) dying x.wish (λ m n c d. apart m n x.wish.path c d) f g x.refused moved

pub one : OneRefusal
one b dying ws faults.Memory g apart x y p q = absurd (p refl)
one b dying ws (faults.Image u) faults.Memory apart x y p q = absurd (q refl)
one b dying ws (faults.Collision u) faults.Memory apart x y p q = absurd (q refl)
one b dying ws faults.Limit faults.Memory apart x y p q = absurd (q refl)
one b dying ws faults.Limit faults.Limit apart x y p q = refl
one b dying ws faults.Limit (faults.Image v) apart x y p q = absurd (exclusive b dying ws (faults.Image v) x.0 y)
one b dying ws faults.Limit (faults.Collision v) apart x y p q = absurd (exclusive b dying ws (faults.Collision v) x.0 y)
one b dying ws (faults.Image u) faults.Limit apart x y p q = absurd (exclusive b dying ws (faults.Image u) y.0 x)
one b dying ws (faults.Collision u) faults.Limit apart x y p q = absurd (exclusive b dying ws (faults.Collision u) y.0 x)
one b dying ws (faults.Image u) (faults.Image v) apart x y p q = one_first b dying ws apart (faults.Image u) (faults.Image v) x y
one b dying ws (faults.Image u) (faults.Collision v) apart x y p q = one_first b dying ws apart (faults.Image u) (faults.Collision v) x y
one b dying ws (faults.Collision u) (faults.Image v) apart x y p q = one_first b dying ws apart (faults.Collision u) (faults.Image v) x y
one b dying ws (faults.Collision u) (faults.Collision v) apart x y p q = one_first b dying ws apart (faults.Collision u) (faults.Collision v) x y

pub free_is_taken : FreeIsTaken
free_is_taken b dying ws faults.Memory free few r = refl
free_is_taken b dying ws faults.Limit free few r = absurd (omega (arith, few, r.1))
free_is_taken b dying ws (faults.Image u) free few r = absurd (exclusive b dying ws (faults.Image u) free r)
free_is_taken b dying ws (faults.Collision u) free few r = absurd (exclusive b dying ws (faults.Collision u) free r)

-- The three answers of a comparison, and what a total order says of them.
use Rattle.std.specs.Cmp.{IsTotalOrder}
use Rattle.std.specs.Ordering.{is_eq, is_lt, ordering_reverse}
use Rattle.std.specs.declared.cmp.Ordering.{Ordering}
use Rattle.std.specs.declared.cmp.Ordering.TheVariants.{Less, Equal, Greater}
use Rattle.std.proofs.Common.{◌≡◌, ◌⊎◌, ◌∙◌, true, false, ap, inl, inr, refl, sym}
use Rattle.std.proofs.lemmas.Cmp.{tied_itself}

pub ordering_cases : (o : Ordering) → (o ≡ Less) ⊎ ((o ≡ Equal) ⊎ (o ≡ Greater))
ordering_cases Less = inl refl
ordering_cases Equal = inr (inl refl)
ordering_cases Greater = inr (inr refl)

-- what is not above and not equal is below
pub less_if : (o p : Ordering) → o ≡ ordering_reverse p → is_lt p ≡ false → is_eq o ≡ false → o ≡ Less
less_if o Less e h k = absurd (cc h)
less_if o Equal e h k = absurd (let same = ap is_eq e in cc)
less_if o Greater e h k = e

pub less_of : (o : Ordering) → is_lt o ≡ true → o ≡ Less
less_of Less e = refl
less_of Equal e = absurd (cc e)
less_of Greater e = absurd (cc e)

-- of two elements at most one is the less
pub one_way : {K : Type 0} {R : K → K → Ordering} → IsTotalOrder R → (x y : K) → R x y ≡ Less → R y x ≡ Less → ⊥
one_way {R = R} total x y less more =
    let r : Less ≡ Greater = sym less ∙ (total.antisymm x y ∙ ap ordering_reverse more) in
    absurd (cc r)

-- nothing is less than itself
pub not_itself : {K : Type 0} {R : K → K → Ordering} → IsTotalOrder R → (x y : K) → x ≡ y → R x y ≡ Less → ⊥
not_itself {R = R} total x y e less =
    let r : Equal ≡ Less = sym (tied_itself total x) ∙ (ap (R x) e ∙ less) in
    absurd (cc r)

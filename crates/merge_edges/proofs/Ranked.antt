-- Versions that are compared: what is behind another one, and what is as great.
use Rattle.std.proofs.Common.{◌≡◌, ◌∙◌, true, false, refl, ap, subst, sym}
use Rattle.std.specs.Cmp.{IsTotalOrder}
use Rattle.std.specs.Ordering.{is_eq, is_gt, ordering_reverse}
use Rattle.std.specs.declared.cmp.Ordering.{Ordering}
use Rattle.std.specs.declared.cmp.Ordering.TheVariants.{Equal, Greater, Less}
use Rattle.std.proofs.lemmas.Cmp.{tied_itself, upto}
use Rattle.pms_grammar.specs.Grammar.{IsVersion, VersionValue}
use Rattle.pms_version.specs.Keys.{key_cmp}
use Rattle.pms_version.specs.Order.{version_cmp}
use Rattle.pms_version.proofs.Order.{key_cmp_total, version_keyed}

back : (r : Ordering) → is_gt r ≡ true → is_gt (ordering_reverse r) ≡ false
back Less e = absurd (cc e)
back Equal e = absurd (cc e)
back Greater e = refl

tied_of : (r : Ordering) → is_gt r ≡ false → is_gt (ordering_reverse r) ≡ false → is_eq r ≡ true
tied_of Less e f = absurd (cc f)
tied_of Equal e f = refl
tied_of Greater e f = absurd (cc e)

equal_of : (r : Ordering) → is_eq r ≡ true → r ≡ Equal
equal_of Less e = absurd (cc e)
equal_of Equal e = refl
equal_of Greater e = absurd (cc e)

module _ {K : Type 0} {R : K → K → Ordering} (total : IsTotalOrder R) where
  turned : (x y : K) → is_gt (R y x) ≡ true → is_gt (R x y) ≡ false
  turned x y e = ap is_gt (total.antisymm x y) ∙ back (R y x) e

  behind : (x y z : K) → is_gt (R y x) ≡ true → is_gt (R z x) ≡ false → is_gt (R z y) ≡ false
  behind x y z e f = upto total z x y f (turned x y e)

  apart : (x y z : K) → is_gt (R y x) ≡ true → is_gt (R z x) ≡ false → is_eq (R z y) ≡ true → ⊥
  apart x y z e f g =
      let same : is_gt (R z x) ≡ is_gt (R y x) = ap is_gt (total.congr z y x (equal_of (R z y) g)) in
      let bad : false ≡ true = sym f ∙ same ∙ e in cc bad

  tied : (x y : K) → is_gt (R y x) ≡ false → is_gt (R x y) ≡ false → is_eq (R y x) ≡ true
  tied x y e f = tied_of (R y x) e (ap is_gt (sym (total.antisymm x y)) ∙ f)

module _ (x y : VersionValue) (a : IsVersion x) (b : IsVersion y) where
  pub not_greater_itself : is_gt (version_cmp x x) ≡ false
  not_greater_itself = ap is_gt (version_keyed x x a a ∙ tied_itself key_cmp_total x)

  -- two of which neither is greater are equal
  pub as_great : is_gt (version_cmp y x) ≡ false → is_gt (version_cmp x y) ≡ false → is_eq (version_cmp y x) ≡ true
  as_great e f =
      ap is_eq (version_keyed y x b a)
      ∙ tied key_cmp_total x y (ap is_gt (sym (version_keyed y x b a)) ∙ e) (ap is_gt (sym (version_keyed x y a b)) ∙ f)

  module _ (z : VersionValue) (d : IsVersion z) (greater : is_gt (version_cmp y x) ≡ true) (low : is_gt (version_cmp z x) ≡ false) where
    key_greater : is_gt (key_cmp y x) ≡ true
    key_greater = ap is_gt (sym (version_keyed y x b a)) ∙ greater

    key_low : is_gt (key_cmp z x) ≡ false
    key_low = ap is_gt (sym (version_keyed z x d a)) ∙ low

    -- what isn't greater than x is behind a greater one
    pub falls_behind : is_gt (version_cmp z y) ≡ false
    falls_behind = ap is_gt (version_keyed z y d b) ∙ behind key_cmp_total x y z key_greater key_low

    pub falls_apart : is_eq (version_cmp z y) ≡ true → ⊥
    falls_apart g = apart key_cmp_total x y z key_greater key_low (ap is_eq (sym (version_keyed z y d b)) ∙ g)

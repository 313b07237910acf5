-- What is recorded of a package that comes is the package again, with the implicit flags on.
use Rattle.std.proofs.Common.{◌≡◌, ◌∙◌, ◌||◌, ◌&&◌, ℕ, Bool, true, false, List, [], ◌∷◌, filter, refl, ap, subst, sym}
use Rattle.std.specs.Prelude.{bytes_eq}
use Rattle.std.specs.BTreeSet.{insert_key}
use Rattle.std.proofs.lemmas.List.Kept.{IsStrictlySortedBy-filter}
use Rattle.std.proofs.lemmas.Map.Views.{any-filter_same}
use Rattle.std.proofs.lemmas.Slice.Eq.{bytes_eq-Decides}
use Rattle.basics.proofs.Tests.{or-true}
use Rattle.pms_names.specs.Flags.{IsRising, byte_order, has}
use Rattle.pms_names.proofs.Sets.{one_set}
use Rattle.pkg_state.specs.Package.{Package, with_enabled}
use Rattle.law_commit.specs.Lit.{as_recorded, lit, lit_flags}
use Rattle.law_commit.proofs.Lit.{set_put}
use Rattle.plan_model.specs.Laws.{IsLit}

or_same : (a b : Bool) → (a || b) ≡ (b || a)
or_same true b = sym (or-true b)
or_same false true = refl
or_same false false = refl

or_past : (a b c : Bool) → (a || (b || c)) ≡ ((b || a) || c)
or_past true true c = refl
or_past true false c = refl
or_past false true c = refl
or_past false false c = refl

first_in : (f : List ℕ) (fs : List (List ℕ)) → has (f ∷ fs) f ≡ true
first_in f fs = ap (λ (b : Bool). b || has fs f) ((bytes_eq-Decides f f).1 refl)

later_in : (f : List ℕ) (fs : List (List ℕ)) (q : List ℕ) → has fs q ≡ true → has (f ∷ fs) q ≡ true
later_in f fs q e = ap (λ (b : Bool). bytes_eq q f || b) e ∙ or-true (bytes_eq q f)

module _ (on : List (List ℕ)) (rising : IsRising on) where
  has_kept : (test : List ℕ → Bool) (q : List ℕ) → has (filter test on) q ≡ (test q && has on q)
  has_kept test q = any-filter_same (bytes_eq q) test (test q) (λ k e. ap test (sym ((bytes_eq-Decides q k).0 e))) on

  kept_rising : (test : List ℕ → Bool) → IsRising (filter test on)
  kept_rising test = IsStrictlySortedBy-filter byte_order test on rising

  abbrev put : (f : List ℕ) → (List ℕ → Bool) → List ℕ → Bool
  put f test q = bytes_eq q f || test q

  put_has : (f : List ℕ) (test : List ℕ → Bool) (q : List ℕ) → has on f ≡ true → (b : Bool) → bytes_eq q f ≡ b → ((b || test q) && has on q) ≡ (b || (test q && has on q))
  put_has f test q there true e = subst (λ (x : List ℕ). has on x ≡ true) (sym ((bytes_eq-Decides q f).0 e)) there
  put_has f test q there false e = refl

  one_put : (f : List ℕ) (test : List ℕ → Bool) → has on f ≡ true → insert_key byte_order (filter test on) f ≡ filter (put f test) on
  one_put f test there = sym (set_put (filter test on) (filter (put f test) on) f (kept_rising test) (kept_rising (put f test)) (λ q.
      has_kept (put f test) q ∙ (put_has f test q there (bytes_eq q f) refl ∙ ap (λ (b : Bool). bytes_eq q f || b) (sym (has_kept test q)))))

  all_put : (fs : List (List ℕ)) (test : List ℕ → Bool) → ((q : List ℕ) → has fs q ≡ true → has on q ≡ true) → lit_flags fs (filter test on) ≡ filter (λ q. has fs q || test q) on
  all_put [] test there = refl
  all_put (f ∷ fs) test there =
      ap (lit_flags fs) (one_put f test (there f (first_in f fs)))
      ∙ (all_put fs (put f test) (λ q e. there q (later_in f fs q e))
      ∙ ap (λ (t : List ℕ → Bool). filter t on) (λ i q. or_past (has fs q) (bytes_eq q f) (test q) i))

  all_kept : (test : List ℕ → Bool) → ((q : List ℕ) → has on q ≡ true → test q ≡ true) → filter test on ≡ on
  all_kept test all = one_set (filter test on) on (kept_rising test) rising (λ q. has_kept test q ∙ go q (has on q) refl)
    where
      and_false : (b : Bool) → (b && false) ≡ false
      and_false true = refl
      and_false false = refl

      go : (q : List ℕ) (b : Bool) → has on q ≡ b → (test q && b) ≡ b
      go q true e = ap (λ (t : Bool). t && true) (all q e)
      go q false e = and_false (test q)

pub recorded_again : (implicit : List (List ℕ)) (p : Package) → IsLit implicit p → lit implicit (as_recorded p) ≡ p
recorded_again implicit p is =
    let on = p.facts.enabled in
    let known = has p.facts.iuse in
    ap (λ (flags : List (List ℕ)). with_enabled flags p)
    (all_put on is.rising implicit known is.implicit_on
    ∙ all_kept on is.rising (λ q. has implicit q || known q) (λ q e. or_same (has implicit q) (known q) ∙ is.known q e))

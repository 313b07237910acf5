-- Packages are consistent, or one fault is their first.
use Rattle.std.proofs.Common.{◌≡◌, ◌⊎◌, ◌∙◌, ◌&&◌, Bool, true, false, cond, not, List, Option, Some, None, refl, ap, sym, subst, inl, inr}
use Rattle.std.specs.List.{find, list_any}
use Rattle.std.proofs.lemmas.Bool.{and_from, and_parts, both_ways, cases_Bool, not-false, not-true}
use Rattle.std.proofs.lemmas.Option.{same_Some}
use Rattle.basics.specs.Members.{Has}
use Rattle.dep_atom.specs.declared.package.PackageId.{PackageId}
use Rattle.pkg_state.specs.Package.{Package}
use Rattle.pkg_state.specs.Consistent.{AreApart, AreConsistent, blocks, facts_of, fits_required, is_blocked, is_met}
use Rattle.pkg_state.specs.Fault.{AreFirstTwins, Fault, IsFirstFault, IsFirstWrong, IsWrong, is_right, lacking_leaf}
use Rattle.pkg_state.specs.Fault.Fault.{Blocked, RequiredUse, Runtime, SlotTwice}
use Rattle.pkg_state.specs.declared.class.Class.TheVariants.{Rdepend}
use Rattle.pkg_state.proofs.Lists.{any_none, found_or_none, found_passes, none_passes, not_found}
use Rattle.pkg_state.proofs.Lines.{apart_or_twins, one_pair, twins_not_apart}

abbrev is_wrong : List Package → Package → Bool
is_wrong ps p = not (is_right ps p)

-- the parts of being right
pub record IsRight (ps : List Package) (p : Package) : Type 0 where
  pub required : fits_required p ≡ true
  pub unblocked : is_blocked ps p ≡ false
  pub runtime : is_met (facts_of ps) Rdepend p ≡ true

right_parts : (ps : List Package) (p : Package) → is_right ps p ≡ true → IsRight ps p
right_parts ps p h =
    let one = and_parts (fits_required p) (not (is_blocked ps p) && is_met (facts_of ps) Rdepend p) h in
    let two = and_parts (not (is_blocked ps p)) (is_met (facts_of ps) Rdepend p) one.1 in
    record { required = one.0; unblocked = not-true (is_blocked ps p) two.0; runtime = two.1 }

pub parts_right : (ps : List Package) (p : Package) → IsRight ps p → is_right ps p ≡ true
parts_right ps p h =
    and_from (fits_required p) (not (is_blocked ps p) && is_met (facts_of ps) Rdepend p) h.required
    (and_from (not (is_blocked ps p)) (is_met (facts_of ps) Rdepend p) (ap not h.unblocked) h.runtime)

-- where each is right and none share a line, they are consistent
pub consistent_if : (ps : List Package) → AreApart ps → list_any (is_wrong ps) ps ≡ false → AreConsistent ps
consistent_if ps apart h =
    let right : (p : Package) → Has ps p → IsRight ps p = λ p has. right_parts ps p (not-false (is_right ps p) (none_passes (is_wrong ps) ps h p has)) in
    record {
      apart = apart;
      required = λ p has. (right p has).required;
      unblocked = λ p q hp hq. none_passes (λ q. blocks q p) ps (right p hp).unblocked q hq;
      runtime = λ p has. (right p has).runtime;
    }

right_if : (ps : List Package) → AreConsistent ps → (p : Package) → Has ps p → is_right ps p ≡ true
right_if ps h p has = parts_right ps p (record {
  required = h.required p has;
  unblocked = any_none (λ q. blocks q p) ps (λ q hq. h.unblocked p q has hq);
  runtime = h.runtime p has;
})

-- a first wrong package isn't right
not_consistent : (ps : List Package) (a : Fault) → AreConsistent ps → IsFirstWrong ps a → ⊥
not_consistent ps a h w =
    let found = found_passes (is_wrong ps) ps w.one w.first in
    both_ways (is_right ps w.one) (not-true (is_right ps w.one) found.1) (right_if ps h w.one found.0)

pub none_fits : (ps : List Package) (a : Fault) → AreConsistent ps → IsFirstFault ps a → ⊥
none_fits ps (SlotTwice one other) h f = twins_not_apart ps f.0 f.1 h.apart f.2
none_fits ps (RequiredUse one) h f = not_consistent ps (RequiredUse one) h f
none_fits ps (Blocked one by) h f = not_consistent ps (Blocked one by) h f
none_fits ps (Runtime one missing) h f = not_consistent ps (Runtime one missing) h f

-- what is wrong with a package, as a function
abbrev blocked_by : List Package → Package → Option Package → Option Fault
blocked_by ps p None = cond (is_met (facts_of ps) Rdepend p) None (Some (Runtime p.facts.id (lacking_leaf (facts_of ps) Rdepend p)))
blocked_by ps p (Some q) = Some (Blocked p.facts.id q.facts.id)

abbrev wrong_of : List Package → Package → Option Fault
wrong_of ps p = cond (fits_required p) (blocked_by ps p (find (λ q. blocks q p) ps)) (Some (RequiredUse p.facts.id))

fault_is : (ps : List Package) (p : Package) (a : Fault) → IsWrong ps p a → wrong_of ps p ≡ Some a
fault_is ps p (SlotTwice one other) w = absurd w
fault_is ps p (RequiredUse one) w =
    ap (λ (b : Bool). cond b (blocked_by ps p (find (λ q. blocks q p) ps)) (Some (RequiredUse p.facts.id))) w.1
    ∙ ap (λ (id : PackageId). Some (RequiredUse id)) (sym w.0)
fault_is ps p (Blocked one by) w =
    ap (λ (b : Bool). cond b (blocked_by ps p (find (λ q. blocks q p) ps)) (Some (RequiredUse p.facts.id))) w.1
    ∙ (ap (λ (o : Option Package). blocked_by ps p o) w.2.1
    ∙ (let one_is = sym w.0 in let by_is = sym w.2.2 in λ i. Some (Blocked (one_is i) (by_is i))))
fault_is ps p (Runtime one missing) w =
    ap (λ (b : Bool). cond b (blocked_by ps p (find (λ q. blocks q p) ps)) (Some (RequiredUse p.facts.id))) w.1
    ∙ (ap (λ (o : Option Package). blocked_by ps p o) (not_found (λ q. blocks q p) ps w.2)
    ∙ (ap (λ (b : Bool). cond b None (Some (Runtime p.facts.id (lacking_leaf (facts_of ps) Rdepend p)))) w.3
    ∙ (let one_is = sym w.0 in let leaf_is = sym w.4 in λ i. Some (Runtime (one_is i) (leaf_is i)))))

one_wrong : (ps : List Package) (a b : Fault) → IsFirstWrong ps a → IsFirstWrong ps b → a ≡ b
one_wrong ps a b v w =
    let same : v.one ≡ w.one = same_Some v.one w.one (sym v.first ∙ w.first) in
    same_Some a b (sym (fault_is ps w.one a (subst (λ (p : Package). IsWrong ps p a) same v.why)) ∙ fault_is ps w.one b w.why)

-- a fault is of two on one line, or of a package that isn't right
data Sort (ps : List Package) (a : Fault) : Type 0 where
  twins : (one other : PackageId) → a ≡ SlotTwice one other → (p q : Package) × AreFirstTwins ps p q × (one ≡ p.facts.id) × (other ≡ q.facts.id) → Sort ps a
  wrong : IsFirstWrong ps a → Sort ps a

sort_of : (ps : List Package) (a : Fault) → IsFirstFault ps a → Sort ps a
sort_of ps (SlotTwice one other) f = twins one other refl f
sort_of ps (RequiredUse one) f = wrong f
sort_of ps (Blocked one by) f = wrong f
sort_of ps (Runtime one missing) f = wrong f

pub once : (ps : List Package) (a b : Fault) → IsFirstFault ps a → IsFirstFault ps b → a ≡ b
once ps a b f g = elim (sort_of ps a f) [
  | twins one other e t ↦ elim (sort_of ps b g) [
    | twins one' other' e' t' ↦ (
        let same = one_pair ps t.0 t.1 t'.0 t'.1 t.2 t'.2 in
        let first : one ≡ one' = t.3 ∙ (ap (λ (p : Package). p.facts.id) same.0 ∙ sym t'.3) in
        let second : other ≡ other' = t.4 ∙ (ap (λ (p : Package). p.facts.id) same.1 ∙ sym t'.4) in
        e ∙ ((λ i. SlotTwice (first i) (second i)) ∙ sym e'))
    | wrong w ↦ absurd (twins_not_apart ps t.0 t.1 w.apart t.2)
  ]
  | wrong v ↦ elim (sort_of ps b g) [
    | twins one other e t ↦ absurd (twins_not_apart ps t.0 t.1 v.apart t.2)
    | wrong w ↦ one_wrong ps a b v w
  ]
]

-- something is wrong with a package that isn't right
why : (ps : List Package) (p : Package) → is_right ps p ≡ false → (a : Fault) × (IsWrong ps p a)
why ps p h = elim (cases_Bool (fits_required p)) [
  | inr e ↦ (RequiredUse p.facts.id, (refl, e))
  | inl e ↦ elim (found_or_none (λ q. blocks q p) ps) [
    | inl r ↦ (Blocked p.facts.id r.0.facts.id, (refl, e, (r.0, r.1, refl)))
    | inr none ↦ elim (cases_Bool (is_met (facts_of ps) Rdepend p)) [
      | inr m ↦ (Runtime p.facts.id (lacking_leaf (facts_of ps) Rdepend p), (refl, e, none, m, refl))
      | inl m ↦ absurd (both_ways (is_right ps p) h (parts_right ps p (record { required = e; unblocked = none; runtime = m })))
    ]
  ]
]

pub first_fault : (ps : List Package) (a : Fault) → IsFirstWrong ps a → IsFirstFault ps a
first_fault ps (SlotTwice one other) w = absurd w.why
first_fault ps (RequiredUse one) w = w
first_fault ps (Blocked one by) w = w
first_fault ps (Runtime one missing) w = w

pub some : (ps : List Package) → AreConsistent ps ⊎ ((a : Fault) × IsFirstFault ps a)
some ps = elim (apart_or_twins ps) [
  | inr t ↦ inr (SlotTwice t.0.facts.id t.1.facts.id, (t.0, t.1, t.2, refl, refl))
  | inl apart ↦ elim (found_or_none (is_wrong ps) ps) [
    | inr none ↦ inl (consistent_if ps apart none)
    | inl r ↦ inr (
        let w = why ps r.0 (not-true (is_right ps r.0) (found_passes (is_wrong ps) ps r.0 r.1).1) in
        (w.0, first_fault ps w.0 (record { apart = apart; one = r.0; first = r.1; why = w.1 })))
  ]
]

-- Numbers that come one after another, each the smallest of those that may.
use Rattle.std.proofs.Common.{◌≡◌, ◌≢◌, ◌∙◌, ◌<◌, ◌≤◌, ◌+◌, ℕ, Bool, true, false, cond, List, ap, arith, inl, inr, length, refl, subst, sym}
use Rattle.std.specs.Prelude.{slice_index}
use Rattle.std.specs.BTreeSet.{BTreeSet, contains}
use Rattle.std.specs.Ordering.{is_eq, is_gt, nat_cmp}
use Rattle.std.proofs.lemmas.Bool.{cases_lt, cases_order, false≢true}
use Rattle.basics.specs.Members.{Has}
use Rattle.basics.proofs.Texts.{nat_cmp-greater}
use Rattle.merge_graph.specs.Certified.{AreApart, AreFirst}
use Rattle.merge_graph.specs.Rows.{places_of}
use Rattle.merge_graph.proofs.RowLemmas.{has_place}

-- what came so far was the smallest, and what may come by now and didn't is ready
pub record IsSwept (firsts opened : List ℕ) (at : ℕ) (ready : BTreeSet ℕ) : Type 0 where
  pub past : (j k : ℕ) → j < at → k < length firsts → j < k → slice_index opened k ≤ j → slice_index firsts j < slice_index firsts k
  pub waiting : (k : ℕ) → at ≤ k → k < length firsts → slice_index opened k < at → contains nat_cmp ready (slice_index firsts k) ≡ true

pub not_swept : (firsts opened : List ℕ) (ready : BTreeSet ℕ) → IsSwept firsts opened 0 ready
not_swept firsts opened ready = record {
  past = λ j k less. absurd (omega (arith, less));
  waiting = λ k behind within less. absurd (omega (arith, less));
}

pub swept_more : (firsts opened : List ℕ) (at : ℕ) (old added new : BTreeSet ℕ) → length opened ≡ length firsts → AreApart firsts → at < length firsts → IsSwept firsts opened at old
    → ((x : ℕ) → contains nat_cmp old x ≡ true → contains nat_cmp added x ≡ true)
    → ((k : ℕ) → Has (places_of opened at) k → contains nat_cmp added (slice_index firsts k) ≡ true)
    → ((x : ℕ) → contains nat_cmp added x ≡ true → slice_index firsts at ≤ x)
    → ((x : ℕ) → x ≢ slice_index firsts at → contains nat_cmp added x ≡ true → contains nat_cmp new x ≡ true)
    → IsSwept firsts opened (at + 1) new
swept_more firsts opened at old added new all apart less swept kept come least others =
    let there : (k : ℕ) → at ≤ k → k < length firsts → slice_index opened k ≤ at → contains nat_cmp added (slice_index firsts k) ≡ true = λ k behind within by.
    elim (cases_order (slice_index opened k) at) [
      | inl now ↦ come k (has_place opened at k (omega (arith, within, all)) now)
      | inr (inl before) ↦ kept (slice_index firsts k) (swept.waiting k behind within before)
      | inr (inr later) ↦ absurd (omega (arith, by, later))
    ] in
    let other : (k : ℕ) → at < k → k < length firsts → slice_index firsts k ≡ slice_index firsts at → ⊥ = λ k behind within same.
    (let e = apart k at within less same in omega (arith, e, behind)) in
    record {
      past = λ j k below within behind by. elim (cases_order j at) [
        | inl now ↦ (
            let behind_at : at < k = omega (arith, now, behind) in
            let by_at : slice_index opened k ≤ at = omega (arith, now, by) in
            let from : slice_index firsts at ≤ slice_index firsts k = least (slice_index firsts k) (there k (omega (arith, behind_at)) within by_at) in
            let differ : slice_index firsts k ≢ slice_index firsts at = other k behind_at within in
            subst (λ (i : ℕ). slice_index firsts i < slice_index firsts k) (sym now) (omega (arith, from, differ))
            )
        | inr (inl before) ↦ swept.past j k before within behind by
        | inr (inr later) ↦ absurd (omega (arith, below, later))
      ];
      waiting = λ k behind within by.
          (let behind_at : at < k = omega (arith, behind) in
          others (slice_index firsts k) (other k behind_at within) (there k (omega (arith, behind_at)) within (omega (arith, by))));
    }

pub swept_all : (firsts opened : List ℕ) (at : ℕ) (ready : BTreeSet ℕ) → length firsts ≤ at → IsSwept firsts opened at ready → AreFirst firsts opened
swept_all firsts opened at ready past swept j k within behind by = swept.past j k (omega (arith, past, within, behind)) within behind by

still_true : (b a : Bool) → a ≡ true → cond b true a ≡ true
still_true true a e = refl
still_true false a e = e

-- what comes leaves the others
pub kept_by_insert : (k : ℕ) (old new : BTreeSet ℕ) → ((q : ℕ) → contains nat_cmp new q ≡ cond (is_eq (nat_cmp k q)) true (contains nat_cmp old q)) → (x : ℕ) → contains nat_cmp old x ≡ true → contains nat_cmp new x ≡ true
kept_by_insert k old new updates x on = updates x ∙ still_true (is_eq (nat_cmp k x)) (contains nat_cmp old x) on

pub first_is : (ready : BTreeSet ℕ) (k : ℕ) → ((q : ℕ) → contains nat_cmp ready q ≡ true → is_gt (nat_cmp k q) ≡ false) → (x : ℕ) → contains nat_cmp ready x ≡ true → k ≤ x
first_is ready k least x on = elim (cases_lt x k) [
  | inl below ↦ absurd (false≢true (sym (least x on) ∙ ap is_gt (nat_cmp-greater k x below)))
  | inr from ↦ from
]

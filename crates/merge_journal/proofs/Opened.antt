-- The open groups: a rising list is told by its members.
use Rattle.std.proofs.Common.{◌≡◌, ◌⊎◌, ◌<◌, ◌^◌, ℕ, zero, suc, Bool, true, false, cond, List, [], ◌∷◌, ◌++◌, refl, sym, ap, subst, ◌∙◌, inl, inr, arith}
use Rattle.std.specs.Prelude.{◌↔◌}
use Rattle.std.proofs.lemmas.Bool.{cases_lt}
use Rattle.std.proofs.lemmas.List.{append-nil}
use Rattle.basics.specs.Members.{Has}
use Rattle.basics.proofs.Membership.{has-append_cases, has-append_left, has-append_right}
use Rattle.file_tree.specs.Disk.{Map}
use Rattle.merge_journal.specs.Names.{gate_path}
use Rattle.merge_journal.specs.Open.{IsRising, is_open, open_below, open_groups}

abbrev pub Opens : Map → ℕ → ℕ → Type 0
Opens c n g = (g < n) × (is_open (c (gate_path g)) ≡ true)

below_or_last : (n g : ℕ) → g < suc n → (g < n) ⊎ (g ≡ n)
below_or_last n g lt = elim (cases_lt g n) [ inl below ↦ inl below | inr over ↦ inr (omega arith) ]

one_has : (b : Bool) (n g : ℕ) → Has (cond b (n ∷ []) []) g → (b ≡ true) × (n ≡ g)
one_has true n g (inl e) = (refl, e)
one_has true n g (inr h) = absurd h
one_has false n g h = absurd h

pub open_has : (c : Map) (n g : ℕ) → Has (open_below c n) g → Opens c n g
unfolding open_below
open_has c zero g h = absurd h
open_has c (suc n) g h =
    elim (has-append_cases (open_below c n) (cond (is_open (c (gate_path n))) (n ∷ []) []) g h) [
      | inl k ↦ (let o = open_has c n g k in (omega (arith, o.0), o.1))
      | inr k ↦ (let o = one_has (is_open (c (gate_path n))) n g k in (omega (arith, o.1), ap (λ (m : ℕ). is_open (c (gate_path m))) (sym o.1) ∙ o.0))
    ]

pub has_open : (c : Map) (n g : ℕ) → Opens c n g → Has (open_below c n) g
unfolding open_below
has_open c zero g h = absurd (omega (arith, h.0))
has_open c (suc n) g h =
    elim (below_or_last n g h.0) [
      | inl below ↦ has-append_left (open_below c n) (cond (is_open (c (gate_path n))) (n ∷ []) []) g (has_open c n g (below, h.1))
      | inr last ↦ has-append_right (open_below c n) (cond (is_open (c (gate_path n))) (n ∷ []) []) g
          (subst (λ (b : Bool). Has (cond b (n ∷ []) []) g) (sym (ap (λ (m : ℕ). is_open (c (gate_path m))) (sym last) ∙ h.1)) (inl (sym last)))
    ]

rising_push : (gs : List ℕ) (n : ℕ) → IsRising gs → ((g : ℕ) → Has gs g → g < n) → IsRising (gs ++ n ∷ [])
rising_push [] n rise below = (λ h has. absurd has, tt)
rising_push (g ∷ gs) n rise below = (
  λ h has. elim (has-append_cases gs (n ∷ []) h has) [ inl k ↦ rise.0 h k | inr k ↦ elim k [ inl e ↦ subst (λ (m : ℕ). g < m) e (below g (inl refl)) | inr none ↦ absurd none ] ],
  rising_push gs n rise.1 (λ h has. below h (inr has)),
)

rising_cond : (gs : List ℕ) (n : ℕ) (b : Bool) → IsRising gs → ((g : ℕ) → Has gs g → g < n) → IsRising (gs ++ cond b (n ∷ []) [])
rising_cond gs n true rise below = rising_push gs n rise below
rising_cond gs n false rise below = subst IsRising (sym (append-nil gs)) rise

pub open_rises : (c : Map) (n : ℕ) → IsRising (open_below c n)
unfolding open_below
open_rises c zero = tt
open_rises c (suc n) = rising_cond (open_below c n) n (is_open (c (gate_path n))) (open_rises c n) (λ g has. (open_has c n g has).0)

heads : (x y : ℕ) (xs ys : List ℕ) → IsRising (x ∷ xs) → IsRising (y ∷ ys) → Has (y ∷ ys) x → Has (x ∷ xs) y → x ≡ y
heads x y xs ys rx ry (inl e) there = sym e
heads x y xs ys rx ry (inr h) (inl e) = e
heads x y xs ys rx ry (inr h) (inr k) = absurd (let a = ry.0 x h in let b = rx.0 y k in omega arith)

tail_in : (x : ℕ) (xs ys : List ℕ) (y g : ℕ) → IsRising (x ∷ xs) → x ≡ y → Has xs g → Has (y ∷ ys) g → Has ys g
tail_in x xs ys y g rise same has (inl e) = absurd (let lt = rise.0 g has in omega arith)
tail_in x xs ys y g rise same has (inr k) = k

pub same_list : (xs ys : List ℕ) → IsRising xs → IsRising ys → ((g : ℕ) → Has xs g → Has ys g) → ((g : ℕ) → Has ys g → Has xs g) → xs ≡ ys
same_list [] [] rx ry to back = refl
same_list [] (y ∷ ys) rx ry to back = absurd (back y (inl refl))
same_list (x ∷ xs) [] rx ry to back = absurd (to x (inl refl))
same_list (x ∷ xs) (y ∷ ys) rx ry to back =
    let head = heads x y xs ys rx ry (to x (inl refl)) (back y (inl refl)) in
    let tail = same_list xs ys rx.1 ry.1 (λ g has. tail_in x xs ys y g rx head has (to g (inr has))) (λ g has. tail_in y ys xs x g ry (sym head) has (back g (inr has))) in
    cc

pub open_groups_has : (c : Map) (g : ℕ) → Has (open_groups c) g ↔ Opens c (2 ^ 32) g
unfolding open_groups
open_groups_has c g = (open_has c (2 ^ 32) g, has_open c (2 ^ 32) g)

pub open_groups_rise : (c : Map) → IsRising (open_groups c)
unfolding open_groups
open_groups_rise c = open_rises c (2 ^ 32)

pub open_groups_only : (c : Map) (gs : List ℕ) → IsRising gs → ((g : ℕ) → Has gs g ↔ Opens c (2 ^ 32) g) → gs ≡ open_groups c
open_groups_only c gs rise same =
    same_list gs (open_groups c) rise (open_groups_rise c) (λ g has. (open_groups_has c g).1 ((same g).0 has)) (λ g has. (same g).1 ((open_groups_has c g).0 has))

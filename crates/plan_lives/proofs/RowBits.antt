-- What reaches a group: itself, and what reaches those that it is after.
use Rattle.std.proofs.Common.{◌≡◌, ◌⊎◌, ◌↔◌, ◌<◌, ◌||◌, ◌∙◌, ℕ, Bool, true, false, List, [], ◌∷◌, ◌++◌, length, get_or, nat_eq, inl, inr, refl, sym, ap, subst, eq-eqb, arith, length-append}
use Rattle.std.proofs.Math.ListN.{get_or-append}
use Rattle.std.proofs.Math.Seq.{get_or-append_seam}
use Rattle.std.proofs.lemmas.Bool.{cases_lt, or_cases, or_left, or_right}
use Rattle.basics.specs.Members.{Has}
use Rattle.plan_law.specs.Plans.{Group, Reaches, before, group_at, itself}
use Rattle.plan_lives.specs.Reaching.{AreRows, has_bit, some_row}
use Rattle.plan_lives.proofs.Bits.{eq_true}

pub prepended : (plan : List Group) (g k : ℕ) → Has (group_at plan g).after k → (h : ℕ) → Reaches plan k h → Reaches plan g h
prepended plan g k hk h itself = before g k hk itself
prepended plan g k hk h (before a b w p) = before a b w (prepended plan g k hk a p)

pub fronted : (plan : List Group) (g h : ℕ) → Reaches plan g h → (h ≡ g) ⊎ ((k : ℕ) × Has (group_at plan g).after k × Reaches plan k h)
fronted plan g h itself = inl refl
fronted plan g h (before a b w p) = elim (fronted plan g a p) [
  | inl e ↦ inr (b, subst (λ (n : ℕ). Has (group_at plan n).after b) e w, itself)
  | inr k ↦ inr (k.0, k.1, before a b w k.2)
]

some_has : (rows : List (List ℕ)) (hs : List ℕ) (k : ℕ) → some_row rows hs k ≡ true → (h : ℕ) × Has hs h × (has_bit (get_or rows h []) k ≡ true)
some_has rows [] k e = cc
some_has rows (h ∷ hs) k e = elim (or_cases (has_bit (get_or rows h []) k) (some_row rows hs k) e) [ inl t ↦ (h, inl refl, t) | inr t ↦ let r = some_has rows hs k t in (r.0, inr r.1, r.2) ]

has_some : (rows : List (List ℕ)) (hs : List ℕ) (k h : ℕ) → Has hs h → has_bit (get_or rows h []) k ≡ true → some_row rows hs k ≡ true
has_some rows [] k h i e = absurd i
has_some rows (x ∷ hs) k h (inl i) e = or_left (has_bit (get_or rows x []) k) (some_row rows hs k) (subst (λ n. has_bit (get_or rows n []) k ≡ true) (sym i) e)
has_some rows (x ∷ hs) k h (inr i) e = or_right (has_bit (get_or rows x []) k) (some_row rows hs k) (has_some rows hs k h i e)

-- the next row is right
pub row_right : (plan : List Group) (width g : ℕ) (rows : List (List ℕ)) (row : List ℕ) → AreRows plan width rows → ((k : ℕ) → Has (group_at plan g).after k → k < length rows) → ((k : ℕ) → has_bit row k ≡ (some_row rows (group_at plan g).after k || nat_eq k g)) → (h : ℕ) → (has_bit row h ≡ true) ↔ Reaches plan g h
row_right plan width g rows row right below bits h = (
  λ t. elim (or_cases (some_row rows (group_at plan g).after h) (nat_eq h g) (sym (bits h) ∙ t)) [
    | inl s ↦ let r = some_has rows (group_at plan g).after h s in prepended plan g r.0 r.1 h ((right.marks r.0 h (below r.0 r.1)).0 r.2)
    | inr e ↦ subst (λ n. Reaches plan g n) (sym (eq_true h g e)) itself
  ],
  λ p. bits h ∙ elim (fronted plan g h p) [
    | inl e ↦ or_right (some_row rows (group_at plan g).after h) (nat_eq h g) (eq-eqb h g e)
    | inr k ↦ or_left (some_row rows (group_at plan g).after h) (nat_eq h g) (has_some rows (group_at plan g).after h k.0 k.1 ((right.marks k.0 h (below k.0 k.1)).1 k.2))
  ],
)

pub shuffled : (s r o : Bool) → (s || (r || o)) ≡ ((o || s) || r)
shuffled true true true = refl
shuffled true true false = refl
shuffled true false true = refl
shuffled true false false = refl
shuffled false true true = refl
shuffled false true false = refl
shuffled false false true = refl
shuffled false false false = refl

at_end : (rows : List (List ℕ)) (row : List ℕ) (g : ℕ) → g < length (rows ++ row ∷ []) → ((g < length rows) × (get_or (rows ++ row ∷ []) g [] ≡ get_or rows g [])) ⊎ ((g ≡ length rows) × (get_or (rows ++ row ∷ []) g [] ≡ row))
at_end rows row g within = elim (cases_lt g (length rows)) [
  | inl less ↦ inl (less, get_or-append rows (row ∷ []) [] g less)
  | inr past ↦ let e : g ≡ length rows = omega (arith, within, past, length-append rows (row ∷ [])) in inr (e, ap (λ n. get_or (rows ++ row ∷ []) n []) e ∙ get_or-append_seam rows row [] [])
]

-- one right row more
pub rows_pushed : (plan : List Group) (width : ℕ) (rows : List (List ℕ)) (row : List ℕ) → AreRows plan width rows → length row ≡ width → ((h : ℕ) → (has_bit row h ≡ true) ↔ Reaches plan (length rows) h) → AreRows plan width (rows ++ row ∷ [])
rows_pushed plan width rows row right long marked = record {
  wide = λ g within. elim (at_end rows row g within) [ inl k ↦ rw k.1 (right.wide g k.0) | inr k ↦ rw k.1 long ];
  marks = λ g h within. elim (at_end rows row g within) [ inl k ↦ rw k.1 (right.marks g h k.0) | inr k ↦ rw (k.1, k.0) (marked h) ];
}

-- Packages on one line.
use Rattle.std.proofs.Common.{◌≡◌, ◌⊎◌, ◌∙◌, ℕ, List, [], ◌∷◌, ◌++◌, refl, ap, sym, subst, inl, inr, append_assoc}
use Rattle.std.specs.Prelude.{bytes_eq}
use Rattle.std.proofs.lemmas.Bool.{cases_Bool, both_ways}
use Rattle.std.proofs.lemmas.List.{append-nil}
use Rattle.std.proofs.lemmas.Slice.Eq.{bytes_eq-Decides}
use Rattle.basics.specs.Members.{Has}
use Rattle.basics.proofs.Membership.{has-append_cases, has-map, has-map_back}
use Rattle.pkg_state.specs.Package.{Package, line_of, lines_of}
use Rattle.pkg_state.specs.Consistent.{AreApart}
use Rattle.pkg_state.specs.Fault.{AreFirstTwins}

abbrev line : Package → List ℕ
line p = line_of p.facts

-- the texts are members of the list, or not
has_or_not : (xs : List (List ℕ)) (x : List ℕ) → Has xs x ⊎ (Has xs x → ⊥)
has_or_not [] x = inr (λ h. h)
has_or_not (y ∷ xs) x = elim (cases_Bool (bytes_eq y x)) [
  | inl e ↦ inl (inl ((bytes_eq-Decides y x).0 e))
  | inr e ↦ elim (has_or_not xs x) [
    | inl h ↦ inl (inr h)
    | inr h ↦ inr (λ (has : (y ≡ x) ⊎ Has xs x). elim has [ inl same ↦ both_ways (bytes_eq y x) e ((bytes_eq-Decides y x).1 same) | inr later ↦ h later ])
  ]
]

-- one more on a line of its own
pub apart_push : (ps : List Package) (q : Package) → AreApart ps → (Has (lines_of ps) (line q) → ⊥) → AreApart (ps ++ q ∷ [])
apart_push [] q h n = ((λ none. none), tt)
apart_push (p ∷ ps) q h n = (
  (λ has. let r = has-map_back line (ps ++ q ∷ []) (line p) has in
      elim (has-append_cases ps (q ∷ []) r.0 r.1) [
        | inl before ↦ h.0 (subst (λ (l : List ℕ). Has (lines_of ps) l) r.2 (has-map line ps r.0 before))
        | inr now ↦ elim now [ inl same ↦ n (inl (sym r.2 ∙ ap line (sym same))) | inr none ↦ none ]
      ]),
  apart_push ps q h.1 (λ has. n (inr has)),
)

-- packages of two lists that are apart aren't on one line
pub not_twice : (front : List Package) (q : Package) (back : List Package) (p : Package) → AreApart (front ++ q ∷ back) → Has front p → line p ≡ line q → ⊥
not_twice [] q back p h has e = has
not_twice (x ∷ front) q back p h (inl same) e =
    h.0 (subst (λ (l : List ℕ). Has (lines_of (front ++ q ∷ back)) l) (sym (ap line same ∙ e)) (here front)) where
      here : (front : List Package) → Has (lines_of (front ++ q ∷ back)) (line q)
      here [] = inl refl
      here (y ∷ ys) = inr (here ys)
not_twice (x ∷ front) q back p h (inr has) e = not_twice front q back p h.1 has e

-- on a line stands one
pub one_on_line : (ps : List Package) (p q : Package) → AreApart ps → Has ps p → Has ps q → line p ≡ line q → p ≡ q
one_on_line [] p q h hp hq e = absurd hp
one_on_line (x ∷ ps) p q h (inl a) (inl b) e = sym a ∙ b
one_on_line (x ∷ ps) p q h (inl a) (inr b) e = absurd (h.0 (subst (λ (l : List ℕ). Has (lines_of ps) l) (sym e ∙ ap line (sym a)) (has-map line ps q b)))
one_on_line (x ∷ ps) p q h (inr a) (inl b) e = absurd (h.0 (subst (λ (l : List ℕ). Has (lines_of ps) l) (e ∙ ap line (sym b)) (has-map line ps p a)))
one_on_line (x ∷ ps) p q h (inr a) (inr b) e = one_on_line ps p q h.1 a b e

-- packages with twins aren't apart
pub twins_not_apart : (ps : List Package) (p q : Package) → AreApart ps → AreFirstTwins ps p q → ⊥
twins_not_apart ps p q h t = not_twice t.front q t.back p (subst (λ (l : List Package). AreApart l) t.is h) t.has t.twin

-- two ways to cut a list: at one place, or one cut in front of the other
data Cut (f g : List Package) (p q : Package) : Type 0 where
  same : f ≡ g → p ≡ q → Cut f g p q
  first : (r : List Package) → g ≡ f ++ p ∷ r → Cut f g p q
  second : (r : List Package) → f ≡ g ++ q ∷ r → Cut f g p q

cuts : (f g : List Package) (p q : Package) (b c : List Package) → f ++ p ∷ b ≡ g ++ q ∷ c → Cut f g p q
cuts [] [] p q b c e = same refl (cc e)
cuts [] (y ∷ g) p q b c e = first g (ap (λ (x : Package). x ∷ g) (let s : p ≡ y = cc e in sym s))
cuts (x ∷ f) [] p q b c e = second f (ap (λ (z : Package). z ∷ f) (let s : x ≡ q = cc e in s))
cuts (x ∷ f) (y ∷ g) p q b c e =
    let heads : x ≡ y = cc e in
    elim (cuts f g p q b c (let tails : f ++ p ∷ b ≡ g ++ q ∷ c = cc e in tails)) [
      | same a b ↦ same (cons heads a) b
      | first r a ↦ first r (cons (sym heads) a)
      | second r a ↦ second r (cons heads a)
    ] where
      cons : {a b : Package} {ps qs : List Package} → a ≡ b → ps ≡ qs → a ∷ ps ≡ b ∷ qs
      cons e h i = e i ∷ h i

-- the first twins are one pair
pub one_pair : (ps : List Package) (p q r s : Package) → AreFirstTwins ps p q → AreFirstTwins ps r s → (p ≡ r) × (q ≡ s)
one_pair ps p q r s t u = elim (cuts t.front u.front q s t.back u.back (sym t.is ∙ u.is)) [
  | same a b ↦ (one_on_line t.front p r t.apart t.has (subst (λ (l : List Package). Has l r) (sym a) u.has) (t.twin ∙ (ap line b ∙ sym u.twin)), b)
  | first l a ↦ absurd (not_twice t.front q l p (subst (λ (l : List Package). AreApart l) a u.apart) t.has t.twin)
  | second l a ↦ absurd (not_twice u.front s l r (subst (λ (l : List Package). AreApart l) a t.apart) u.has u.twin)
]

-- packages are apart, or have first twins
go_on : (front back : List Package) → AreApart front → AreApart (front ++ back) ⊎ ((p q : Package) × AreFirstTwins (front ++ back) p q)
go_on front [] h = inl (subst (λ (l : List Package). AreApart l) (sym (append-nil front)) h)
go_on front (q ∷ back) h = elim (has_or_not (lines_of front) (line q)) [
  | inl has ↦ inr (let r = has-map_back line front (line q) has in
      (r.0, q, record { front = front; back = back; is = refl; apart = h; has = r.1; twin = r.2 }))
  | inr none ↦ subst (λ (l : List Package). AreApart l ⊎ ((p q : Package) × AreFirstTwins l p q)) (append_assoc front (q ∷ []) back) (go_on (front ++ q ∷ []) back (apart_push front q h none))
]

pub apart_or_twins : (ps : List Package) → AreApart ps ⊎ ((p q : Package) × AreFirstTwins ps p q)
apart_or_twins ps = go_on [] ps tt

-- A wish at its place among the others.
use Rattle.std.proofs.Common.{◌≡◌, ◌<◌, ◌⊎◌, ◌++◌, ◌∙◌, ℕ, Bool, true, false, cond, List, [], ◌∷◌, Some, length, take, inl, inr, refl, sym, ap, arith, length-append}
use Rattle.std.specs.Prelude.{bytes_eq, is_some, slice_get}
use Rattle.std.proofs.lemmas.Bool.{both_ways, cases_Bool}
use Rattle.std.proofs.lemmas.Slice.Eq.{bytes_eq-Decides}
use Rattle.std.proofs.lemmas.Option.{same_Some}
use Rattle.basics.specs.Members.{Has}
use Rattle.merge_record.specs.declared.record.OwnerKey.{OwnerKey}
use Rattle.owner_book.specs.Book.{is_wished, key_in}
use Rattle.owner_book.specs.declared.wish.Wish.{Wish}

-- the wish stands behind these
pub record IsBehind (ws before : List Wish) (w : Wish) : Type 0 where
  pub after : List Wish
  pub whole : ws ≡ before ++ w ∷ after

pub place_of : (ws : List Wish) (w : Wish) → Has ws w → (before : List Wish) × IsBehind ws before w
place_of [] w has = absurd has
place_of (x ∷ ws) w (inl e) = ([], record { after = ws; whole = ap (λ (y : Wish). y ∷ ws) e })
place_of (x ∷ ws) w (inr has) =
    let k = place_of ws w has in
    (x ∷ k.0, record { after = k.1.after; whole = ap (λ (l : List Wish). x ∷ l) k.1.whole })

pub get_there : (before after : List Wish) (w : Wish) → slice_get (before ++ w ∷ after) (length before) ≡ Some w
get_there [] after w = refl
get_there (x ∷ before) after w = get_there before after w

pub take_there : (before after : List Wish) (w : Wish) → take (length before) (before ++ w ∷ after) ≡ before
take_there [] after w = refl
take_there (x ∷ before) after w = ap (λ (l : List Wish). x ∷ l) (take_there before after w)

pub place_within : (before after : List Wish) (w : Wish) → length before < length (before ++ w ∷ after)
place_within before after w = omega (arith, length-append before (w ∷ after))

key_step : (x : Wish) (ws : List Wish) (q : List ℕ) (b : Bool) → bytes_eq q x.path ≡ b → key_in (x ∷ ws) q ≡ cond b (Some x.owner) (key_in ws q)
key_step x ws q b e = ap (λ (c : Bool). cond c (Some x.owner) (key_in ws q)) e

-- each wish's path is wished
pub wished_if_has : (ws : List Wish) (w : Wish) → Has ws w → is_wished ws w.path ≡ true
wished_if_has [] w has = absurd has
wished_if_has (x ∷ ws) w (inl e) =
    ap is_some (key_step x ws w.path true ((bytes_eq-Decides w.path x.path).1 (ap (λ (y : Wish). y.path) (sym e))))
wished_if_has (x ∷ ws) w (inr has) = elim (cases_Bool (bytes_eq w.path x.path)) [
  | inl same ↦ ap is_some (key_step x ws w.path true same)
  | inr other ↦ ap is_some (key_step x ws w.path false other) ∙ wished_if_has ws w has
]

-- two wishes are one, or one stands behind the other
pub record Comes (ws : List Wish) (w v : Wish) : Type 0 where
  pub before : List Wish
  pub behind : IsBehind ws before v
  pub earlier : Has before w

pub one_first : (ws : List Wish) (w v : Wish) → Has ws w → Has ws v → (w ≡ v) ⊎ (Comes ws w v ⊎ Comes ws v w)
one_first [] w v has other = absurd has
one_first (x ∷ ws) w v (inl a) (inl b) = inl (sym a ∙ b)
one_first (x ∷ ws) w v (inl a) (inr b) =
    let k = place_of ws v b in
    inr (inl (record { before = x ∷ k.0; behind = record { after = k.1.after; whole = ap (λ (l : List Wish). x ∷ l) k.1.whole }; earlier = inl a }))
one_first (x ∷ ws) w v (inr a) (inl b) =
    let k = place_of ws w a in
    inr (inr (record { before = x ∷ k.0; behind = record { after = k.1.after; whole = ap (λ (l : List Wish). x ∷ l) k.1.whole }; earlier = inl b }))
one_first (x ∷ ws) w v (inr a) (inr b) = elim (one_first ws w v a b) [
  | inl same ↦ inl same
  | inr (inl c) ↦ inr (inl (further c))
  | inr (inr c) ↦ inr (inr (further c))
] where
  further : {y z : Wish} → Comes ws y z → Comes (x ∷ ws) y z
  further c = record { before = x ∷ c.before; behind = record { after = c.behind.after; whole = ap (λ (l : List Wish). x ∷ l) c.behind.whole }; earlier = inr c.earlier }

-- a path that is wished has a wish
pub wish_if_wished : (ws : List Wish) (q : List ℕ) (k : OwnerKey) → key_in ws q ≡ Some k → (w : Wish) × Has ws w × (w.path ≡ q) × (w.owner ≡ k)
wish_if_wished [] q k e = absurd (cc e)
wish_if_wished (x ∷ ws) q k e = elim (cases_Bool (bytes_eq q x.path)) [
  | inl same ↦ (x, inl refl, sym ((bytes_eq-Decides q x.path).0 same), same_Some x.owner k (sym (key_step x ws q true same) ∙ e))
  | inr other ↦ (let r = wish_if_wished ws q k (sym (key_step x ws q false other) ∙ e) in (r.0, inr r.1, r.2, r.3))
]

-- the one wish for a path names its owner
pub key_of_one : (ws : List Wish) (w : Wish) → Has ws w → ((v : Wish) → Has ws v → v.path ≡ w.path → v ≡ w) → key_in ws w.path ≡ Some w.owner
key_of_one [] w has one = absurd has
key_of_one (x ∷ ws) w has one = elim (cases_Bool (bytes_eq w.path x.path)) [
  | inl same ↦ key_step x ws w.path true same ∙ ap (λ (y : Wish). Some y.owner) (one x (inl refl) (sym ((bytes_eq-Decides w.path x.path).0 same)))
  | inr other ↦ key_step x ws w.path false other ∙ elim has [
    | inl e ↦ absurd (both_ways (bytes_eq w.path x.path) other ((bytes_eq-Decides w.path x.path).1 (ap (λ (y : Wish). y.path) (sym e))))
    | inr later ↦ key_of_one ws w later (λ v hv. one v (inr hv))
  ]
]

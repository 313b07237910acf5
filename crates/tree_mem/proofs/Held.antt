-- The map that a list of items is, after an item goes in or out.
use Rattle.std.proofs.Common.{◌≡◌, ◌∙◌, ℕ, ◌<◌, suc, Bool, true, false, cond, List, [], ◌∷◌, ◌++◌, Option, Some, None, inl, inr, length, take, drop, get_or, set, sym, refl, ap, subst}
use Rattle.std.specs.Prelude.{bytes_eq, insert, remove}
use Rattle.std.specs.declared.cmp.Ordering.TheVariants.{Less, Equal}
use Rattle.std.specs.Ordering.{is_eq}
use Rattle.std.proofs.lemmas.Map.Text.{is_eq-slice_cmp}
use Rattle.std.proofs.lemmas.List.{get_or_default, set_split, take-append-drop}
use Rattle.std.proofs.Math.Seq.{split_at}
use Rattle.std.specs.Prelude.{◌↔◌, Contains}
use Rattle.basics.specs.Members.{AreDistinct, Has}
use Rattle.file_tree.specs.ObjectValue.{ObjectValue}
use Rattle.file_tree.specs.Disk.{with_path}
use Rattle.tree_mem.specs.Items.{Item, path_cmp, paths, held, AllBelow, AllAbove, IsRising, StandsAt, GoesAt}
use Rattle.tree_mem.proofs.Order.{less-irrefl, bytes_eq-less, bytes_eq-greater, AllBelow-front, AllAbove-back, IsRising-insert, IsRising-without}
use Rattle.basics.proofs.Texts.{bytes_eq-same, same_text}
use Rattle.basics.proofs.Membership.{contains-from_has, has-from_contains}

-- two choices of which at most one applies, in either order
pub cond-swap : {A : Type 0} (a b : Bool) (x y z : A) → (a ≡ true → b ≡ true → ⊥) → cond a x (cond b y z) ≡ cond b y (cond a x z)
cond-swap true true x y z n = absurd (n refl refl)
cond-swap true false x y z n = refl
cond-swap false true x y z n = refl
cond-swap false false x y z n = refl

-- a choice made twice
pub cond-twice : {A : Type 0} (b : Bool) (x y z : A) → cond b x (cond b y z) ≡ cond b x z
cond-twice true x y z = refl
cond-twice false x y z = refl

pub apart : (p q r : List ℕ) → path_cmp p q ≡ Less → bytes_eq p r ≡ true → bytes_eq q r ≡ true → ⊥
apart p q r h a b =
    let same : q ≡ p = same_text q r b ∙ sym (same_text p r a) in
    less-irrefl p (subst (λ (y : List ℕ). path_cmp p y ≡ Less) same h)

pub held-insert : (xs ys : List Item) (p : List ℕ) (t : ObjectValue) (q : List ℕ) → AllBelow p xs → held (xs ++ (p, t) ∷ ys) q ≡ cond (bytes_eq p q) (Some t) (held (xs ++ ys) q)
held-insert [] ys p t q b = refl
held-insert (x ∷ xs) ys p t q b =
    ap (cond (bytes_eq x.0 q) (Some x.1)) (held-insert xs ys p t q b.1)
    ∙ cond-swap (bytes_eq x.0 q) (bytes_eq p q) (Some x.1) (Some t) (held (xs ++ ys) q) (apart x.0 p q b.0)

pub held-above : (p : List ℕ) (ys : List Item) → AllAbove p ys → held ys p ≡ None
held-above p [] a = refl
held-above p (y ∷ ys) a = ap (λ (b : Bool). cond b (Some y.1) (held ys p)) (bytes_eq-greater p y.0 a.0) ∙ held-above p ys a.1

pub held-skip : (p : List ℕ) (xs ys : List Item) → AllBelow p xs → held (xs ++ ys) p ≡ held ys p
held-skip p [] ys b = refl
held-skip p (x ∷ xs) ys b = ap (λ (c : Bool). cond c (Some x.1) (held (xs ++ ys) p)) (bytes_eq-less x.0 p b.0) ∙ held-skip p xs ys b.1

-- a path that stands nowhere is held as nothing: taking its item out is writing nothing to it
pub held-without : (xs ys : List Item) (p : List ℕ) (t : ObjectValue) (q : List ℕ) → AllBelow p xs → AllAbove p ys → held (xs ++ ys) q ≡ cond (bytes_eq p q) None (held (xs ++ (p, t) ∷ ys) q)
held-without xs ys p t q b a = go (bytes_eq p q) refl
  where
    go : (c : Bool) → bytes_eq p q ≡ c → held (xs ++ ys) q ≡ cond c None (held (xs ++ (p, t) ∷ ys) q)
    go true e = subst (λ (r : List ℕ). held (xs ++ ys) r ≡ None) (same_text p q e) (held-skip p xs ys b ∙ held-above p ys a)
    go false e = sym (held-insert xs ys p t q b ∙ ap (λ (c : Bool). cond c (Some t) (held (xs ++ ys) q)) e)

pub held-at : (xs ys : List Item) (p : List ℕ) (t : ObjectValue) → AllBelow p xs → held (xs ++ (p, t) ∷ ys) p ≡ Some t
held-at xs ys p t b = held-insert xs ys p t p b ∙ ap (λ (c : Bool). cond c (Some t) (held (xs ++ ys) p)) (bytes_eq-same p)

-- a list around the item that has p
pub around : (es : List Item) (p : List ℕ) (at : ℕ) (s : StandsAt es p at) → es ≡ take at es ++ (p, s.object) ∷ drop (suc at) es
around es p at s = split_at es at (p, s.object) s.in_range ∙ ap (λ (e : Item). take at es ++ e ∷ drop (suc at) es) (s.here (p, s.object))

pub held-found : (es : List Item) (p : List ℕ) (at : ℕ) → IsRising es → (s : StandsAt es p at) → held es p ≡ Some s.object
held-found es p at r s =
    let e = around es p at s in
    let low = AllBelow-front (take at es) (drop (suc at) es) (p, s.object) (subst IsRising e r) in
    ap (λ (x : List Item). held x p) e ∙ held-at (take at es) (drop (suc at) es) p s.object low

pub held-missing : (es : List Item) (p : List ℕ) (at : ℕ) → GoesAt es p at → held es p ≡ None
held-missing es p at g =
    ap (λ (x : List Item). held x p) (sym (take-append-drop at es)) ∙ held-skip p (take at es) (drop at es) g.below ∙ held-above p (drop at es) g.above

-- an item goes to its place
pub held-placed : (es : List Item) (p : List ℕ) (t : ObjectValue) (at : ℕ) → GoesAt es p at → held (insert es at (p, t)) ≡ with_path (held es) p (Some t)
held-placed es p t at g = λ i q. (held-insert (take at es) (drop at es) p t q g.below ∙ ap (λ (x : List Item). cond (bytes_eq p q) (Some t) (held x q)) (take-append-drop at es)) i

pub IsRising-placed : (es : List Item) (p : List ℕ) (t : ObjectValue) (at : ℕ) → IsRising es → GoesAt es p at → IsRising (insert es at (p, t))
IsRising-placed es p t at r g = IsRising-insert (take at es) (drop at es) (p, t) (subst IsRising (sym (take-append-drop at es)) r) g.below g.above

-- an item takes the place of the one that has its path
pub held-replaced : (es : List Item) (p : List ℕ) (t : ObjectValue) (at : ℕ) → IsRising es → StandsAt es p at → held (set es at (p, t)) ≡ with_path (held es) p (Some t)
held-replaced es p t at r s =
    let e = around es p at s in
    let low = AllBelow-front (take at es) (drop (suc at) es) (p, s.object) (subst IsRising e r) in
    λ i q. (ap (λ (x : List Item). held x q) (set_split es at (p, t) s.in_range)
    ∙ held-insert (take at es) (drop (suc at) es) p t q low
    ∙ sym (cond-twice (bytes_eq p q) (Some t) (Some s.object) (held (take at es ++ drop (suc at) es) q))
    ∙ ap (cond (bytes_eq p q) (Some t)) (sym (held-insert (take at es) (drop (suc at) es) p s.object q low))
    ∙ ap (λ (x : List Item). cond (bytes_eq p q) (Some t) (held x q)) (sym e)) i

pub IsRising-replaced : (es : List Item) (p : List ℕ) (t : ObjectValue) (at : ℕ) → IsRising es → StandsAt es p at → IsRising (set es at (p, t))
IsRising-replaced es p t at r s =
    let up = subst IsRising (around es p at s) r in
    let low = AllBelow-front (take at es) (drop (suc at) es) (p, s.object) up in
    let high = AllAbove-back (take at es) (drop (suc at) es) (p, s.object) up in
    subst IsRising (sym (set_split es at (p, t) s.in_range)) (IsRising-insert (take at es) (drop (suc at) es) (p, t) (IsRising-without (take at es) (drop (suc at) es) (p, s.object) up) low high)

-- the item that has the path goes out
pub held-removed : (es : List Item) (p : List ℕ) (at : ℕ) → IsRising es → StandsAt es p at → held (remove es at) ≡ with_path (held es) p None
held-removed es p at r s =
    let e = around es p at s in
    let up = subst IsRising e r in
    let low = AllBelow-front (take at es) (drop (suc at) es) (p, s.object) up in
    let high = AllAbove-back (take at es) (drop (suc at) es) (p, s.object) up in
    λ i q. (held-without (take at es) (drop (suc at) es) p s.object q low high ∙ ap (λ (x : List Item). cond (bytes_eq p q) None (held x q)) (sym e)) i

pub IsRising-removed : (es : List Item) (p : List ℕ) (at : ℕ) → IsRising es → StandsAt es p at → IsRising (remove es at)
IsRising-removed es p at r s = IsRising-without (take at es) (drop (suc at) es) (p, s.object) (subst IsRising (around es p at s) r)

-- the item in the middle has the path
pub stands : (es : List Item) (m : ℕ) (e : Item) (p : List ℕ) → m < length es → e ≡ get_or es m e → path_cmp e.0 p ≡ Equal → StandsAt es p m
stands es m e p lt at h =
    let same : e.0 ≡ p = same_text e.0 p (sym (is_eq-slice_cmp e.0 p) ∙ ap is_eq h) in
    record {
      object = e.1;
      in_range = lt;
      here = λ d. get_or_default es m d e lt ∙ sym at ∙ ap (λ (q : List ℕ). let r : Item = (q, e.1) in r) same;
    }

-- what was read at the place of a path is what the path held
pub Some-taken : (es : List Item) (p : List ℕ) (at : ℕ) (e : Item) → IsRising es → StandsAt es p at → e ≡ get_or es at e → Some e.1 ≡ held es p
Some-taken es p at e r s h = ap (λ (y : Item). Some y.1) (h ∙ s.here e) ∙ sym (held-found es p at r s)

-- nothing is written to a path that holds nothing
pub held-cleared : (m : List ℕ → Option ObjectValue) (p : List ℕ) → m p ≡ None → m ≡ with_path m p None
held-cleared m p h = λ i q. go (bytes_eq p q) q refl i
  where
    go : (c : Bool) (q : List ℕ) → bytes_eq p q ≡ c → m q ≡ cond c None (m q)
    go true q e = subst (λ (r : List ℕ). m r ≡ None) (same_text p q e) h
    go false q e = refl

-- the item at the place of a path is what the path holds
pub Some-here : (es : List Item) (p : List ℕ) (at : ℕ) (d : Item) → IsRising es → StandsAt es p at → Some (get_or es at d).1 ≡ held es p
Some-here es p at d r s = ap (λ (y : Item). Some y.1) (s.here d) ∙ sym (held-found es p at r s)

-- the items of a list whose paths are distinct are what its map has
Has-paths : (es : List Item) (p : List ℕ) (x : ObjectValue) → Has es (p, x) → Has (paths es) p
Has-paths [] p x h = h
Has-paths (e ∷ es) p x (inl same) = inl (ap (λ (y : Item). y.0) same)
Has-paths (e ∷ es) p x (inr h) = inr (Has-paths es p x h)

pub held-from_has : (es : List Item) (p : List ℕ) (x : ObjectValue) → AreDistinct (paths es) → Has es (p, x) → held es p ≡ Some x
held-from_has [] p x d h = absurd h
held-from_has (e ∷ es) p x d (inl same) = subst (λ (y : Item). held (e ∷ es) y.0 ≡ Some y.1) same (ap (λ (b : Bool). cond b (Some e.1) (held es e.0)) (bytes_eq-same e.0))
held-from_has (e ∷ es) p x d (inr h) = go (bytes_eq e.0 p) refl (held-from_has es p x d.1 h)
  where
    go : (b : Bool) → bytes_eq e.0 p ≡ b → held es p ≡ Some x → cond b (Some e.1) (held es p) ≡ Some x
    go true eq rec = absurd (d.0 (subst (Has (paths es)) (sym (same_text e.0 p eq)) (Has-paths es p x h)))
    go false eq rec = rec

pub has-from_held : (es : List Item) (p : List ℕ) (x : ObjectValue) → held es p ≡ Some x → Has es (p, x)
has-from_held [] p x h = cc
has-from_held (e ∷ es) p x h = go (bytes_eq e.0 p) refl h (has-from_held es p x)
  where
    go : (b : Bool) → bytes_eq e.0 p ≡ b → cond b (Some e.1) (held es p) ≡ Some x → (held es p ≡ Some x → Has es (p, x)) → Has (e ∷ es) (p, x)
    go true eq h rec = let same = same_text e.0 p eq in let thing : e.1 ≡ x = cc in inl (λ i. (same i, thing i))
    go false eq h rec = inr (rec h)

AllAbove-fresh : (p : List ℕ) (es : List Item) → AllAbove p es → Has (paths es) p → ⊥
AllAbove-fresh p [] a h = absurd h
AllAbove-fresh p (e ∷ es) a (inl same) = less-irrefl p (subst (λ (y : List ℕ). path_cmp p y ≡ Less) same a.0)
AllAbove-fresh p (e ∷ es) a (inr h) = AllAbove-fresh p es a.1 h

pub AreDistinct-rising : (es : List Item) → IsRising es → AreDistinct (paths es)
AreDistinct-rising [] r = tt
AreDistinct-rising (e ∷ es) r = (AllAbove-fresh e.0 es r.0, AreDistinct-rising es r.1)

pub contains-distinct : (es : List Item) (p : List ℕ) (x : ObjectValue) → AreDistinct (paths es) → Contains es (p, x) ↔ (held es p ≡ Some x)
contains-distinct es p x d = (λ h. held-from_has es p x d (has-from_contains es (p, x) h), λ h. contains-from_has es (p, x) (has-from_held es p x h))

pub contains-held : (es : List Item) (p : List ℕ) (x : ObjectValue) → IsRising es → Contains es (p, x) ↔ (held es p ≡ Some x)
contains-held es p x r = contains-distinct es p x (AreDistinct-rising es r)

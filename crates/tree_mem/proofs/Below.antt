-- What stands below a path stands together in a rising list.
use Rattle.std.specs.Prelude.{bytes_eq, nat_eq, slice_index, ◌==◌, ◌&&◌, IsSome, IsTrue, Contains}
use Rattle.std.proofs.Common.{◌≡◌, ◌∙◌, ◌⊎◌, ℕ, ◌<◌, ◌≤◌, ◌-◌, suc, Bool, true, false, cond, eqb, List, [], ◌∷◌, ◌++◌, Some, length, take, drop, get_or, inl, inr, sym, refl, ap, subst, arith}
use Rattle.std.specs.declared.cmp.Ordering.{Ordering}
use Rattle.std.specs.declared.cmp.Ordering.TheVariants.{Less, Equal, Greater}
use Rattle.std.specs.Ordering.{nat_cmp, ordering_then}
use Rattle.std.specs.List.{starts_with}
use Rattle.std.specs.Cmp.Lexicographic.{slice_cmp}
use Rattle.std.proofs.lemmas.Cmp.{nat_eq_equiv, ranked}
use Rattle.std.proofs.lemmas.List.{take-append-drop}
use Rattle.std.proofs.lemmas.List.{length-drop, get_or-drop, get_or_default}
use Rattle.std.proofs.Math.Seq.{drop-cons}
use Rattle.std.specs.List.{AllByRecursion}
use Rattle.std.specs.List.Sorted.{IsStrictlySortedBy}
use Rattle.std.specs.Prelude.{◌↔◌}
use Rattle.std.proofs.lemmas.Grind.{common_steps}
use Rattle.basics.specs.Members.{Has}
use Rattle.file_tree.specs.Disk.{HasBelow}
use Rattle.file_tree.specs.Paths.{is_below}
use Rattle.tree_mem.specs.Items.{Item, path_cmp, paths, held, front, AllBelow, AllAbove, NoneBelow, IsRising, GoesAt, StandsAt, StartsAt}
use Rattle.tree_mem.proofs.Order.{AllBelow-front, AllAbove-back, less-irrefl, less-trans, same_path}
use Rattle.tree_mem.proofs.Held.{around, held-found, held-skip, stands}
use Rattle.basics.proofs.Texts.{bytes_eq-same, same_text}
use Rattle.basics.proofs.Membership.{contains-from_has, has-from_contains}

-- a text that begins with another is that text and a rest
pub parts : (q x : List ℕ) → starts_with nat_eq q x ≡ true → q ≡ x ++ drop (length x) q
parts q x h = sym (take-append-drop (length x) q) ∙ ap (λ (y : List ℕ). y ++ drop (length x) q) (sym (same_text x (take (length x) q) h))

pub starts_with-append : (x r : List ℕ) → starts_with nat_eq (x ++ r) x ≡ true
starts_with-append x r = subst (λ (y : List ℕ). bytes_eq x y ≡ true) (sym (take-whole x r)) (bytes_eq-same x)
  where
    take-whole : (x r : List ℕ) → take (length x) (x ++ r) ≡ x
    take-whole [] r = refl
    take-whole (a ∷ x) r = ap (λ (y : List ℕ). a ∷ y) (take-whole x r)

equal-is : (a b : ℕ) → Equal ≡ nat_cmp a b → a ≡ b
equal-is a b h = ranked a b Equal h

-- what doesn't come before a text, and comes before one that begins with it, begins with it
pub between : (x k r : List ℕ) → (path_cmp k x ≡ Less → ⊥) → path_cmp k (x ++ r) ≡ Less → (s : List ℕ) × (k ≡ x ++ s)
between [] k r n l = (k, refl)
between (a ∷ x) [] r n l = absurd (n refl)
between (a ∷ x) (c ∷ k) r n l = go (nat_cmp c a) refl n l (between x k r)
  where
    go : (o : Ordering) → o ≡ nat_cmp c a → (ordering_then o (slice_cmp nat_cmp k x) ≡ Less → ⊥) → ordering_then o (slice_cmp nat_cmp k (x ++ r)) ≡ Less
        → ((slice_cmp nat_cmp k x ≡ Less → ⊥) → slice_cmp nat_cmp k (x ++ r) ≡ Less → (s : List ℕ) × (k ≡ x ++ s)) → (s : List ℕ) × (c ∷ k ≡ a ∷ x ++ s)
    go Less e n l rec = absurd (n refl)
    go Greater e n l rec = cc
    go Equal e n l rec = let t = rec n l in let same = equal-is c a e in (t.0, let eq = t.1 in cc)

-- what comes before a text comes before each that begins with it
pub less-append : (k x r : List ℕ) → path_cmp k x ≡ Less → path_cmp k (x ++ r) ≡ Less
less-append [] [] r h = cc
less-append [] (a ∷ x) r h = refl
less-append (c ∷ k) [] r h = cc
less-append (c ∷ k) (a ∷ x) r h = go (nat_cmp c a) h (less-append k x r)
  where
    go : (o : Ordering) → ordering_then o (slice_cmp nat_cmp k x) ≡ Less → (slice_cmp nat_cmp k x ≡ Less → slice_cmp nat_cmp k (x ++ r) ≡ Less) → ordering_then o (slice_cmp nat_cmp k (x ++ r)) ≡ Less
    go Less h rec = refl
    go Equal h rec = rec h
    go Greater h rec = cc

pub AllBelow-append : (x r : List ℕ) (es : List Item) → AllBelow x es → AllBelow (x ++ r) es
AllBelow-append x r [] b = tt
AllBelow-append x r (e ∷ es) b = (less-append e.0 x r b.0, AllBelow-append x r es b.1)

pub NoneBelow-above : (x p : List ℕ) (es : List Item) → (path_cmp p x ≡ Less → ⊥) → AllAbove p es → NoneBelow x es
NoneBelow-above x p [] n a = tt
NoneBelow-above x p (e ∷ es) n a = (λ h. n (less-trans p e.0 x a.0 h), NoneBelow-above x p es n a.1)

-- what a path of a rising list holds comes after a path before the list
above-held : (p q : List ℕ) (es : List Item) → AllAbove p es → IsSome (held es q) → path_cmp p q ≡ Less
above-held p q [] a s = cc
above-held p q (e ∷ es) a s = go (bytes_eq e.0 q) refl s (above-held p q es a.1)
  where
    go : (b : Bool) → bytes_eq e.0 q ≡ b → IsSome (cond b (Some e.1) (held es q)) → (IsSome (held es q) → path_cmp p q ≡ Less) → path_cmp p q ≡ Less
    go true h s rec = subst (λ (y : List ℕ). path_cmp p y ≡ Less) (same_text e.0 q h) a.0
    go false h s rec = rec s

-- where the first item doesn't begin with the text, no path that begins with it holds anything
pub none_begins : (x r : List ℕ) (es : List Item) → NoneBelow x es → IsRising es → ((e : Item) (fs : List Item) → es ≡ e ∷ fs → starts_with nat_eq e.0 x ≡ false) → IsSome (held es (x ++ r)) → ⊥
none_begins x r [] n up first s = cc
none_begins x r (e ∷ es) n up first s = go (bytes_eq e.0 (x ++ r)) refl s
  where
    go : (b : Bool) → bytes_eq e.0 (x ++ r) ≡ b → IsSome (cond b (Some e.1) (held es (x ++ r))) → ⊥
    go true h s = let b = subst (λ (y : List ℕ). starts_with nat_eq y x ≡ true) (sym (same_text e.0 (x ++ r) h)) (starts_with-append x r) in let f = first e es refl in cc
    go false h s =
        let t = between x e.0 r n.0 (above-held e.0 (x ++ r) es up.0 s) in
        let b = subst (λ (y : List ℕ). starts_with nat_eq y x ≡ true) (sym t.1) (starts_with-append x t.0) in
        let f = first e es refl in cc

pub starts-at_found : (es : List Item) (x : List ℕ) (at : ℕ) → IsRising es → StandsAt es x at → StartsAt es x at
starts-at_found es x at r s =
    let up = subst IsRising (around es x at s) r in
    let high = AllAbove-back (take at es) (drop (suc at) es) (x, s.object) up in
    let rest : NoneBelow x ((x, s.object) ∷ drop (suc at) es) = (less-irrefl x, NoneBelow-above x x (drop (suc at) es) (less-irrefl x) high) in
    record {
      in_range = let h = s.in_range in omega arith;
      below = AllBelow-front (take at es) (drop (suc at) es) (x, s.object) up;
      rest = subst (NoneBelow x) (sym (drop-cons es at (x, s.object) s.in_range ∙ ap (λ (e : Item). e ∷ drop (suc at) es) (s.here (x, s.object)))) rest;
    }

pub starts-at_missing : (es : List Item) (x : List ℕ) (at : ℕ) → GoesAt es x at → StartsAt es x at
starts-at_missing es x at g = record { in_range = g.in_range; below = g.below; rest = weaker x (drop at es) g.above }
  where
    weaker : (x : List ℕ) (es : List Item) → AllAbove x es → NoneBelow x es
    weaker x [] a = tt
    weaker x (e ∷ es) a = (λ h. less-irrefl x (less-trans x e.0 x a.0 h), weaker x es a.1)

pub IsRising-drop : (at : ℕ) (es : List Item) → IsRising es → IsRising (drop at es)
IsRising-drop at es r = cut (take at es) (drop at es) (subst IsRising (sym (take-append-drop at es)) r)
  where
    cut : (xs ys : List Item) → IsRising (xs ++ ys) → IsRising ys
    cut [] ys r = r
    cut (x ∷ xs) ys r = cut xs ys r.1

-- a path that begins with the text is held by the items from there on
held-drop : (es : List Item) (x r : List ℕ) (at : ℕ) → StartsAt es x at → held es (x ++ r) ≡ held (drop at es) (x ++ r)
held-drop es x r at s = ap (λ (fs : List Item). held fs (x ++ r)) (sym (take-append-drop at es)) ∙ held-skip (x ++ r) (take at es) (drop at es) (AllBelow-append x r (take at es) s.below)

-- no item at the place begins with the text: nothing that begins with it is held
pub none_held : (es : List Item) (x q : List ℕ) (at : ℕ) → IsRising es → StartsAt es x at → (at < length es → (d : Item) → starts_with nat_eq (get_or es at d).0 x ≡ false) → starts_with nat_eq q x ≡ true → IsSome (held es q) → ⊥
none_held es x q at up s first b h =
    let r = drop (length x) q in
    let whole : q ≡ x ++ r = parts q x b in
    let some : IsSome (held (drop at es) (x ++ r)) = subst IsSome (held-drop es x r at s) (subst (λ (y : List ℕ). IsSome (held es y)) whole h) in
    none_begins x r (drop at es) s.rest (IsRising-drop at es up) (λ e fs eq. head e fs eq) some
  where
    here : (e : Item) → get_or es at e ≡ get_or (drop at es) 0 e
    here e = sym (get_or-drop at es 0 e ∙ ap (λ (k : ℕ). get_or es k e) (omega arith))

    head : (e : Item) (fs : List Item) → drop at es ≡ e ∷ fs → starts_with nat_eq e.0 x ≡ false
    head e fs eq =
        let long : length (drop at es) ≡ suc (length fs) = ap length eq in
        let lt : at < length es = omega (arith, length-drop at es) in
        let same : get_or es at e ≡ e = here e ∙ ap (λ (ys : List Item). get_or ys 0 e) eq in
        subst (λ (y : Item). starts_with nat_eq y.0 x ≡ false) same (first lt e)

-- the first item from the place on begins with the text: what it has is held
pub some_held : (es : List Item) (x : List ℕ) (at : ℕ) (e : Item) → IsRising es → at < length es → e ≡ get_or es at e → starts_with nat_eq e.0 x ≡ true → (q : List ℕ) × (starts_with nat_eq q x ≡ true) × IsSome (held es q)
some_held es x at e up lt h b = (e.0, b, let s = stands es at e e.0 lt h (same_path e.0) in let f = held-found es e.0 at up s in rw f refl)

-- the front of a rising list from the place on is the paths that begin with the text and hold something
front-begins : (x q : List ℕ) (es : List Item) → Has (front x es) q → starts_with nat_eq q x ≡ true
front-begins x q [] h = absurd h
front-begins x q (e ∷ es) h = go (starts_with nat_eq e.0 x) refl h (front-begins x q es)
  where
    go : (b : Bool) → starts_with nat_eq e.0 x ≡ b → Has (cond b (e.0 ∷ front x es) []) q → (Has (front x es) q → starts_with nat_eq q x ≡ true) → starts_with nat_eq q x ≡ true
    go true eq (inl same) rec = subst (λ (y : List ℕ). starts_with nat_eq y x ≡ true) same eq
    go true eq (inr later) rec = rec later
    go false eq h rec = absurd h

front-held : (x q : List ℕ) (es : List Item) → Has (front x es) q → IsSome (held es q)
front-held x q [] h = absurd h
front-held x q (e ∷ es) h = go (starts_with nat_eq e.0 x) h (front-held x q es)
  where
    later : (b : Bool) → IsSome (held es q) → IsSome (cond b (Some e.1) (held es q))
    later true s = refl
    later false s = s

    go : (b : Bool) → Has (cond b (e.0 ∷ front x es) []) q → (Has (front x es) q → IsSome (held es q)) → IsSome (cond (bytes_eq e.0 q) (Some e.1) (held es q))
    go true (inl same) rec = let t : bytes_eq e.0 q ≡ true = subst (λ (y : List ℕ). bytes_eq e.0 y ≡ true) same (bytes_eq-same e.0) in subst (λ (b : Bool). IsSome (cond b (Some e.1) (held es q))) (sym t) refl
    go true (inr l) rec = later (bytes_eq e.0 q) (rec l)
    go false h rec = absurd h

front-has : (x r : List ℕ) (es : List Item) → NoneBelow x es → IsRising es → IsSome (held es (x ++ r)) → Has (front x es) (x ++ r)
front-has x r [] n up s = cc
front-has x r (e ∷ es) n up s = go (starts_with nat_eq e.0 x) refl (front-has x r es n.1 up.1)
  where
    pick : (b : Bool) → bytes_eq e.0 (x ++ r) ≡ b → IsSome (cond b (Some e.1) (held es (x ++ r))) → (IsSome (held es (x ++ r)) → Has (front x es) (x ++ r)) → (e.0 ≡ x ++ r) ⊎ Has (front x es) (x ++ r)
    pick true h s rec = inl (same_text e.0 (x ++ r) h)
    pick false h s rec = inr (rec s)

    go : (b : Bool) → starts_with nat_eq e.0 x ≡ b → (IsSome (held es (x ++ r)) → Has (front x es) (x ++ r)) → Has (cond b (e.0 ∷ front x es) []) (x ++ r)
    go true h rec = pick (bytes_eq e.0 (x ++ r)) refl s rec
    go false h rec = none_begins x r (e ∷ es) n up (λ f fs eq. let same : e ≡ f = cc in subst (λ (y : Item). starts_with nat_eq y.0 x ≡ false) same h) s

front-above : (p x : List ℕ) (es : List Item) → AllAbove p es → AllByRecursion (λ q. path_cmp p q ≡ Less) (front x es)
front-above p x [] a = tt
front-above p x (e ∷ es) a = go (starts_with nat_eq e.0 x) (front-above p x es a.1)
  where
    go : (b : Bool) → AllByRecursion (λ q. path_cmp p q ≡ Less) (front x es) → AllByRecursion (λ q. path_cmp p q ≡ Less) (cond b (e.0 ∷ front x es) [])
    go true rec = (a.0, rec)
    go false rec = tt

pub front-sorted : (x : List ℕ) (es : List Item) → IsRising es → IsStrictlySortedBy (slice_cmp nat_cmp) (front x es)
unfolding IsStrictlySortedBy
front-sorted x [] r = tt
front-sorted x (e ∷ es) r = go (starts_with nat_eq e.0 x) (front-sorted x es r.1)
  where
    go : (b : Bool) → IsStrictlySortedBy (slice_cmp nat_cmp) (front x es) → IsStrictlySortedBy (slice_cmp nat_cmp) (cond b (e.0 ∷ front x es) [])
    go true rec = (front-above e.0 x es r.0, rec)
    go false rec = tt

pub paths-sorted : (es : List Item) → IsRising es → IsStrictlySortedBy (slice_cmp nat_cmp) (paths es)
unfolding IsStrictlySortedBy
paths-sorted [] r = tt
paths-sorted (e ∷ es) r = (all e.0 es r.0, paths-sorted es r.1)
  where
    all : (p : List ℕ) (es : List Item) → AllAbove p es → AllByRecursion (λ q. slice_cmp nat_cmp p q ≡ Less) (paths es)
    all p [] a = tt
    all p (e ∷ es) a = (a.0, all p es a.1)

-- what `list` answers
pub front-contains : (es : List Item) (x : List ℕ) (at : ℕ) → IsRising es → StartsAt es x at → (q : List ℕ) → Contains (front x (drop at es)) q ↔ ((starts_with nat_eq q x ≡ true) × IsSome (held es q))
front-contains es x at up s q = (there, back)
  where
    there : Contains (front x (drop at es)) q → (starts_with nat_eq q x ≡ true) × IsSome (held es q)
    there h =
        let m = has-from_contains (front x (drop at es)) q h in
        let b = front-begins x q (drop at es) m in
        let r = drop (length x) q in
        let whole : q ≡ x ++ r = parts q x b in
        let some : IsSome (held (drop at es) (x ++ r)) = subst (λ (y : List ℕ). IsSome (held (drop at es) y)) whole (front-held x q (drop at es) m) in
        (b, subst (λ (y : List ℕ). IsSome (held es y)) (sym whole) (subst IsSome (sym (held-drop es x r at s)) some))

    back : (starts_with nat_eq q x ≡ true) × IsSome (held es q) → Contains (front x (drop at es)) q
    back h =
        let r = drop (length x) q in
        let whole : q ≡ x ++ r = parts q x h.0 in
        let some : IsSome (held (drop at es) (x ++ r)) = subst IsSome (held-drop es x r at s) (subst (λ (y : List ℕ). IsSome (held es y)) whole h.1) in
        subst (Contains (front x (drop at es))) (sym whole) (contains-from_has (front x (drop at es)) (x ++ r) (front-has x r (drop at es) s.rest (IsRising-drop at es up) some))

-- whether anything that begins with the text is held: the first item from the place on tells
pub has_under-first : (es : List Item) (x : List ℕ) (at : ℕ) (e : Item) (b : Bool) → IsRising es → StartsAt es x at → at < length es → e ≡ get_or es at e → b ≡ starts_with nat_eq e.0 x → IsTrue b ↔ ((q : List ℕ) × (starts_with nat_eq q x ≡ true) × IsSome (held es q))
has_under-first es x at e true up s lt h begins = (λ yes. some_held es x at e up lt h (sym begins), λ some. refl)
has_under-first es x at e false up s lt h begins =
    (λ yes. cc, λ some. absurd (none_held es x some.0 at up s (λ l d. subst (λ (y : Item). starts_with nat_eq y.0 x ≡ false) (h ∙ get_or_default es at e d l) (sym begins)) some.1 some.2))

pub has_under-end : (es : List Item) (x : List ℕ) (at : ℕ) (b : Bool) → IsRising es → StartsAt es x at → length es ≤ at → b ≡ false → IsTrue b ↔ ((q : List ℕ) × (starts_with nat_eq q x ≡ true) × IsSome (held es q))
has_under-end es x at b up s ge none =
    (λ yes. cc, λ some. absurd (none_held es x some.0 at up s (λ l d. absurd (omega arith)) some.1 some.2))

-- `&items[at..]`
pub take-rest : {A : Type 0} (xs : List A) (at : ℕ) → take (length xs - at) (drop at xs) ≡ drop at xs
take-rest xs at = grind (arith, common_steps)

-- what is below a path begins with it and a slash
pub is_below-folder : (p q : List ℕ) → is_below p q ≡ starts_with nat_eq q (p ++ 47 ∷ [])
is_below-folder [] [] = refl
is_below-folder [] (a ∷ q) = first (eqb 47 a) (eqb a 47) (nat_eq_equiv.symm 47 a)
  where
    first : (x y : Bool) → x ≡ y → (true && y) ≡ (x && true)
    first true y e = sym e
    first false y e = sym e
is_below-folder (c ∷ p) [] = refl
is_below-folder (c ∷ p) (a ∷ q) = step (eqb c a) (is_below-folder p q)
  where
    step : (x : Bool) → is_below p q ≡ starts_with nat_eq q (p ++ 47 ∷ []) → ((x && starts_with nat_eq q p) && (slice_index q (length p) == 47)) ≡ (x && starts_with nat_eq q (p ++ 47 ∷ []))
    step true e = e
    step false e = refl

pub has-below : (es : List Item) (p text : List ℕ) (b : Bool) → text ≡ p ++ 47 ∷ [] → IsTrue b ↔ ((q : List ℕ) × (starts_with nat_eq q text ≡ true) × IsSome (held es q)) → IsTrue b ↔ HasBelow (held es) p
has-below es p text b t h = (
  λ yes. let s = h.0 yes in (s.0, is_below-folder p s.0 ∙ ap (starts_with nat_eq s.0) (sym t) ∙ s.1, s.2),
  λ some. h.1 (some.0, ap (starts_with nat_eq some.0) t ∙ sym (is_below-folder p some.0) ∙ some.1, some.2),
)

-- what `list` answers
pub listed-below : (es : List Item) (p text : List ℕ) (at : ℕ) (v : List (List ℕ)) → IsRising es → text ≡ p ++ 47 ∷ [] → StartsAt es text at → v ≡ front text (take (length es - at) (drop at es))
    → (q : List ℕ) → Contains v q ↔ ((is_below p q ≡ true) × IsSome (held es q))
listed-below es p text at v up t s e q =
    let whole : v ≡ front text (drop at es) = e ∙ ap (front text) (take-rest es at) in
    let c = front-contains es text at up s q in (
      λ m. let r = c.0 (subst (λ (ns : List (List ℕ)). Contains ns q) whole m) in (is_below-folder p q ∙ ap (starts_with nat_eq q) (sym t) ∙ r.0, r.1),
      λ h. subst (λ (ns : List (List ℕ)). Contains ns q) (sym whole) (c.1 (ap (starts_with nat_eq q) t ∙ sym (is_below-folder p q) ∙ h.0, h.1)),
    )

pub listed-sorted : (es : List Item) (text : List ℕ) (at : ℕ) (v : List (List ℕ)) → IsRising es → v ≡ front text (take (length es - at) (drop at es)) → IsStrictlySortedBy (slice_cmp nat_cmp) v
listed-sorted es text at v up e =
    let whole : v ≡ front text (drop at es) = e ∙ ap (front text) (take-rest es at) in
    subst (IsStrictlySortedBy (slice_cmp nat_cmp)) (sym whole) (front-sorted text (drop at es) (IsRising-drop at es up))

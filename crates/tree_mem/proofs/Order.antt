-- The byte order of paths, and lists of items in that order.
use Rattle.std.proofs.Common.{◌≡◌, ◌∙◌, ℕ, ◌+◌, ◌<◌, suc, false, List, [], ◌∷◌, ◌++◌, length, take, drop, get_or, sym, ap, subst}
use Rattle.std.specs.Prelude.{bytes_eq}
use Rattle.std.specs.declared.cmp.Ordering.TheVariants.{Less, Equal, Greater}
use Rattle.std.specs.Ordering.{is_eq, ordering_reverse}
use Rattle.std.proofs.lemmas.Cmp.{nat_list_cmp_total, tied_itself}
use Rattle.std.proofs.lemmas.Map.Text.{is_eq-slice_cmp}
use Rattle.std.proofs.lemmas.List.{take_more}
use Rattle.std.proofs.Math.Seq.{drop-cons, split_at}
use Rattle.tree_mem.specs.Items.{Item, path_cmp, AllBelow, AllAbove, IsRising}

pub less-trans : (p q r : List ℕ) → path_cmp p q ≡ Less → path_cmp q r ≡ Less → path_cmp p r ≡ Less
less-trans p q r a b = nat_list_cmp_total.trans p q r a b

pub same_path : (p : List ℕ) → path_cmp p p ≡ Equal
same_path p = tied_itself nat_list_cmp_total p

pub less-irrefl : (p : List ℕ) → path_cmp p p ≡ Less → ⊥
less-irrefl p h = let e = same_path p in cc

-- a path that comes before another is not that path
pub bytes_eq-less : (p q : List ℕ) → path_cmp p q ≡ Less → bytes_eq p q ≡ false
bytes_eq-less p q h = sym (is_eq-slice_cmp p q) ∙ ap is_eq h

pub bytes_eq-greater : (p q : List ℕ) → path_cmp p q ≡ Less → bytes_eq q p ≡ false
bytes_eq-greater p q h = sym (is_eq-slice_cmp q p) ∙ ap is_eq (nat_list_cmp_total.antisymm q p ∙ ap ordering_reverse h)

pub AllAbove-trans : (p q : List ℕ) (es : List Item) → path_cmp p q ≡ Less → AllAbove q es → AllAbove p es
AllAbove-trans p q [] h a = tt
AllAbove-trans p q (e ∷ es) h a = (less-trans p q e.0 h a.0, AllAbove-trans p q es h a.1)

pub AllAbove-append : (p : List ℕ) (xs ys : List Item) → AllAbove p xs → AllAbove p ys → AllAbove p (xs ++ ys)
AllAbove-append p [] ys a b = b
AllAbove-append p (e ∷ es) ys a b = (a.0, AllAbove-append p es ys a.1 b)

pub AllAbove-append_left : (p : List ℕ) (xs ys : List Item) → AllAbove p (xs ++ ys) → AllAbove p xs
AllAbove-append_left p [] ys a = tt
AllAbove-append_left p (e ∷ es) ys a = (a.0, AllAbove-append_left p es ys a.1)

pub AllAbove-append_right : (p : List ℕ) (xs ys : List Item) → AllAbove p (xs ++ ys) → AllAbove p ys
AllAbove-append_right p [] ys a = a
AllAbove-append_right p (e ∷ es) ys a = AllAbove-append_right p es ys a.1

-- an item goes in between what comes before it and what comes after it
pub IsRising-insert : (xs ys : List Item) (e : Item) → IsRising (xs ++ ys) → AllBelow e.0 xs → AllAbove e.0 ys → IsRising (xs ++ e ∷ ys)
IsRising-insert [] ys e r b a = (a, r)
IsRising-insert (x ∷ xs) ys e r b a =
    (AllAbove-append x.0 xs (e ∷ ys) (AllAbove-append_left x.0 xs ys r.0) (b.0, AllAbove-append_right x.0 xs ys r.0), IsRising-insert xs ys e r.1 b.1 a)

pub IsRising-without : (xs ys : List Item) (e : Item) → IsRising (xs ++ e ∷ ys) → IsRising (xs ++ ys)
IsRising-without [] ys e r = r.1
IsRising-without (x ∷ xs) ys e r =
    let a = AllAbove-append_right x.0 xs (e ∷ ys) r.0 in
    (AllAbove-append x.0 xs ys (AllAbove-append_left x.0 xs (e ∷ ys) r.0) a.1, IsRising-without xs ys e r.1)

-- what stands before an item of a rising list comes before it, and what stands behind it comes after it
pub AllBelow-front : (xs ys : List Item) (e : Item) → IsRising (xs ++ e ∷ ys) → AllBelow e.0 xs
AllBelow-front [] ys e r = tt
AllBelow-front (x ∷ xs) ys e r = let a = AllAbove-append_right x.0 xs (e ∷ ys) r.0 in (a.0, AllBelow-front xs ys e r.1)

pub AllAbove-back : (xs ys : List Item) (e : Item) → IsRising (xs ++ e ∷ ys) → AllAbove e.0 ys
AllAbove-back [] ys e r = r.0
AllAbove-back (x ∷ xs) ys e r = AllAbove-back xs ys e r.1

pub AllBelow-trans : (p q : List ℕ) (es : List Item) → AllBelow p es → path_cmp p q ≡ Less → AllBelow q es
AllBelow-trans p q [] a h = tt
AllBelow-trans p q (e ∷ es) a h = (less-trans e.0 p q a.0 h, AllBelow-trans p q es a.1 h)

pub AllBelow-push : (p : List ℕ) (xs : List Item) (e : Item) → AllBelow p xs → path_cmp e.0 p ≡ Less → AllBelow p (xs ++ e ∷ [])
AllBelow-push p [] e a h = (h, tt)
AllBelow-push p (x ∷ xs) e a h = (a.0, AllBelow-push p xs e a.1 h)

-- a look at the item in the middle: what stands up to it comes before p, or what stands from it on comes after p
pub AllBelow-up_to : (xs : List Item) (m : ℕ) (e : Item) (p : List ℕ) → IsRising xs → m < length xs → e ≡ get_or xs m e → path_cmp e.0 p ≡ Less → AllBelow p (take (m + 1) xs)
AllBelow-up_to xs m e p r lt at h =
    let front = AllBelow-front (take m xs) (drop (suc m) xs) (get_or xs m e) (subst IsRising (split_at xs m e lt) r) in
    let before : AllBelow e.0 (take m xs) = subst (λ (y : Item). AllBelow y.0 (take m xs)) (sym at) front in
    let all : AllBelow p (take m xs ++ e ∷ []) = AllBelow-push p (take m xs) e (AllBelow-trans e.0 p (take m xs) before h) h in
    subst (AllBelow p) (sym (take_more xs m e lt ∙ ap (λ (y : Item). take m xs ++ y ∷ []) (sym at))) all

pub AllAbove-from : (xs : List Item) (m : ℕ) (e : Item) (p : List ℕ) → IsRising xs → m < length xs → e ≡ get_or xs m e → path_cmp p e.0 ≡ Less → AllAbove p (drop m xs)
AllAbove-from xs m e p r lt at h =
    let back = AllAbove-back (take m xs) (drop (suc m) xs) (get_or xs m e) (subst IsRising (split_at xs m e lt) r) in
    let behind : AllAbove e.0 (drop (suc m) xs) = subst (λ (y : Item). AllAbove y.0 (drop (suc m) xs)) (sym at) back in
    let all : AllAbove p (e ∷ drop (suc m) xs) = (h, AllAbove-trans p e.0 (drop (suc m) xs) h behind) in
    subst (AllAbove p) (sym (drop-cons xs m e lt ∙ ap (λ (y : Item). y ∷ drop (suc m) xs) (sym at))) all

pub less-from_greater : (p q : List ℕ) → path_cmp p q ≡ Greater → path_cmp q p ≡ Less
less-from_greater p q h = nat_list_cmp_total.antisymm q p ∙ ap ordering_reverse h

-- How a claim is judged behind the book, and what becomes of the wishes.
use Rattle.std.proofs.Common.{◌≡◌, ◌<◌, ◌+◌, ◌++◌, ◌∷◌, ◌∙◌, ℕ, zero, suc, true, false, List, [], Option, Some, None, Result, Ok, Err, Vec, ap, refl, subst, sym, length, length-append, map, get_or, MatchOption, arith}
use Rattle.std.specs.Prelude.{IfErr, IsErrOf, OnErr, OnOk, is_err, is_ok, option_to_list, replicate, slice_index_or, slice_set}
use Rattle.std.specs.Global.{Global}
use Rattle.std.proofs.lemmas.List.{get_or-set_same, length-map, map-set}
use Rattle.owner_book.specs.Book.{Book, ChangesClaim, HasOwnersOf, owner_in, path_of}
use Rattle.owner_book.specs.Removing.{AreRemovable}
use Rattle.owner_book.specs.Rules.{is_dying}
use Rattle.owner_book.specs.Whole.{IsRefused}
use Rattle.owner_book.specs.declared.fault.ClaimFault.{ClaimFault}
use Rattle.owner_book.specs.declared.fault.ClaimFault.TheVariants as claims
use Rattle.owner_book.specs.declared.fault.Collision.TheVariants as collisions
use Rattle.owner_book.specs.declared.wish.Wish.{Wish}
use Rattle.merge_record.specs.declared.record.OwnerKey.{OwnerKey}
use Rattle.merge_core.specs.Core.{standing_in}
use Rattle.merge_core.specs.CoreValue.{CoreValue}
use Rattle.merge_core.specs.Payloads.{IsAt}
use Rattle.merge_core.specs.declared.phase.Phase.TheVariants as phases
use Rattle.merge_site.specs.Booking.{dying_at, dying_of, lists_of, wishes_at, with_wish}
use Rattle.file_tree.specs.Disk.{Map}
use Rattle.file_tree.specs.declared.fault.TreeFault.TheVariants as trees
use Rattle.merge_site.specs.Claiming.{IsTakenIn, Stops, StopsAt, record_paths}
use Rattle.merge_site.specs.Stopping.{EarlyStops, LateStops, stop_of}
use Rattle.merge_site.specs.declared.fault.ClaimStop.{ClaimStop}
use Rattle.merge_site.specs.declared.fault.ClaimStop.TheVariants as stops
use Rattle.merge_site.specs.declared.group.SiteGroup.{SiteGroup}
use Rattle.merge_site.proofs.Reading.{got}

pub path_at : (ws : List Wish) (i : ℕ) (w : Wish) → i < length ws → w ≡ get_or ws i w → path_of w ≡ get_or (map path_of ws) i (path_of w)
path_at [] i w lt is = absurd (omega (arith, lt))
path_at (x ∷ ws) zero w lt is = ap path_of is
path_at (x ∷ ws) (suc i) w lt is = path_at ws i w (omega (arith, lt)) is

-- what stops a claim that the book has taken stops the claim
pub late_stop : (b : Book) (dying : List OwnerKey) (ws : List Wish) (rs : List (List ℕ)) (s : ClaimStop) → IsTakenIn b dying ws rs → LateStops (record_paths rs ws) s → Stops b dying ws rs s
late_stop b dying ws rs stops.Overlap taken late = (taken, late)
late_stop b dying ws rs (stops.Tree trees.Failed) taken late = record { taken = taken; apart = late }
late_stop b dying ws rs (stops.Collision (collisions.Unowned p)) taken late = record { taken = taken; apart = late }
late_stop b dying ws rs (stops.Tree trees.Memory) taken late = tt
late_stop b dying ws rs (stops.Collision (collisions.Owned p k)) taken late = absurd late
late_stop b dying ws rs (stops.Collision (collisions.Claimed p g)) taken late = absurd late
late_stop b dying ws rs (stops.Collision (collisions.Ancestor p q)) taken late = absurd late
late_stop b dying ws rs (stops.Image x) taken late = absurd late
late_stop b dying ws rs (stops.Removal p) taken late = absurd late
late_stop b dying ws rs stops.Limit taken late = absurd late

-- what the book's refusal stops
pub early_stop : (b : Book) (dying : List OwnerKey) (ws : List Wish) (rs : List (List ℕ)) (f : ClaimFault) → AreRemovable b (is_dying dying) rs → IsRefused b (is_dying dying) ws f → Stops b dying ws rs (stop_of f)
early_stop b dying ws rs (claims.Image x) all refused = (all, refused)
early_stop b dying ws rs (claims.Collision (collisions.Owned p k)) all refused = (all, refused)
early_stop b dying ws rs (claims.Collision (collisions.Claimed p g)) all refused = (all, refused)
early_stop b dying ws rs (claims.Collision (collisions.Ancestor p q)) all refused = (all, refused)
early_stop b dying ws rs (claims.Collision (collisions.Unowned p)) all refused = absurd refused.refused
early_stop b dying ws rs claims.Limit all refused = (all, refused)
early_stop b dying ws rs claims.Memory all refused = tt

pub early_kind : (b : Book) (dying : List OwnerKey) (ws : List Wish) (f : ClaimFault) → IsRefused b (is_dying dying) ws f → EarlyStops (stop_of f)
early_kind b dying ws (claims.Image x) refused = tt
early_kind b dying ws (claims.Collision (collisions.Owned p k)) refused = tt
early_kind b dying ws (claims.Collision (collisions.Claimed p g)) refused = tt
early_kind b dying ws (claims.Collision (collisions.Ancestor p q)) refused = tt
early_kind b dying ws (claims.Collision (collisions.Unowned p)) refused = absurd refused.refused
early_kind b dying ws claims.Limit refused = tt
early_kind b dying ws claims.Memory refused = tt

early_met : (m : Map) (own : List ℕ → Option OwnerKey) (ws : List Wish) (s : ClaimStop) → EarlyStops s → StopsAt m own ws s
early_met m own ws (stops.Collision (collisions.Owned p k)) early = tt
early_met m own ws (stops.Collision (collisions.Claimed p g)) early = tt
early_met m own ws (stops.Collision (collisions.Ancestor p q)) early = tt
early_met m own ws (stops.Collision (collisions.Unowned p)) early = absurd early
early_met m own ws stops.Overlap early = tt
early_met m own ws (stops.Tree of) early = tt
early_met m own ws (stops.Image x) early = tt
early_met m own ws (stops.Removal p) early = tt
early_met m own ws stops.Limit early = tt

early_no_device : (s : ClaimStop) → EarlyStops s → s ≡ stops.Tree trees.Failed → ⊥
early_no_device s early is = subst EarlyStops is early

-- what a claim that the book stops says of the tree, and that it is no device's failure
pub early_says : (m : Map) (own : List ℕ → Option OwnerKey) (ws : List Wish) (r : Result (Unit {0}) ClaimStop) → IfErr r EarlyStops → IfErr r (StopsAt m own ws)
early_says m own ws (Ok x) early = tt
early_says m own ws (Err s) early = early_met m own ws s early

pub early_device : (r : Result (Unit {0}) ClaimStop) → IfErr r EarlyStops → IsErrOf r (stops.Tree trees.Failed) → ⊥
early_device (Ok x) early is = absurd (cc is)
early_device (Err s) early is = early_no_device s early (cc is)

-- what an answer of Ok says, and what is said where there is no error
pub ok_then : {A E : Type 0} (r : Result A E) (P : Type 0) → is_ok r ≡ true → OnOk r P → P
ok_then (Ok x) P e h = h
ok_then (Err x) P e h = absurd (cc e)

pub no_err : {A E : Type 0} (r : Result A E) (P : Type 0) → is_err r ≡ false → OnErr r P
no_err (Ok x) P e = tt
no_err (Err x) P e = absurd (cc e)

-- what is said of three lists is said of the same ones
pub said : (P : List OwnerKey → List Wish → List (List ℕ) → Type 0) (d d' : List OwnerKey) (w w' : List Wish) (r r' : List (List ℕ)) → d ≡ d' → w ≡ w' → r ≡ r' → P d w r → P d' w' r'
said P d d' w w' r r' e f g h = subst (λ (x : List OwnerKey). P x w' r') e (subst (λ (x : List Wish). P d x r') f (subst (λ (x : List (List ℕ)). P d w x) g h))

-- the book has a claim with these wishes and removals
abbrev pub HasClaim : Book → Book → ℕ → List Wish → List (List ℕ) → Type 0
HasClaim b b' g w r = ChangesClaim b b' g (Some (record { placed = w; removed = r }))

-- no path was told
pub none_kept : (r : Option (List ℕ)) (A : Type 0) (B : List ℕ → Type 0) → ((p : List ℕ) → r ≡ Some p → ⊥) → MatchOption r A B → A
none_kept None A B none h = h
none_kept (Some p) A B none h = absurd (none p refl)

-- owners that read alike are the same
pub owners_alike : (b b' : Book) → HasOwnersOf b b' → owner_in b'.owned ≡ owner_in b.owned
owners_alike b b' same = λ i q. same q i

-- what holds whatever the answer is holds at an error
pub err_then : {A E : Type 0} (r : Result A E) (P : Type 0) → P → OnErr r P
err_then (Ok a) P p = tt
err_then (Err e) P p = p

-- ---- the wishes of each group

-- the wishes of the group in the list
pub list_at : (vs : List (Vec (Wish) Global)) (g : ℕ) (v : Vec (Wish) Global) → g < length vs → v ≡ slice_index_or vs g v → wishes_at (lists_of vs) g ≡ v.items
list_at [] g v lt is = absurd (omega (arith, lt))
list_at (x ∷ vs) zero v lt is = ap (λ (y : Vec (Wish) Global). y.items) (sym is)
list_at (x ∷ vs) (suc g) v lt is = list_at vs g v (omega (arith, lt)) is

-- the three lists that a claim is judged by are those of its group
pub record AreOfGroup (k : CoreValue) (ws : List (List Wish)) (gs : List SiteGroup) (g : ℕ) (d : List OwnerKey) (w : List Wish) (r : List (List ℕ)) : Type 0 where
  pub dying : d ≡ dying_at gs g
  pub wishes : w ≡ wishes_at ws g
  pub removals : r ≡ (standing_in k.standings g).removals

pub lists_are : (k : CoreValue) (vs : List (Vec (Wish) Global)) (gs : List SiteGroup) (g : ℕ) (v : Vec (Wish) Global) (x : SiteGroup) (d : List OwnerKey) (w : List Wish) (r : List (List ℕ)) → IsAt k g phases.Sealed
    → length (lists_of vs) ≡ length k.standings → length gs ≡ length k.standings → v ≡ slice_index_or vs g v → w ≡ v.items → x ≡ slice_index_or gs g x → d ≡ x.dying.items → r ≡ (standing_in k.standings g).removals → AreOfGroup k (lists_of vs) gs g d w r
lists_are k vs gs g v x d w r at rows all wishes lent group dying removals = record {
  dying = dying ∙ sym (ap dying_of (got gs g x (omega (arith, at.running.0, all)) group));
  wishes = lent ∙ sym (list_at vs g v (omega (arith, at.running.0, rows, length-map vs (λ (y : Vec (Wish) Global). y.items))) wishes);
  removals = removals;
}

-- so what is said of them is said of the group's
pub said_of_group : (P : List OwnerKey → List Wish → List (List ℕ) → Type 0) (k : CoreValue) (ws : List (List Wish)) (gs : List SiteGroup) (g : ℕ) (d : List OwnerKey) (w : List Wish) (r : List (List ℕ))
    → AreOfGroup k ws gs g d w r → P d w r → P (dying_at gs g) (wishes_at ws g) (standing_in k.standings g).removals
said_of_group P k ws gs g d w r are h = said P d _ w _ r _ are.dying are.wishes are.removals h

pub wish_added : (vs : List (Vec (Wish) Global)) (g : ℕ) (v v' : Vec (Wish) Global) (w : Wish) → g < length vs → v ≡ slice_index_or vs g v → v'.items ≡ v.items ++ w ∷ [] → lists_of (slice_set vs g v') ≡ with_wish (lists_of vs) g w
wish_added vs g v v' w lt is more =
    map-set (λ (y : Vec (Wish) Global). y.items) vs g v'
    ∙ ap (slice_set (lists_of vs) g) (more ∙ ap (λ (l : List Wish). l ++ w ∷ []) (sym (list_at vs g v lt is)))

set_back : (ls : List (List Wish)) (g : ℕ) → slice_set ls g (wishes_at ls g) ≡ ls
set_back [] g = refl
set_back (x ∷ ls) zero = refl
set_back (x ∷ ls) (suc g) = ap (λ l. x ∷ l) (set_back ls g)

pub wish_unmade : (vs : List (Vec (Wish) Global)) (g : ℕ) (v v' : Vec (Wish) Global) → g < length vs → v ≡ slice_index_or vs g v → v'.items ≡ v.items → lists_of (slice_set vs g v') ≡ lists_of vs
wish_unmade vs g v v' lt is same =
    map-set (λ (y : Vec (Wish) Global). y.items) vs g v'
    ∙ (ap (slice_set (lists_of vs) g) (same ∙ sym (list_at vs g v lt is)) ∙ set_back (lists_of vs) g)

tails : (xs ys : List Wish) (x y z z' : Wish) → z ∷ (xs ++ x ∷ []) ≡ z' ∷ (ys ++ y ∷ []) → xs ++ x ∷ [] ≡ ys ++ y ∷ []
tails xs ys x y z z' e = cc

heads : (xs ys : List Wish) (x y z z' : Wish) → z ∷ (xs ++ x ∷ []) ≡ z' ∷ (ys ++ y ∷ []) → z ≡ z'
heads xs ys x y z z' e = cc

both : (xs ys : List Wish) (z z' : Wish) → xs ≡ ys → z ≡ z' → z ∷ xs ≡ z' ∷ ys
both xs ys z z' t h = λ i. h i ∷ t i

-- what is left of a list without its last
last_apart : (xs ys : List Wish) (x y : Wish) → xs ++ x ∷ [] ≡ ys ++ y ∷ [] → xs ≡ ys
last_apart [] [] x y e = refl
last_apart [] (z ∷ []) x y e = absurd (cc e)
last_apart [] (z ∷ (z' ∷ ys)) x y e = absurd (cc e)
last_apart (z ∷ []) [] x y e = absurd (cc e)
last_apart (z ∷ (z' ∷ xs)) [] x y e = absurd (cc e)
last_apart (z ∷ xs) (z' ∷ ys) x y e = both xs ys z z' (last_apart xs ys x y (tails xs ys x y z z' e)) (heads xs ys x y z z' e)

set_twice : (ls : List (List Wish)) (g : ℕ) (a b : List Wish) → slice_set (slice_set ls g a) g b ≡ slice_set ls g b
set_twice [] g a b = refl
set_twice (x ∷ ls) zero a b = refl
set_twice (x ∷ ls) (suc g) a b = ap (λ l. x ∷ l) (set_twice ls g a b)

-- the last wish of the group is gone, so the wishes are those before it
pub wish_dropped : (vs : List (Vec (Wish) Global)) (g : ℕ) (v v' : Vec (Wish) Global) (ls : List (List Wish)) (w x : Wish) → g < length vs → g < length ls → v ≡ slice_index_or vs g v → lists_of vs ≡ with_wish ls g w → v.items ≡ v'.items ++ x ∷ [] → lists_of (slice_set vs g v') ≡ ls
wish_dropped vs g v v' ls w x lt lt' is was left =
    let here : wishes_at ls g ++ w ∷ [] ≡ v'.items ++ x ∷ [] = sym (get_or-set_same ls g (wishes_at ls g ++ w ∷ []) [] lt') ∙ (ap (λ (l : List (List Wish)). wishes_at l g) (sym was) ∙ (list_at vs g v lt is ∙ left)) in
    map-set (λ (y : Vec (Wish) Global). y.items) vs g v'
    ∙ (ap (λ (l : List (List Wish)). slice_set l g v'.items) was
    ∙ (set_twice ls g (wishes_at ls g ++ w ∷ []) v'.items
    ∙ (ap (slice_set ls g) (sym (last_apart (wishes_at ls g) v'.items w x here)) ∙ set_back ls g)))

-- so it is where a wish was taken out, since there was one
pub wish_popped : (vs : List (Vec (Wish) Global)) (g : ℕ) (v v' : Vec (Wish) Global) (ls : List (List Wish)) (w : Wish) (r : Option Wish) (n m : ℕ) → n ≡ length v.items → g < length vs → g < length ls → v ≡ slice_index_or vs g v → lists_of vs ≡ with_wish ls g w → v.items ≡ v'.items ++ option_to_list r → MatchOption r ((n ≡ 0) × (m ≡ 0)) (λ _. m + 1 ≡ n) → lists_of (slice_set vs g v') ≡ ls
wish_popped vs g v v' ls w (Some x) n m size lt lt' is was left cases = wish_dropped vs g v v' ls w x lt lt' is was left
wish_popped vs g v v' ls w None n m size lt lt' is was left cases =
    let here : v.items ≡ wishes_at ls g ++ w ∷ [] = sym (list_at vs g v lt is) ∙ (ap (λ (l : List (List Wish)). wishes_at l g) was ∙ get_or-set_same ls g (wishes_at ls g ++ w ∷ []) [] lt') in
    absurd (omega (arith, size, cases.0, ap length here, length-append (wishes_at ls g) (w ∷ [])))

-- so many groups that wish nothing, and one more
pub replicate_push : {A : Type 0} (n : ℕ) (x : A) → replicate n x ++ x ∷ [] ≡ replicate (suc n) x
replicate_push zero x = refl
replicate_push (suc n) x = ap (λ l. x ∷ l) (replicate_push n x)

pub none_more : (vs : List (Vec (Wish) Global)) (v : Vec (Wish) Global) (n : ℕ) → lists_of vs ≡ replicate n [] → v.items ≡ [] → lists_of (vs ++ v ∷ []) ≡ replicate (n + 1) []
none_more vs v n was none =
    let next : suc n ≡ n + 1 = omega arith in
    pushed vs v ∙ (ap (λ (l : List (List Wish)). l ++ v.items ∷ []) was ∙ (ap (λ (l : List Wish). replicate n [] ++ l ∷ []) none ∙ (replicate_push n [] ∙ ap (λ (k : ℕ). replicate k []) next)))
  where
    pushed : (vs : List (Vec (Wish) Global)) (v : Vec (Wish) Global) → lists_of (vs ++ v ∷ []) ≡ lists_of vs ++ v.items ∷ []
    pushed [] v = refl
    pushed (x ∷ vs) v = ap (λ l. x.items ∷ l) (pushed vs v)

-- The printed tokens of trees read as these trees, and what reads as trees are their printed tokens.
use Rattle.std.specs.Prelude.{not, nat_lt, max, if◌then◌else◌, ◌&&◌, Option, Some, None, Result, Ok, Err}
use Rattle.std.proofs.Common.{◌≡◌, ℕ, ◌+◌, ◌<◌, ◌≤◌, Bool, true, false, List, [], ◌∷◌, ◌++◌, length, refl, ap, sym, ◌∙◌, arith, append_assoc, append-nil, subst}
use Rattle.std.proofs.lemmas.Bool.Decides.{nat_tests}
use Rattle.dep_group.specs.declared.token.Token.{Token}
use Rattle.dep_group.specs.declared.token.Token.TheVariants.{Leaf, Begins, Opens, Closes, Glued, Unknown}
use Rattle.dep_group.specs.declared.token.GroupFault.{GroupFault}
use Rattle.dep_group.specs.declared.token.GroupFault.TheVariants as fault
use Rattle.dep_group.specs.Trees.{Tree, Trees, leaf, group, no_trees, tree, trees_of, depth, all_depth, is_free, all_free}
use Rattle.dep_group.specs.Reading.{opening, tokens, all_tokens, Opened, in_any_of, read, list_of, led_here}
use Rattle.std.proofs.lemmas.Bool.{and_parts, not-true}

pub trees_of-list_of : {K L : Type 0} (ts : Trees K L) → trees_of (list_of ts) ≡ ts
trees_of-list_of no_trees = refl
trees_of-list_of (tree t ts) = ap (λ r. tree t r) (trees_of-list_of ts)

-- a group opens where less than 64 are open
read-opening : {K L : Type 0} (any_of : K → Bool) (barred : L → Bool) (opener : Option K) (rest : List (Token K L)) (at : ℕ) (os : List (Opened K L)) (done : List (Tree K L)) → nat_lt (length os) 64 ≡ true → (p : ℕ) × (q : ℕ) × (read any_of barred (opening opener rest) at None os done ≡ read any_of barred rest q None (record { opener = opener; at = p; before = done } ∷ os) [])
read-opening any_of barred None rest at os done h = (at, at + 1, ap (λ b. if b then read any_of barred rest (at + 1) None (record { opener = None; at = at; before = done } ∷ os) [] else Err fault.Depth) h)
read-opening any_of barred (Some opener) rest at os done h = (at + 1, at + 1 + 1, ap (λ b. if b then read any_of barred rest (at + 1 + 1) None (record { opener = Some opener; at = at + 1; before = done } ∷ os) [] else Err fault.Depth) h)

mutual
  pub read-tokens : {K L : Type 0} (any_of : K → Bool) (barred : L → Bool) (t : Tree K L) (rest : List (Token K L)) (at : ℕ) (os : List (Opened K L)) (done : List (Tree K L)) → length os + depth t ≤ 64 → is_free any_of barred (in_any_of any_of os) t ≡ true → (q : ℕ) × (read any_of barred (tokens t rest) at None os done ≡ read any_of barred rest q None os (done ++ t ∷ []))
  read-tokens any_of barred (leaf a) rest at os done low free =
      (at + 1, ap (λ b. if b then Err (fault.Barred at) else read any_of barred rest (at + 1) None os (done ++ leaf a ∷ [])) (not-true (in_any_of any_of os && barred a) free))
  read-tokens any_of barred (group opener ts) rest at os done low free =
      let room : nat_lt (length os) 64 ≡ true = grind (arith, nat_tests) in
      let opened = read-opening any_of barred opener (all_tokens ts (Closes ∷ rest)) at os done room in
      let inner = read-all_tokens any_of barred ts (Closes ∷ rest) opened.1 (record { opener = opener; at = opened.0; before = done } ∷ os) [] (omega arith) free in
      (inner.0 + 1, opened.2 ∙ inner.1 ∙ ap (λ r. read any_of barred rest (inner.0 + 1) None os (done ++ group opener r ∷ [])) (trees_of-list_of ts))

  pub read-all_tokens : {K L : Type 0} (any_of : K → Bool) (barred : L → Bool) (ts : Trees K L) (rest : List (Token K L)) (at : ℕ) (os : List (Opened K L)) (done : List (Tree K L)) → length os + all_depth ts ≤ 64 → all_free any_of barred (in_any_of any_of os) ts ≡ true → (q : ℕ) × (read any_of barred (all_tokens ts rest) at None os done ≡ read any_of barred rest q None os (done ++ list_of ts))
  read-all_tokens any_of barred no_trees rest at os done low free = (at, ap (λ d. read any_of barred rest at None os d) (sym (append-nil done)))
  read-all_tokens any_of barred (tree t ts) rest at os done low free =
      let first = read-tokens any_of barred t (all_tokens ts rest) at os done (omega arith) (and_parts _ _ free).0 in
      let others = read-all_tokens any_of barred ts rest first.0 os (done ++ t ∷ []) (omega arith) (and_parts _ _ free).1 in
      (others.0, first.1 ∙ others.1 ∙ ap (λ d. read any_of barred rest others.0 None os d) (append_assoc done (t ∷ []) (list_of ts)))

-- the printed tokens of trees in form read as the trees
pub read-printed : {K L : Type 0} (any_of : K → Bool) (barred : L → Bool) (ts : Trees K L) → all_depth ts ≤ 64 → all_free any_of barred false ts ≡ true → read any_of barred (all_tokens ts []) 0 None [] [] ≡ Ok (list_of ts)
read-printed any_of barred ts low free = let r = read-all_tokens any_of barred ts [] 0 [] [] (omega arith) free in r.1

all_tokens-append : {K L : Type 0} (xs ys : List (Tree K L)) (rest : List (Token K L)) → all_tokens (trees_of (xs ++ ys)) rest ≡ all_tokens (trees_of xs) (all_tokens (trees_of ys) rest)
all_tokens-append [] ys rest = refl
all_tokens-append (x ∷ xs) ys rest = ap (λ r. tokens x r) (all_tokens-append xs ys rest)

led_here-append : {K L : Type 0} (os : List (Opened K L)) (xs ys : List (Tree K L)) (rest : List (Token K L)) → led_here os (xs ++ ys) rest ≡ led_here os xs (all_tokens (trees_of ys) rest)
led_here-append [] xs ys rest = all_tokens-append xs ys rest
led_here-append (o ∷ os) xs ys rest = ap (λ r. led_here os o.before (opening o.opener r)) (all_tokens-append xs ys rest)

-- the opener right before, with the tokens that follow it
abbrev with_begun : {K L : Type 0} → Option K → List (Token K L) → List (Token K L)
with_begun None rest = rest
with_begun (Some opener) rest = Begins opener ∷ rest

opening-begun : {K L : Type 0} (begun : Option K) (rest : List (Token K L)) → opening begun rest ≡ with_begun begun (Opens ∷ rest)
opening-begun None rest = refl
opening-begun (Some opener) rest = refl

-- an answer under a test that is Ok where the other way is a fault
pub ok_under : {A : Type 0} (b : Bool) (r : Result A GroupFault) (e : GroupFault) (x : A) → (if b then r else Err e) ≡ Ok x → (b ≡ true) × (r ≡ Ok x)
ok_under true r e x h = (refl, h)
ok_under false r e x h = absurd (cc)

pub ok_unless : {A : Type 0} (b : Bool) (r : Result A GroupFault) (e : GroupFault) (x : A) → (if b then Err e else r) ≡ Ok x → (b ≡ false) × (r ≡ Ok x)
ok_unless true r e x h = absurd (cc)
ok_unless false r e x h = (refl, h)

-- a reading has one answer
pub both : {A : Type 0} (r : Result A GroupFault) (e : GroupFault) (a : A) → r ≡ Err e → r ≡ Ok a → ⊥
both r e a h k = cc

pub of_ok : {A : Type 0} (r : Result A GroupFault) (a x : A) → r ≡ Ok a → r ≡ Ok x → a ≡ x
of_ok r a x g h = cc

printed : {K L : Type 0} (any_of : K → Bool) (barred : L → Bool) (ts : List (Token K L)) (at : ℕ) (begun : Option K) (os : List (Opened K L)) (done out : List (Tree K L)) → read any_of barred ts at begun os done ≡ Ok out → led_here os done (with_begun begun ts) ≡ all_tokens (trees_of out) []
printed any_of barred [] at None [] done out h = ap (λ d. all_tokens (trees_of d) []) (of_ok (Ok done) done out refl h)
printed any_of barred [] at None (o ∷ os) done out h = absurd (cc)
printed any_of barred [] at (Some opener) os done out h = absurd (cc)
printed any_of barred (Opens ∷ ts) at begun os done out h =
    ap (led_here os done) (sym (opening-begun begun ts))
    ∙ printed any_of barred ts (at + 1) None (record { opener = begun; at = at; before = done } ∷ os) [] out (ok_under (nat_lt (length os) 64) _ _ out h).1
printed any_of barred (Leaf a ∷ ts) at None os done out h =
    sym (led_here-append os done (leaf a ∷ []) ts)
    ∙ printed any_of barred ts (at + 1) None os (done ++ leaf a ∷ []) out (ok_unless (in_any_of any_of os && barred a) _ _ out h).1
printed any_of barred (Begins opener ∷ ts) at None os done out h = printed any_of barred ts (at + 1) (Some opener) os done out h
printed any_of barred (Closes ∷ ts) at None [] done out h = absurd (cc)
printed any_of barred (Closes ∷ ts) at None (o ∷ os) done out h =
    sym (led_here-append os o.before (group o.opener (trees_of done) ∷ []) ts)
    ∙ printed any_of barred ts (at + 1) None os (o.before ++ group o.opener (trees_of done) ∷ []) out h
printed any_of barred (Glued ∷ ts) at None os done out h = absurd (cc)
printed any_of barred (Unknown ∷ ts) at None os done out h = absurd (cc)
printed any_of barred (Leaf a ∷ ts) at (Some opener) os done out h = absurd (cc)
printed any_of barred (Begins o ∷ ts) at (Some opener) os done out h = absurd (cc)
printed any_of barred (Closes ∷ ts) at (Some opener) os done out h = absurd (cc)
printed any_of barred (Glued ∷ ts) at (Some opener) os done out h = absurd (cc)
printed any_of barred (Unknown ∷ ts) at (Some opener) os done out h = absurd (cc)

-- what reads as trees are their printed tokens
pub read-ok : {K L : Type 0} (any_of : K → Bool) (barred : L → Bool) (ts : List (Token K L)) (out : List (Tree K L)) → read any_of barred ts 0 None [] [] ≡ Ok out → ts ≡ all_tokens (trees_of out) []
read-ok any_of barred ts out h = printed any_of barred ts 0 None [] [] out h

-- the trees that are read so far are no deeper than may be, and no barred leaf stands in an any-of group
abbrev IsSound : {K L : Type 0} → (K → Bool) → (L → Bool) → List (Opened K L) → List (Tree K L) → Type 0
IsSound any_of barred [] done = (all_depth (trees_of done) ≤ 64) × (all_free any_of barred false (trees_of done) ≡ true)
IsSound any_of barred (o ∷ os) done = (length (o ∷ os) + all_depth (trees_of done) ≤ 64) × (all_free any_of barred (in_any_of any_of (o ∷ os)) (trees_of done) ≡ true) × IsSound any_of barred os o.before

all_depth-push : {K L : Type 0} (xs : List (Tree K L)) (t : Tree K L) → all_depth (trees_of (xs ++ t ∷ [])) ≡ max (all_depth (trees_of xs)) (depth t)
all_depth-push [] t = omega arith
all_depth-push (x ∷ xs) t = omega (arith, all_depth-push xs t)

all_free-push : {K L : Type 0} (any_of : K → Bool) (barred : L → Bool) (inside : Bool) (xs : List (Tree K L)) (t : Tree K L) → all_free any_of barred inside (trees_of xs) ≡ true → is_free any_of barred inside t ≡ true → all_free any_of barred inside (trees_of (xs ++ t ∷ [])) ≡ true
all_free-push any_of barred inside [] t hs h = ap (λ b. b && true) h
all_free-push any_of barred inside (x ∷ xs) t hs h =
    ap (λ b. b && all_free any_of barred inside (trees_of (xs ++ t ∷ []))) (and_parts _ _ hs).0 ∙ all_free-push any_of barred inside xs t (and_parts _ _ hs).1 h

IsSound-room : {K L : Type 0} (any_of : K → Bool) (barred : L → Bool) (os : List (Opened K L)) (done : List (Tree K L)) → IsSound any_of barred os done → length os ≤ 64
IsSound-room any_of barred [] done s = omega arith
IsSound-room any_of barred (o ∷ os) done s = let low = s.0 in omega arith

IsSound-push : {K L : Type 0} (any_of : K → Bool) (barred : L → Bool) (os : List (Opened K L)) (done : List (Tree K L)) (t : Tree K L) → IsSound any_of barred os done → length os + depth t ≤ 64 → is_free any_of barred (in_any_of any_of os) t ≡ true → IsSound any_of barred os (done ++ t ∷ [])
IsSound-push any_of barred [] done t s low free = (let low' = s.0 in omega (arith, all_depth-push done t), all_free-push any_of barred false done t s.1 free)
IsSound-push any_of barred (o ∷ os) done t s low free = (let low' = s.0 in omega (arith, all_depth-push done t), all_free-push any_of barred (in_any_of any_of (o ∷ os)) done t s.1 free, s.2)

sound : {K L : Type 0} (any_of : K → Bool) (barred : L → Bool) (ts : List (Token K L)) (at : ℕ) (begun : Option K) (os : List (Opened K L)) (done out : List (Tree K L)) → read any_of barred ts at begun os done ≡ Ok out → IsSound any_of barred os done → IsSound any_of barred [] out
sound any_of barred [] at None [] done out h s = let P : List _ → Type 0 = λ d. IsSound any_of barred [] d in subst P (of_ok (Ok done) done out refl h) s
sound any_of barred [] at None (o ∷ os) done out h s = absurd (cc)
sound any_of barred [] at (Some opener) os done out h s = absurd (cc)
sound any_of barred (Opens ∷ ts) at begun os done out h s =
    let k = ok_under (nat_lt (length os) 64) _ _ out h in
    let room : length os < 64 = grind (arith, nat_tests, k.0) in
    sound any_of barred ts (at + 1) None (record { opener = begun; at = at; before = done } ∷ os) [] out k.1 (omega arith, refl, s)
sound any_of barred (Leaf a ∷ ts) at None os done out h s =
    let k = ok_unless (in_any_of any_of os && barred a) _ _ out h in
    let room = IsSound-room any_of barred os done s in
    sound any_of barred ts (at + 1) None os (done ++ leaf a ∷ []) out k.1 (IsSound-push any_of barred os done (leaf a) s (omega arith) (ap not k.0))
sound any_of barred (Begins opener ∷ ts) at None os done out h s = sound any_of barred ts (at + 1) (Some opener) os done out h s
sound any_of barred (Closes ∷ ts) at None [] done out h s = absurd (cc)
sound any_of barred (Closes ∷ ts) at None (o ∷ os) done out h s =
    let low = s.0 in
    sound any_of barred ts (at + 1) None os (o.before ++ group o.opener (trees_of done) ∷ []) out h (IsSound-push any_of barred os o.before (group o.opener (trees_of done)) s.2 (omega arith) s.1)
sound any_of barred (Glued ∷ ts) at None os done out h s = absurd (cc)
sound any_of barred (Unknown ∷ ts) at None os done out h s = absurd (cc)
sound any_of barred (Leaf a ∷ ts) at (Some opener) os done out h s = absurd (cc)
sound any_of barred (Begins o ∷ ts) at (Some opener) os done out h s = absurd (cc)
sound any_of barred (Closes ∷ ts) at (Some opener) os done out h s = absurd (cc)
sound any_of barred (Glued ∷ ts) at (Some opener) os done out h s = absurd (cc)
sound any_of barred (Unknown ∷ ts) at (Some opener) os done out h s = absurd (cc)

-- what is read is no deeper than 64 groups, and no barred leaf stands in an any-of group
pub read-sound : {K L : Type 0} (any_of : K → Bool) (barred : L → Bool) (ts : List (Token K L)) (out : List (Tree K L)) → read any_of barred ts 0 None [] [] ≡ Ok out → (all_depth (trees_of out) ≤ 64) × (all_free any_of barred false (trees_of out) ≡ true)
read-sound any_of barred ts out h = sound any_of barred ts 0 None [] [] out h (omega arith, refl)

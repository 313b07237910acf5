-- Where reading stops, the words have that first fault.
use Rattle.std.specs.Prelude.{nat_lt, if◌then◌else◌, ◌&&◌, ◌⊎◌, Option, Some, None, Result, Err}
use Rattle.std.specs.List.{list_all}
use Rattle.std.proofs.Common.{◌≡◌, ◌≢◌, ℕ, ◌+◌, ◌-◌, ◌<◌, ◌≤◌, Bool, true, false, List, [], ◌∷◌, ◌++◌, length, take, drop, refl, ap, sym, ◌∙◌, subst, arith, inl, inr, append_assoc, append-nil}
use Rattle.std.proofs.Math.ListN.{drop_of_length-le}
use Rattle.std.proofs.Math.Seq.{take-append_seam, take-append-add, take-length, drop-append_seam}
use Rattle.std.proofs.lemmas.Bool.{and_parts, cases_lt}
use Rattle.std.proofs.lemmas.Bool.Decides.{nat_tests}
use Rattle.std.proofs.lemmas.List.{drop-append-le, length-append, take-append-le}
use Rattle.std.proofs.lemmas.List.Folds.{list_all-append}
use Rattle.dep_group.proofs.OrderLemmas.{EachWord-append, EachWord-length, Reached, begin-read, leaves_open, text-read}
use Rattle.dep_group.proofs.ReadingLemmas.{both}
use Rattle.dep_group.proofs.TokenLemmas.{token_same}
use Rattle.dep_group.specs.Faults.{Begin, Stops, FirstWordFault, IsOutermost, IsParenthesis, IsText, FirstIs}
use Rattle.dep_group.specs.Reading.{Opened, in_any_of, outermost, read}
use Rattle.dep_group.specs.Tokens.{AreOnlyTokens, Grammar, IsOnlyToken, IsToken}
use Rattle.dep_group.specs.Trees.{Tree, group, is_any_of, leaf, trees_of}
use Rattle.dep_group.specs.Words.{is_word}
use Rattle.dep_group.specs.declared.token.GroupFault.{GroupFault}
use Rattle.dep_group.specs.declared.token.GroupFault.TheVariants as fault
use Rattle.dep_group.specs.declared.token.Opener.{Opener}
use Rattle.dep_group.specs.declared.token.Token.{Token}
use Rattle.dep_group.specs.declared.token.Token.TheVariants.{Leaf, Begins, Opens, Closes, Glued, Unknown}

-- the outermost of the groups that are open has its parenthesis where it should
abbrev Outer : {L : Type 0} → Grammar L → (L → Bool) → List (List ℕ) → List (Opened (Opener (List ℕ)) L) → Type 0
Outer g barred front [] = Unit {0}
Outer g barred front (o ∷ os) = IsOutermost g barred front (outermost o.at os)

-- reading has come behind these words, with these groups open and these trees in the innermost
pub record Stands {L : Type 0} (g : Grammar L) (barred : L → Bool) (front : List (List ℕ)) (ts : List (Token (Opener (List ℕ)) L)) (os : List (Opened (Opener (List ℕ)) L)) (done : List (Tree (Opener (List ℕ)) L)) : Type 0 where
  pub proper : list_all is_word front ≡ true
  pub only : AreOnlyTokens g front ts
  pub room : length os ≤ 64
  pub reach : Reached barred ts os done
  pub outer : Outer g barred front os

err_of : {A : Type 0} (e f : GroupFault) → ◌≡◌ {A = Result A GroupFault} (Err e) (Err f) → f ≡ e
err_of e f h = cc

-- a fault under a test that has a fault the other way
under : {A : Type 0} (b : Bool) (r : Result A GroupFault) (e f : GroupFault) → (if b then r else Err e) ≡ Err f → ((b ≡ true) × (r ≡ Err f)) ⊎ ((b ≡ false) × (f ≡ e))
under true r e f h = inl (refl, h)
under false r e f h = inr (refl, err_of e f h)

unless : {A : Type 0} (b : Bool) (r : Result A GroupFault) (e f : GroupFault) → (if b then Err e else r) ≡ Err f → ((b ≡ false) × (r ≡ Err f)) ⊎ ((b ≡ true) × (f ≡ e))
unless true r e f h = inr (refl, err_of e f h)
unless false r e f h = inl (refl, h)

one_more : {A : Type 0} (ts : List A) (t : A) → length (ts ++ t ∷ []) ≡ length ts + 1
one_more ts t = length-append ts (t ∷ [])

two_more : {A : Type 0} (ts : List A) (t u : A) → length (ts ++ t ∷ u ∷ []) ≡ length ts + 1 + 1
two_more ts t u = omega (arith, length-append ts (t ∷ u ∷ []))

-- words in the middle of which reading stops are no text
no_text : {L : Type 0} (g : Grammar L) (barred : L → Bool) (ws : List (List ℕ)) (ts : List (Token (Opener (List ℕ)) L)) (e : GroupFault) → AreOnlyTokens g ws ts → read is_any_of barred ts 0 None [] [] ≡ Err e → IsText g barred ws → ⊥
no_text g barred ws ts e only h text = let r = text-read g barred ws ts only text in both _ e r.0 h r.1

-- words behind which groups are open are no text
unfinished : {L : Type 0} (g : Grammar L) (barred : L → Bool) (ws : List (List ℕ)) (ts : List (Token (Opener (List ℕ)) L)) (o : Opened (Opener (List ℕ)) L) (os : List (Opened (Opener (List ℕ)) L)) (done : List (Tree (Opener (List ℕ)) L)) → AreOnlyTokens g ws ts → Reached barred ts (o ∷ os) done → IsText g barred ws → ⊥
unfinished g barred ws ts o os done only reach =
    no_text g barred ws ts (fault.Open (outermost o.at os)) only (ap (λ us. read is_any_of barred us 0 None [] []) (sym (append-nil ts)) ∙ reach [])

-- nor are they where an opener comes last
half : {L : Type 0} (g : Grammar L) (barred : L → Bool) (ws : List (List ℕ)) (ts : List (Token (Opener (List ℕ)) L)) (b : Opener (List ℕ)) (os : List (Opened (Opener (List ℕ)) L)) (done : List (Tree (Opener (List ℕ)) L)) → AreOnlyTokens g ws (ts ++ Begins b ∷ []) → Reached barred ts os done → IsText g barred ws → ⊥
half g barred ws ts b os done only reach = no_text g barred ws (ts ++ Begins b ∷ []) _ only (reach (Begins b ∷ []))

-- no beginning of the words that is longer than `front` is a text
abbrev NoLonger : {L : Type 0} → Grammar L → (L → Bool) → List (List ℕ) → List (List ℕ) → Type 0
NoLonger g barred front ws = (n : ℕ) → length front < n → n ≤ length ws → IsText g barred (take n ws) → ⊥

no_one : {L : Type 0} (g : Grammar L) (barred : L → Bool) (front : List (List ℕ)) (w : List ℕ) → (IsText g barred (front ++ w ∷ []) → ⊥) → NoLonger g barred front (front ++ w ∷ [])
no_one g barred front w none n longer within text =
    let whole : n ≡ length (front ++ w ∷ []) = omega (arith, one_more front w) in
    none (subst (IsText g barred) (ap (λ m. take m (front ++ w ∷ [])) whole ∙ take-length (front ++ w ∷ [])) text)

no_two : {L : Type 0} (g : Grammar L) (barred : L → Bool) (front : List (List ℕ)) (w v : List ℕ) → (IsText g barred (front ++ w ∷ []) → ⊥) → (IsText g barred (front ++ w ∷ v ∷ []) → ⊥) → NoLonger g barred front (front ++ w ∷ v ∷ [])
no_two g barred front w v none neither n longer within text = elim (cases_lt n (length front + 1 + 1)) [
  | inl short ↦
      let one : n ≡ length front + 1 = omega arith in
      none (subst (IsText g barred) (ap (λ m. take m (front ++ w ∷ v ∷ [])) one ∙ take-append-add front (w ∷ v ∷ []) 1) text)
  | inr long ↦
      let whole : n ≡ length (front ++ w ∷ v ∷ []) = omega (arith, two_more front w v) in
      neither (subst (IsText g barred) (ap (λ m. take m (front ++ w ∷ v ∷ [])) whole ∙ take-length (front ++ w ∷ v ∷ [])) text)
]

pub place-within : {L : Type 0} (g : Grammar L) (start at : ℕ) (ws : List (List ℕ)) → IsParenthesis g start at (drop start ws) → start ≤ length ws
place-within g start at ws h = elim (cases_lt (length ws) start) [
  | inl past ↦ absurd (subst (IsParenthesis g start at) (drop_of_length-le ws (let le : length ws ≤ start = omega arith in le)) h)
  | inr within ↦ within
]

place-more : {L : Type 0} (g : Grammar L) (start at : ℕ) (ws more : List (List ℕ)) → IsParenthesis g start at ws → IsParenthesis g start at (ws ++ more)
place-more g start at [] more h = absurd h
place-more g start at (w ∷ ws) more h = h

-- a group stays the outermost while the text has no end
grows : {L : Type 0} (g : Grammar L) (barred : L → Bool) (front more : List (List ℕ)) (at : ℕ) → IsOutermost g barred front at → NoLonger g barred front (front ++ more) → IsOutermost g barred (front ++ more) at
grows g barred front more at o none =
    let within : o.start ≤ length front = place-within g o.start at front o.place in
    record {
      start = o.start;
      before = subst (IsText g barred) (sym (take-append-le o.start front more within)) o.before;
      last = λ n behind inside text. elim (cases_lt (length front) n) [
        | inl longer ↦ none n longer inside text
        | inr shorter ↦ o.last n behind shorter (subst (IsText g barred) (take-append-le n front more shorter) text)
      ];
      place = subst (IsParenthesis g o.start at) (sym (drop-append-le o.start front more within)) (place-more g o.start at (drop o.start front) more o.place);
    }

-- the first group that opens behind a text is the outermost
begins : {L : Type 0} (g : Grammar L) (barred : L → Bool) (front more : List (List ℕ)) (at : ℕ) → IsText g barred front → NoLonger g barred front (front ++ more) → IsParenthesis g (length front) at more → IsOutermost g barred (front ++ more) at
begins g barred front more at text none place =
    record {
      start = length front;
      before = subst (IsText g barred) (sym (take-append_seam front more)) text;
      last = none;
      place = subst (IsParenthesis g (length front) at) (sym (drop-append_seam front more)) place;
    }

fewer-outer : {L : Type 0} (g : Grammar L) (barred : L → Bool) (front : List (List ℕ)) (o : Opened (Opener (List ℕ)) L) (os : List (Opened (Opener (List ℕ)) L)) → Outer g barred front (o ∷ os) → Outer g barred front os
fewer-outer g barred front o [] h = tt
fewer-outer g barred front o (p ∷ os) h = h

-- one more word that opens nothing
outer-keeps : {L : Type 0} (g : Grammar L) (barred : L → Bool) (front : List (List ℕ)) (w : List ℕ) (ts : List (Token (Opener (List ℕ)) L)) (os : List (Opened (Opener (List ℕ)) L)) (done : List (Tree (Opener (List ℕ)) L)) → Outer g barred front os → AreOnlyTokens g (front ++ w ∷ []) ts → Reached barred ts os done → Outer g barred (front ++ w ∷ []) os
outer-keeps g barred front w ts [] done h only reach = tt
outer-keeps g barred front w ts (o ∷ os) done h only reach =
    grows g barred front (w ∷ []) (outermost o.at os) h (no_one g barred front w (unfinished g barred (front ++ w ∷ []) ts o os done only reach))

-- a group opens
outer-opens : {L : Type 0} (g : Grammar L) (barred : L → Bool) (front more : List (List ℕ)) (o : Opened (Opener (List ℕ)) L) (os : List (Opened (Opener (List ℕ)) L)) → Outer g barred front os → (os ≡ [] → IsText g barred front) → NoLonger g barred front (front ++ more) → IsParenthesis g (length front) o.at more → Outer g barred (front ++ more) (o ∷ os)
outer-opens g barred front more o [] h text none place = begins g barred front more o.at (text refl) none place
outer-opens g barred front more o (p ∷ os) h text none place = grows g barred front more (outermost p.at os) h none

-- where no group is open the words are a text
text_behind : {L : Type 0} (g : Grammar L) (barred : L → Bool) (front : List (List ℕ)) (ts : List (Token (Opener (List ℕ)) L)) (os : List (Opened (Opener (List ℕ)) L)) (done : List (Tree (Opener (List ℕ)) L)) → Stands g barred front ts os done → os ≡ [] → IsText g barred front
text_behind g barred front ts [] done s e = subst (IsText g barred) (append-nil front) (leaves_open g barred front ts [] done s.proper s.only s.reach)
text_behind g barred front ts (o ∷ os) done s e = absurd (cc)

-- reading goes on over some words
further : {L : Type 0} (g : Grammar L) (barred : L → Bool) (front more : List (List ℕ)) (ts us : List (Token (Opener (List ℕ)) L)) (os os' : List (Opened (Opener (List ℕ)) L)) (done done' : List (Tree (Opener (List ℕ)) L)) (n : ℕ) → Stands g barred front ts os done → AreOnlyTokens g more us → list_all is_word more ≡ true → length os' ≤ 64 → length (ts ++ us) ≡ n → ((rest : List (Token (Opener (List ℕ)) L)) → read is_any_of barred (us ++ rest) (length ts) None os done ≡ read is_any_of barred rest n None os' done') → (AreOnlyTokens g (front ++ more) (ts ++ us) → Reached barred (ts ++ us) os' done' → Outer g barred (front ++ more) os') → Stands g barred (front ++ more) (ts ++ us) os' done'
further g barred front more ts us os os' done done' n s only proper room count go outer =
    let all = EachWord-append (IsOnlyToken g) front more ts us s.only only in
    let reach : Reached barred (ts ++ us) os' done' =
    λ rest. ap (λ vs. read is_any_of barred vs 0 None [] []) (append_assoc ts us rest) ∙ s.reach (us ++ rest) ∙ go rest ∙ ap (λ m. read is_any_of barred rest m None os' done') (sym count) in
    record {
      proper = list_all-append is_word front more ∙ ap (λ b. b && list_all is_word more) s.proper ∙ proper;
      only = all;
      room = room;
      reach = reach;
      outer = outer all reach;
    }

-- the fault is here
stop : {L : Type 0} (g : Grammar L) (barred : L → Bool) (front back : List (List ℕ)) (ts : List (Token (Opener (List ℕ)) L)) (os : List (Opened (Opener (List ℕ)) L)) (done : List (Tree (Opener (List ℕ)) L)) (e f : GroupFault) → Stands g barred front ts os done → Stops g barred front (length os) back e → f ≡ e → FirstWordFault g barred (front ++ back) f
stop g barred front back ts os done e f s h same =
    subst (FirstWordFault g barred (front ++ back)) (sym same)
    (record { front = front; back = back; whole = refl; unclosed = length os; order = leaves_open g barred front ts os done s.proper s.only s.reach; here = h })

index : {L : Type 0} (g : Grammar L) (barred : L → Bool) (front : List (List ℕ)) (ts : List (Token (Opener (List ℕ)) L)) (os : List (Opened (Opener (List ℕ)) L)) (done : List (Tree (Opener (List ℕ)) L)) → Stands g barred front ts os done → length ts ≡ length front
index g barred front ts os done s = EachWord-length (IsOnlyToken g) front ts s.only

-- a leaf that is refused begins no text with the words before it
barred_here : {L : Type 0} (g : Grammar L) (barred : L → Bool) (front : List (List ℕ)) (w : List ℕ) (ts : List (Token (Opener (List ℕ)) L)) (os : List (Opened (Opener (List ℕ)) L)) (done : List (Tree (Opener (List ℕ)) L)) (a : L) → Stands g barred front ts os done → IsOnlyToken g w (Leaf a) → (in_any_of is_any_of os && barred a) ≡ true → Begin g barred (front ++ w ∷ []) → ⊥
barred_here g barred front w ts os done a s h refused begin =
    let r = begin-read g barred (front ++ w ∷ []) (ts ++ Leaf a ∷ []) (EachWord-append (IsOnlyToken g) front (w ∷ []) ts (Leaf a ∷ []) s.only (h, tt)) begin in
    both _ (fault.Barred (length ts)) r.1
    (ap (λ us. read is_any_of barred us 0 None [] []) (append_assoc ts (Leaf a ∷ []) r.0) ∙ s.reach (Leaf a ∷ r.0) ∙ ap (λ b. if b then Err (fault.Barred (length ts)) else read is_any_of barred r.0 (length ts + 1) None os (done ++ leaf a ∷ [])) refused)
    r.2

-- a word with another token opens no parenthesis
other : {L : Type 0} (g : Grammar L) (w : List ℕ) (t : Token (Opener (List ℕ)) L) → IsOnlyToken g w t → (t ≡ Opens → ⊥) → IsToken g w Opens → ⊥
other g w t h none k = none (token_same g w t Opens h k)

-- the group that a parenthesis at the end of the words opens
abbrev new_group : {L : Type 0} → Option (Opener (List ℕ)) → ℕ → List (Tree (Opener (List ℕ)) L) → Opened (Opener (List ℕ)) L
new_group b at done = record { opener = b; at = at; before = done }

opened_one : {L : Type 0} (g : Grammar L) (barred : L → Bool) (front : List (List ℕ)) (w : List ℕ) (ts : List (Token (Opener (List ℕ)) L)) (os : List (Opened (Opener (List ℕ)) L)) (done : List (Tree (Opener (List ℕ)) L)) → Stands g barred front ts os done → IsOnlyToken g w Opens → is_word w ≡ true → nat_lt (length os) 64 ≡ true → Stands g barred (front ++ w ∷ []) (ts ++ Opens ∷ []) (new_group None (length ts) done ∷ os) []
opened_one g barred front w ts os done s h proper room =
    let o = new_group None (length ts) done in
    further g barred front (w ∷ []) ts (Opens ∷ []) os (o ∷ os) done [] (length ts + 1) s (h, tt) (ap (λ b. b && true) proper) (grind (arith, nat_tests, room)) (one_more ts Opens)
    (λ rest. ap (λ b. if b then read is_any_of barred rest (length ts + 1) None (o ∷ os) [] else Err fault.Depth) room)
    (λ only reach. outer-opens g barred front (w ∷ []) o os s.outer (text_behind g barred front ts os done s) (no_one g barred front w (unfinished g barred (front ++ w ∷ []) (ts ++ Opens ∷ []) o os [] only reach)) (inl (h, index g barred front ts os done s)))

opened_two : {L : Type 0} (g : Grammar L) (barred : L → Bool) (front : List (List ℕ)) (w v : List ℕ) (b : Opener (List ℕ)) (ts : List (Token (Opener (List ℕ)) L)) (os : List (Opened (Opener (List ℕ)) L)) (done : List (Tree (Opener (List ℕ)) L)) → Stands g barred front ts os done → IsOnlyToken g w (Begins b) → IsOnlyToken g v Opens → is_word w ≡ true → is_word v ≡ true → nat_lt (length os) 64 ≡ true → Stands g barred (front ++ w ∷ v ∷ []) (ts ++ Begins b ∷ Opens ∷ []) (new_group (Some b) (length ts + 1) done ∷ os) []
opened_two g barred front w v b ts os done s h k proper proper' room =
    let o = new_group (Some b) (length ts + 1) done in
    further g barred front (w ∷ v ∷ []) ts (Begins b ∷ Opens ∷ []) os (o ∷ os) done [] (length ts + 1 + 1) s (h, (k, tt)) (ap (λ c. c && (is_word v && true)) proper ∙ ap (λ c. c && true) proper') (grind (arith, nat_tests, room)) (two_more ts (Begins b) Opens)
    (λ rest. ap (λ c. if c then read is_any_of barred rest (length ts + 1 + 1) None (o ∷ os) [] else Err fault.Depth) room)
    (λ only reach. outer-opens g barred front (w ∷ v ∷ []) o os s.outer (text_behind g barred front ts os done s)
    (no_two g barred front w v (half g barred (front ++ w ∷ []) ts b os done (EachWord-append (IsOnlyToken g) front (w ∷ []) ts (Begins b ∷ []) s.only (h, tt)) s.reach)
    (unfinished g barred (front ++ w ∷ v ∷ []) (ts ++ Begins b ∷ Opens ∷ []) o os [] only reach))
    (inr ((b, h), ap (λ n. n + 1) (index g barred front ts os done s))))

leaf_read : {L : Type 0} (g : Grammar L) (barred : L → Bool) (front : List (List ℕ)) (w : List ℕ) (a : L) (ts : List (Token (Opener (List ℕ)) L)) (os : List (Opened (Opener (List ℕ)) L)) (done : List (Tree (Opener (List ℕ)) L)) → Stands g barred front ts os done → IsOnlyToken g w (Leaf a) → is_word w ≡ true → (in_any_of is_any_of os && barred a) ≡ false → Stands g barred (front ++ w ∷ []) (ts ++ Leaf a ∷ []) os (done ++ leaf a ∷ [])
leaf_read g barred front w a ts os done s h proper free =
    further g barred front (w ∷ []) ts (Leaf a ∷ []) os os done (done ++ leaf a ∷ []) (length ts + 1) s (h, tt) (ap (λ b. b && true) proper) s.room (one_more ts (Leaf a))
    (λ rest. ap (λ b. if b then Err (fault.Barred (length ts)) else read is_any_of barred rest (length ts + 1) None os (done ++ leaf a ∷ [])) free)
    (λ only reach. outer-keeps g barred front w (ts ++ Leaf a ∷ []) os (done ++ leaf a ∷ []) s.outer only reach)

closed : {L : Type 0} (g : Grammar L) (barred : L → Bool) (front : List (List ℕ)) (w : List ℕ) (ts : List (Token (Opener (List ℕ)) L)) (o : Opened (Opener (List ℕ)) L) (os : List (Opened (Opener (List ℕ)) L)) (done : List (Tree (Opener (List ℕ)) L)) → Stands g barred front ts (o ∷ os) done → IsOnlyToken g w Closes → is_word w ≡ true → Stands g barred (front ++ w ∷ []) (ts ++ Closes ∷ []) os (o.before ++ group o.opener (trees_of done) ∷ [])
closed g barred front w ts o os done s h proper =
    let done' = o.before ++ group o.opener (trees_of done) ∷ [] in
    let room = s.room in
    further g barred front (w ∷ []) ts (Closes ∷ []) (o ∷ os) os done done' (length ts + 1) s (h, tt) (ap (λ b. b && true) proper) (omega (arith, room)) (one_more ts Closes)
    (λ rest. refl)
    (λ only reach. outer-keeps g barred front w (ts ++ Closes ∷ []) os done' (fewer-outer g barred front o os s.outer) only reach)

-- a fault behind more words is one of all the words
behind : {L : Type 0} (g : Grammar L) (barred : L → Bool) (front more ws : List (List ℕ)) (f : GroupFault) → FirstWordFault g barred ((front ++ more) ++ ws) f → FirstWordFault g barred (front ++ (more ++ ws)) f
behind g barred front more ws f h = let P : List (List ℕ) → Type 0 = λ vs. FirstWordFault g barred vs f in subst P (append_assoc front more ws) h

at_index : {L : Type 0} (barred : L → Bool) (us : List (Token (Opener (List ℕ)) L)) (m n : ℕ) (os : List (Opened (Opener (List ℕ)) L)) (done : List (Tree (Opener (List ℕ)) L)) (f : GroupFault) → m ≡ n → read is_any_of barred us n None os done ≡ Err f → read is_any_of barred us m None os done ≡ Err f
at_index barred us m n os done f e h = ap (λ k. read is_any_of barred us k None os done) e ∙ h

full : (n : ℕ) → n ≤ 64 → nat_lt n 64 ≡ false → n ≡ 64
full n room h = grind (arith, nat_tests)

-- where an opener has no parenthesis behind it the opener is told
no_group : {L : Type 0} (g : Grammar L) (barred : L → Bool) (front : List (List ℕ)) (w : List ℕ) (ws : List (List ℕ)) (b : Opener (List ℕ)) (ts : List (Token (Opener (List ℕ)) L)) (os : List (Opened (Opener (List ℕ)) L)) (done : List (Tree (Opener (List ℕ)) L)) (f : GroupFault) → Stands g barred front ts os done → IsOnlyToken g w (Begins b) → ¬ FirstIs g ws Opens → f ≡ fault.Leaf (length ts + 1 - 1) → FirstWordFault g barred (front ++ w ∷ ws) f
no_group g barred front w ws b ts os done f s h none e =
    let back : length ts + 1 - 1 ≡ length ts = omega arith in
    stop g barred front (w ∷ ws) ts os done (fault.Leaf (length ts)) f s (index g barred front ts os done s, inr ((b, h), none)) (e ∙ ap fault.Leaf back)

stops : {L : Type 0} (g : Grammar L) (barred : L → Bool) (front ws : List (List ℕ)) (ts us : List (Token (Opener (List ℕ)) L)) (os : List (Opened (Opener (List ℕ)) L)) (done : List (Tree (Opener (List ℕ)) L)) (f : GroupFault) → Stands g barred front ts os done → AreOnlyTokens g ws us → list_all is_word ws ≡ true → read is_any_of barred us (length ts) None os done ≡ Err f → FirstWordFault g barred (front ++ ws) f
stops g barred front [] ts [] [] done f s h p r = absurd (cc)
stops g barred front [] ts [] (o ∷ os) done f s h p r = stop g barred front [] ts (o ∷ os) done (fault.Open (outermost o.at os)) f s (refl, s.outer) (err_of _ f r)
stops g barred front [] ts (u ∷ us) os done f s h p r = absurd h
stops g barred front (w ∷ ws) ts [] os done f s h p r = absurd h
stops g barred front (w ∷ ws) ts (Opens ∷ us) os done f s h p r = elim (under (nat_lt (length os) 64) _ fault.Depth f r) [
  | inl k ↦
      let s' = opened_one g barred front w ts os done s h.0 (and_parts _ _ p).0 k.0 in
      behind g barred front (w ∷ []) ws f (stops g barred (front ++ w ∷ []) ws (ts ++ Opens ∷ []) us (new_group None (length ts) done ∷ os) [] f s' h.1 (and_parts _ _ p).1 (at_index barred us _ _ _ [] f (one_more ts Opens) k.1))
  | inr k ↦ stop g barred front (w ∷ ws) ts os done fault.Depth f s (full (length os) s.room k.0, inl h.0) k.1
]
stops g barred front (w ∷ ws) ts (Leaf a ∷ us) os done f s h p r = elim (unless (in_any_of is_any_of os && barred a) _ (fault.Barred (length ts)) f r) [
  | inl k ↦
      let s' = leaf_read g barred front w a ts os done s h.0 (and_parts _ _ p).0 k.0 in
      behind g barred front (w ∷ []) ws f (stops g barred (front ++ w ∷ []) ws (ts ++ Leaf a ∷ []) us os (done ++ leaf a ∷ []) f s' h.1 (and_parts _ _ p).1 (at_index barred us _ _ os _ f (one_more ts (Leaf a)) k.1))
  | inr k ↦
      stop g barred front (w ∷ ws) ts os done (fault.Barred (length ts)) f s
      (index g barred front ts os done s, record { leaf = a; token = h.0.0; is_barred = (and_parts _ _ k.0).1; no_text = barred_here g barred front w ts os done a s h.0 k.0 }) k.1
]
stops g barred front (w ∷ ws) ts (Closes ∷ us) [] done f s h p r = stop g barred front (w ∷ ws) ts [] done (fault.Close (length ts)) f s (index g barred front ts [] done s, refl, h.0) (err_of _ f r)
stops g barred front (w ∷ ws) ts (Closes ∷ us) (o ∷ os) done f s h p r =
    let done' = o.before ++ group o.opener (trees_of done) ∷ [] in
    let s' = closed g barred front w ts o os done s h.0 (and_parts _ _ p).0 in
    behind g barred front (w ∷ []) ws f (stops g barred (front ++ w ∷ []) ws (ts ++ Closes ∷ []) us os done' f s' h.1 (and_parts _ _ p).1 (at_index barred us _ _ os done' f (one_more ts Closes) r))
stops g barred front (w ∷ ws) ts (Glued ∷ us) os done f s h p r = stop g barred front (w ∷ ws) ts os done (fault.NoSpace (length ts)) f s (index g barred front ts os done s, h.0) (err_of _ f r)
stops g barred front (w ∷ ws) ts (Unknown ∷ us) os done f s h p r = stop g barred front (w ∷ ws) ts os done (fault.Leaf (length ts)) f s (index g barred front ts os done s, inl h.0) (err_of _ f r)
stops g barred front (w ∷ []) ts (Begins b ∷ []) os done f s h p r = no_group g barred front w [] b ts os done f s h.0 (λ k. k) (err_of _ f r)
stops g barred front (w ∷ []) ts (Begins b ∷ (u ∷ us)) os done f s h p r = absurd h.1
stops g barred front (w ∷ (v ∷ ws)) ts (Begins b ∷ []) os done f s h p r = absurd h.1
stops g barred front (w ∷ (v ∷ ws)) ts (Begins b ∷ (Opens ∷ us)) os done f s h p r = elim (under (nat_lt (length os) 64) _ fault.Depth f r) [
  | inl k ↦
      let s' = opened_two g barred front w v b ts os done s h.0 h.1.0 (and_parts _ _ p).0 (and_parts _ _ (and_parts _ _ p).1).0 k.0 in
      behind g barred front (w ∷ v ∷ []) ws f (stops g barred (front ++ w ∷ v ∷ []) ws (ts ++ Begins b ∷ Opens ∷ []) us (new_group (Some b) (length ts + 1) done ∷ os) [] f s' h.1.1 (and_parts _ _ (and_parts _ _ p).1).1 (at_index barred us _ _ _ [] f (two_more ts (Begins b) Opens) k.1))
  | inr k ↦ stop g barred front (w ∷ v ∷ ws) ts os done fault.Depth f s (full (length os) s.room k.0, inr ((b, h.0), h.1.0)) k.1
]
stops g barred front (w ∷ (v ∷ ws)) ts (Begins b ∷ (Leaf a ∷ us)) os done f s h p r = no_group g barred front w (v ∷ ws) b ts os done f s h.0 (other g v (Leaf a) h.1.0 (λ e. cc)) (err_of _ f r)
stops g barred front (w ∷ (v ∷ ws)) ts (Begins b ∷ (Begins c ∷ us)) os done f s h p r = no_group g barred front w (v ∷ ws) b ts os done f s h.0 (other g v (Begins c) h.1.0 (λ e. cc)) (err_of _ f r)
stops g barred front (w ∷ (v ∷ ws)) ts (Begins b ∷ (Closes ∷ us)) os done f s h p r = no_group g barred front w (v ∷ ws) b ts os done f s h.0 (other g v Closes h.1.0 (λ e. cc)) (err_of _ f r)
stops g barred front (w ∷ (v ∷ ws)) ts (Begins b ∷ (Glued ∷ us)) os done f s h p r = no_group g barred front w (v ∷ ws) b ts os done f s h.0 (other g v Glued h.1.0 (λ e. cc)) (err_of _ f r)
stops g barred front (w ∷ (v ∷ ws)) ts (Begins b ∷ (Unknown ∷ us)) os done f s h p r = no_group g barred front w (v ∷ ws) b ts os done f s h.0 (other g v Unknown h.1.0 (λ e. cc)) (err_of _ f r)

-- before the first word
start : {L : Type 0} (g : Grammar L) (barred : L → Bool) → Stands g barred [] [] [] []
start g barred = record { proper = refl; only = tt; room = omega arith; reach = λ rest. refl; outer = tt }

-- memory may run out on any words
pub memory_word_fault : {L : Type 0} (g : Grammar L) (barred : L → Bool) (ws : List (List ℕ)) → FirstWordFault g barred ws fault.Memory
memory_word_fault g barred ws = stop g barred [] ws [] [] [] fault.Memory fault.Memory (start g barred) tt refl

-- the fault with which the reading of words stops is the first that they have
pub first_word_fault : {L : Type 0} (g : Grammar L) (barred : L → Bool) (ws : List (List ℕ)) (ts : List (Token (Opener (List ℕ)) L)) (f : GroupFault) → list_all is_word ws ≡ true → AreOnlyTokens g ws ts → (f ≢ fault.Memory → read is_any_of barred ts 0 None [] [] ≡ Err f) → FirstWordFault g barred ws f
first_word_fault g barred ws ts f proper only r = go f r
  where
    known : (f : GroupFault) → read is_any_of barred ts 0 None [] [] ≡ Err f → FirstWordFault g barred ws f
    known f e = stops g barred [] ws [] ts [] [] f (start g barred) only proper e

    go : (f : GroupFault) → (f ≢ fault.Memory → read is_any_of barred ts 0 None [] [] ≡ Err f) → FirstWordFault g barred ws f
    go (fault.Leaf at) r = known (fault.Leaf at) (r (λ e. cc))
    go (fault.Open at) r = known (fault.Open at) (r (λ e. cc))
    go (fault.Close at) r = known (fault.Close at) (r (λ e. cc))
    go (fault.NoSpace at) r = known (fault.NoSpace at) (r (λ e. cc))
    go (fault.Barred at) r = known (fault.Barred at) (r (λ e. cc))
    go fault.Depth r = known fault.Depth (r (λ e. cc))
    go fault.Memory r = memory_word_fault g barred ws

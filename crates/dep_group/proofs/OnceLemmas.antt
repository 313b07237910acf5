-- Words have one first fault at most, and a text in form has none.
use Rattle.std.specs.Prelude.{map, nat_lt, if◌then◌else◌, ◌&&◌, Option, Some, None, Result, Ok, Err}
use Rattle.std.proofs.Common.{◌≡◌, ◌≢◌, ℕ, zero, suc, ◌+◌, ◌<◌, ◌≤◌, Bool, true, false, List, [], ◌∷◌, ◌++◌, length, drop, refl, ap, sym, ◌∙◌, subst, arith, inl, inr, append_assoc, append-nil}
use Rattle.std.proofs.Math.ListN.{drop_of_length-le}
use Rattle.std.proofs.Math.Seq.{take-length}
use Rattle.std.proofs.lemmas.Bool.{cases_lt}
use Rattle.std.proofs.lemmas.Bool.Decides.{nat_tests}
use Rattle.basics.proofs.Lists.{heads, tails}
use Rattle.dep_group.proofs.MapLemmas.{read-map}
use Rattle.dep_group.proofs.OrderLemmas.{EachWord-parted, Reached, closes, closes-count}
use Rattle.dep_group.proofs.ReadingLemmas.{ok_under, ok_unless, read-printed}
use Rattle.dep_group.proofs.StopLemmas.{place-within}
use Rattle.dep_group.proofs.TokenLemmas.{token_same}
use Rattle.dep_group.specs.Faults.{Stops, FirstWordFault, IsOutermost, IsParenthesis, IsText, LeavesOpen, FirstIs, closings}
use Rattle.dep_group.specs.Maps.{answer_map, token_map, tree_map}
use Rattle.dep_group.specs.Reading.{Opened, all_tokens, in_any_of, list_of, read}
use Rattle.dep_group.specs.Shapes.{shape}
use Rattle.dep_group.specs.Tokens.{AreTokens, EachWord, Grammar, IsToken}
use Rattle.dep_group.specs.Trees.{Tree, group, is_any_of, leaf, trees_of}
use Rattle.dep_group.specs.declared.shape.Shape.{Shape}
use Rattle.dep_group.specs.declared.shape.Shape.TheVariants as shapes
use Rattle.dep_group.specs.declared.token.GroupFault.{GroupFault}
use Rattle.dep_group.specs.declared.token.GroupFault.TheVariants as fault
use Rattle.dep_group.specs.declared.token.Opener.{Opener}
use Rattle.dep_group.specs.declared.token.Token.{Token}
use Rattle.dep_group.specs.declared.token.Token.TheVariants.{Leaf, Begins, Opens, Closes, Glued, Unknown}

-- the leaves of the grammar that have one text are barred alike
abbrev pub OneMark : {L : Type 0} → Grammar L → (L → Bool) → Type 0
OneMark g barred = (a b : _) → g.IsLeaf a → g.IsLeaf b → g.spell a ≡ g.spell b → barred a ≡ barred b

-- a token with a mark for its leaf: whether it is barred is all that a fault asks of it
abbrev mark : {L : Type 0} → (L → Bool) → Token (Opener (List ℕ)) L → Token (Opener (List ℕ)) Bool
mark barred t = token_map (λ o. o) barred t

abbrev is_barred : Bool → Bool
is_barred b = b

abbrev Marked : Type 0
Marked = Token (Opener (List ℕ)) Bool

abbrev IsMarked : {L : Type 0} → Grammar L → (L → Bool) → List ℕ → Marked → Type 0
IsMarked g barred w m = (t : Token (Opener (List ℕ)) _) × IsToken g w t × (mark barred t ≡ m)

abbrev AreMarked : {L : Type 0} → Grammar L → (L → Bool) → List (List ℕ) → List Marked → Type 0
AreMarked g barred ws ms = EachWord (IsMarked g barred) ws ms

marked : {L : Type 0} (g : Grammar L) (barred : L → Bool) (ws : List (List ℕ)) (ts : List (Token (Opener (List ℕ)) L)) → AreTokens g ws ts → AreMarked g barred ws (map (mark barred) ts)
marked g barred [] [] h = tt
marked g barred [] (t ∷ ts) h = absurd h
marked g barred (w ∷ ws) [] h = absurd h
marked g barred (w ∷ ws) (t ∷ ts) h = ((t, h.0, refl), marked g barred ws ts h.1)

closes-marked : {L : Type 0} (g : Grammar L) (barred : L → Bool) (n : ℕ) → AreMarked g barred (closings n) (closes n)
closes-marked g barred zero = tt
closes-marked g barred (suc n) = ((Closes, refl, refl), closes-marked g barred n)

alike : {L : Type 0} (g : Grammar L) (barred : L → Bool) → OneMark g barred → (w : List ℕ) (t u : Token (Opener (List ℕ)) L) → IsToken g w t → IsToken g w u → mark barred t ≡ mark barred u
alike g barred one w (Leaf a) (Leaf b) h k = ap Leaf (one a b h.1 k.1 (sym h.0 ∙ k.0))
alike g barred one w (Leaf a) (Begins o) h k = ap (mark barred) (sym (token_same g w (Begins o) (Leaf a) k h))
alike g barred one w (Leaf a) Opens h k = ap (mark barred) (sym (token_same g w Opens (Leaf a) k h))
alike g barred one w (Leaf a) Closes h k = ap (mark barred) (sym (token_same g w Closes (Leaf a) k h))
alike g barred one w (Leaf a) Glued h k = ap (mark barred) (sym (token_same g w Glued (Leaf a) k h))
alike g barred one w (Leaf a) Unknown h k = ap (mark barred) (sym (token_same g w Unknown (Leaf a) k h))
alike g barred one w (Begins o) u h k = ap (mark barred) (token_same g w (Begins o) u h k)
alike g barred one w Opens u h k = ap (mark barred) (token_same g w Opens u h k)
alike g barred one w Closes u h k = ap (mark barred) (token_same g w Closes u h k)
alike g barred one w Glued u h k = ap (mark barred) (token_same g w Glued u h k)
alike g barred one w Unknown u h k = ap (mark barred) (token_same g w Unknown u h k)

mark_same : {L : Type 0} (g : Grammar L) (barred : L → Bool) → OneMark g barred → (w : List ℕ) (m n : Marked) → IsMarked g barred w m → IsMarked g barred w n → m ≡ n
mark_same g barred one w m n h k = sym h.2 ∙ alike g barred one w h.0 k.0 h.1 k.1 ∙ k.2

marks_same : {L : Type 0} (g : Grammar L) (barred : L → Bool) → OneMark g barred → (ws : List (List ℕ)) (ms ns : List Marked) → AreMarked g barred ws ms → AreMarked g barred ws ns → ms ≡ ns
marks_same g barred one [] [] [] h k = refl
marks_same g barred one [] [] (n ∷ ns) h k = absurd k
marks_same g barred one [] (m ∷ ms) ns h k = absurd h
marks_same g barred one (w ∷ ws) [] ns h k = absurd h
marks_same g barred one (w ∷ ws) (m ∷ ms) [] h k = absurd k
marks_same g barred one (w ∷ ws) (m ∷ ms) (n ∷ ns) h k = ap (λ x. x ∷ ms) (mark_same g barred one w m n h.0 k.0) ∙ ap (λ xs. n ∷ xs) (marks_same g barred one ws ms ns h.1 k.1)

-- the text that the words make with some more, as marked tokens that are read to the end
record Goes {L : Type 0} (g : Grammar L) (barred : L → Bool) (front more : List (List ℕ)) : Type 0 where
  left : List Marked
  right : List Marked
  out : List (Tree (Opener (List ℕ)) Bool)
  at_left : AreMarked g barred front left
  at_right : AreMarked g barred more right
  ok : read is_any_of is_barred (left ++ right) 0 None [] [] ≡ Ok out

goes : {L : Type 0} (g : Grammar L) (barred : L → Bool) (front more : List (List ℕ)) → IsText g barred (front ++ more) → Goes g barred front more
goes g barred front more text =
    let all = all_tokens text.0 [] in
    let P : List (List ℕ) → Type 0 = λ us. AreTokens g us all in
    let form = text.1 in
    let p = EachWord-parted (IsMarked g barred) front more (map (mark barred) all) (marked g barred (front ++ more) all (subst P (sym text.2) form.spelled)) in
    let printed = read-map (λ o. o) barred is_any_of is_any_of barred is_barred (λ j. refl) (λ a. refl) all 0 None [] [] in
    record {
      left = p.left;
      right = p.right;
      out = map (tree_map (λ o. o) barred) (list_of text.0);
      at_left = p.at_left;
      at_right = p.at_right;
      ok = ap (λ us. read is_any_of is_barred us 0 None [] []) (sym p.whole) ∙ printed ∙ ap (answer_map (λ o. o) barred) (read-printed is_any_of barred text.0 form.low form.free);
    }

-- what tokens that are read to the end lead to on the way
record Way {L : Type 0} (barred : L → Bool) (ts : List (Token (Opener (List ℕ)) L)) (at : ℕ) (begun : Option (Opener (List ℕ))) (os : List (Opened (Opener (List ℕ)) L)) (done : List (Tree (Opener (List ℕ)) L)) : Type 0 where
  begun' : Option (Opener (List ℕ))
  os' : List (Opened (Opener (List ℕ)) L)
  done' : List (Tree (Opener (List ℕ)) L)
  same : (rest : List (Token (Opener (List ℕ)) L)) → read is_any_of barred (ts ++ rest) at begun os done ≡ read is_any_of barred rest (at + length ts) begun' os' done'

-- one token more, where reading goes on behind it
after : {L : Type 0} (barred : L → Bool) (t : Token (Opener (List ℕ)) L) (ts : List (Token (Opener (List ℕ)) L)) (at : ℕ) (begun b : Option (Opener (List ℕ))) (os qs : List (Opened (Opener (List ℕ)) L)) (done ds : List (Tree (Opener (List ℕ)) L)) → ((rest : List (Token (Opener (List ℕ)) L)) → read is_any_of barred (t ∷ rest) at begun os done ≡ read is_any_of barred rest (at + 1) b qs ds) → Way barred ts (at + 1) b qs ds → Way barred (t ∷ ts) at begun os done
after barred t ts at begun b os qs done ds step w =
    record {
      begun' = w.begun';
      os' = w.os';
      done' = w.done';
      same = λ rest. step (ts ++ rest) ∙ w.same rest ∙ ap (λ n. read is_any_of barred rest n w.begun' w.os' w.done') (let e : at + 1 + length ts ≡ at + length (t ∷ ts) = omega arith in e);
    }

way : {L : Type 0} (barred : L → Bool) (ts more : List (Token (Opener (List ℕ)) L)) (at : ℕ) (begun : Option (Opener (List ℕ))) (os : List (Opened (Opener (List ℕ)) L)) (done out : List (Tree (Opener (List ℕ)) L)) → read is_any_of barred (ts ++ more) at begun os done ≡ Ok out → Way barred ts at begun os done
way barred [] more at begun os done out h =
    let w : Way barred [] at begun os done = record {
      begun' = begun;
      os' = os;
      done' = done;
      same = λ rest. ap (λ n. read is_any_of barred rest n begun os done) (let e : at ≡ at + 0 = omega arith in e);
    } in
    w
way barred (Opens ∷ ts) more at begun os done out h =
    let o : Opened (Opener (List ℕ)) _ = record { opener = begun; at = at; before = done } in
    let k = ok_under (nat_lt (length os) 64) _ _ out h in
    after barred Opens ts at begun None os (o ∷ os) done [] (λ rest. ap (λ b. if b then read is_any_of barred rest (at + 1) None (o ∷ os) [] else Err fault.Depth) k.0)
    (way barred ts more (at + 1) None (o ∷ os) [] out k.1)
way barred (Leaf a ∷ ts) more at None os done out h =
    let k = ok_unless (in_any_of is_any_of os && barred a) _ _ out h in
    after barred (Leaf a) ts at None None os os done (done ++ leaf a ∷ []) (λ rest. ap (λ b. if b then Err (fault.Barred at) else read is_any_of barred rest (at + 1) None os (done ++ leaf a ∷ [])) k.0)
    (way barred ts more (at + 1) None os (done ++ leaf a ∷ []) out k.1)
way barred (Begins b ∷ ts) more at None os done out h = after barred (Begins b) ts at None (Some b) os os done done (λ rest. refl) (way barred ts more (at + 1) (Some b) os done out h)
way barred (Closes ∷ ts) more at None [] done out h = absurd (cc)
way barred (Closes ∷ ts) more at None (o ∷ os) done out h =
    let done' = o.before ++ group o.opener (trees_of done) ∷ [] in
    after barred Closes ts at None None (o ∷ os) os done done' (λ rest. refl) (way barred ts more (at + 1) None os done' out h)
way barred (Glued ∷ ts) more at None os done out h = absurd (cc)
way barred (Unknown ∷ ts) more at None os done out h = absurd (cc)
way barred (Leaf a ∷ ts) more at (Some b) os done out h = absurd (cc)
way barred (Begins c ∷ ts) more at (Some b) os done out h = absurd (cc)
way barred (Closes ∷ ts) more at (Some b) os done out h = absurd (cc)
way barred (Glued ∷ ts) more at (Some b) os done out h = absurd (cc)
way barred (Unknown ∷ ts) more at (Some b) os done out h = absurd (cc)

-- words in order are read, and behind them as many groups are open
record Came {L : Type 0} (g : Grammar L) (barred : L → Bool) (front : List (List ℕ)) (unclosed : ℕ) : Type 0 where
  ts : List Marked
  only : AreMarked g barred front ts
  os : List (Opened (Opener (List ℕ)) Bool)
  done : List (Tree (Opener (List ℕ)) Bool)
  reach : Reached is_barred ts os done
  count : length os ≡ unclosed

came : {L : Type 0} (g : Grammar L) (barred : L → Bool) → OneMark g barred → (front : List (List ℕ)) (unclosed : ℕ) → LeavesOpen g barred front unclosed → Came g barred front unclosed
came g barred one front unclosed text =
    let p = goes g barred front (closings unclosed) text in
    let same = marks_same g barred one (closings unclosed) (closes unclosed) p.right (closes-marked g barred unclosed) p.at_right in
    let ok : read is_any_of is_barred (p.left ++ closes unclosed) 0 None [] [] ≡ Ok p.out = ap (λ us. read is_any_of is_barred (p.left ++ us) 0 None [] []) same ∙ p.ok in
    let w = way is_barred p.left (closes unclosed) 0 None [] [] p.out ok in
    let c = closes-count is_barred unclosed (0 + length p.left) w.begun' w.os' w.done' p.out (sym (w.same (closes unclosed)) ∙ ok) in
    record {
      ts = p.left;
      only = p.at_left;
      os = w.os';
      done = w.done';
      reach = λ rest. w.same rest ∙ ap (λ b. read is_any_of is_barred rest (0 + length p.left) b w.os' w.done') c.0 ∙ ap (λ n. read is_any_of is_barred rest n None w.os' w.done') (let e : 0 + length p.left ≡ length p.left = omega arith in e);
      count = c.1;
    }

-- what is read behind words in order, where one more word and others follow in order
record Next {L : Type 0} (g : Grammar L) (barred : L → Bool) (at : ℕ) (os : List (Opened (Opener (List ℕ)) Bool)) (done : List (Tree (Opener (List ℕ)) Bool)) (w : List ℕ) (more : List (List ℕ)) : Type 0 where
  t : Marked
  rs : List Marked
  out : List (Tree (Opener (List ℕ)) Bool)
  at_word : IsMarked g barred w t
  at_more : AreMarked g barred more rs
  ok : read is_any_of is_barred (t ∷ rs) at None os done ≡ Ok out

next_of : {L : Type 0} (g : Grammar L) (barred : L → Bool) (ts right : List Marked) (os : List (Opened (Opener (List ℕ)) Bool)) (done out : List (Tree (Opener (List ℕ)) Bool)) (w : List ℕ) (more : List (List ℕ)) → AreMarked g barred (w ∷ more) right → read is_any_of is_barred right (length ts) None os done ≡ Ok out → Next g barred (length ts) os done w more
next_of g barred ts [] os done out w more h ok = absurd h
next_of g barred ts (t ∷ rs) os done out w more h ok = record { t = t; rs = rs; out = out; at_word = h.0; at_more = h.1; ok = ok }

next : {L : Type 0} (g : Grammar L) (barred : L → Bool) → OneMark g barred → (front : List (List ℕ)) (unclosed : ℕ) (c : Came g barred front unclosed) (w : List ℕ) (mid : List (List ℕ)) (n : ℕ) → LeavesOpen g barred (front ++ w ∷ mid) n → Next g barred (length c.ts) c.os c.done w (mid ++ closings n)
next g barred one front unclosed c w mid n text =
    let p = goes g barred front (w ∷ (mid ++ closings n)) (subst (IsText g barred) (append_assoc front (w ∷ mid) (closings n)) text) in
    let same = marks_same g barred one front c.ts p.left c.only p.at_left in
    next_of g barred c.ts p.right c.os c.done p.out w (mid ++ closings n) p.at_right
    (sym (c.reach p.right) ∙ ap (λ us. read is_any_of is_barred (us ++ p.right) 0 None [] []) same ∙ p.ok)

no_ok : {A : Type 0} (e : GroupFault) (a : A) → ◌≡◌ {A = Result A GroupFault} (Err e) (Ok a) → ⊥
no_ok e a h = cc

-- behind an opener comes a parenthesis, and there is room for its group
record Opening {L : Type 0} (os : List (Opened (Opener (List ℕ)) L)) (rs : List (Token (Opener (List ℕ)) L)) : Type 0 where
  rest : List (Token (Opener (List ℕ)) L)
  first : rs ≡ Opens ∷ rest
  room : nat_lt (length os) 64 ≡ true

opening_behind : {L : Type 0} (barred : L → Bool) (b : Opener (List ℕ)) (rs : List (Token (Opener (List ℕ)) L)) (at : ℕ) (os : List (Opened (Opener (List ℕ)) L)) (done out : List (Tree (Opener (List ℕ)) L)) → read is_any_of barred (Begins b ∷ rs) at None os done ≡ Ok out → Opening os rs
opening_behind barred b [] at os done out h = absurd (no_ok _ out h)
opening_behind barred b (Opens ∷ rs) at os done out h = let k = ok_under (nat_lt (length os) 64) _ _ out h in record { rest = rs; first = refl; room = k.0 }
opening_behind barred b (Leaf a ∷ rs) at os done out h = absurd (no_ok _ out h)
opening_behind barred b (Begins c ∷ rs) at os done out h = absurd (no_ok _ out h)
opening_behind barred b (Closes ∷ rs) at os done out h = absurd (no_ok _ out h)
opening_behind barred b (Glued ∷ rs) at os done out h = absurd (no_ok _ out h)
opening_behind barred b (Unknown ∷ rs) at os done out h = absurd (no_ok _ out h)

no_closing : {L : Type 0} (barred : L → Bool) (rs : List (Token (Opener (List ℕ)) L)) (at : ℕ) (os : List (Opened (Opener (List ℕ)) L)) (done out : List (Tree (Opener (List ℕ)) L)) → length os ≡ 0 → read is_any_of barred (Closes ∷ rs) at None os done ≡ Ok out → ⊥
no_closing barred rs at [] done out e h = no_ok _ out h
no_closing barred rs at (o ∷ os) done out e h = absurd (omega (arith, e))

no_room : (n : ℕ) → n ≡ 64 → nat_lt n 64 ≡ true → ⊥
no_room n e h = grind (arith, nat_tests)

opens_marked : {L : Type 0} (g : Grammar L) (barred : L → Bool) (w : List ℕ) (t : Token (Opener (List ℕ)) L) → mark barred t ≡ Opens → IsToken g w t → IsToken g w Opens
opens_marked g barred w (Leaf a) e h = absurd (cc)
opens_marked g barred w (Begins o) e h = absurd (cc)
opens_marked g barred w Opens e h = h
opens_marked g barred w Closes e h = absurd (cc)
opens_marked g barred w Glued e h = absurd (cc)
opens_marked g barred w Unknown e h = absurd (cc)

-- the word before the closing ones is the one that was there
opens_first : {L : Type 0} (g : Grammar L) (barred : L → Bool) (mid back : List (List ℕ)) (n : ℕ) (rest : List Marked) → AreMarked g barred (mid ++ closings n) (Opens ∷ rest) → FirstIs g (mid ++ back) Opens
opens_first g barred [] back zero rest h = absurd h
opens_first g barred [] back (suc n) rest h = let first = opens_marked g barred _ h.0.0 h.0.2 h.0.1 in absurd (cc)
opens_first g barred (v ∷ mid) back n rest h = opens_marked g barred v h.0.0 h.0.2 h.0.1

-- behind words with a fault no further words are in order
no_more : {L : Type 0} (g : Grammar L) (barred : L → Bool) → OneMark g barred → (front : List (List ℕ)) (unclosed : ℕ) (w : List ℕ) (mid back : List (List ℕ)) (n : ℕ) (f : GroupFault) → f ≢ fault.Memory → LeavesOpen g barred front unclosed → Stops g barred front unclosed (w ∷ (mid ++ back)) f → LeavesOpen g barred (front ++ w ∷ mid) n → ⊥
no_more g barred one front unclosed w mid back n f m order h text = go f m h
  where
    c : Came g barred front unclosed
    c = came g barred one front unclosed order

    x : Next g barred (length c.ts) c.os c.done w (mid ++ closings n)
    x = next g barred one front unclosed c w mid n text

    ok_as : (t : Token (Opener (List ℕ)) _) → IsToken g w t → read is_any_of is_barred (mark barred t ∷ x.rs) (length c.ts) None c.os c.done ≡ Ok x.out
    ok_as t k = ap (λ u. read is_any_of is_barred (u ∷ x.rs) (length c.ts) None c.os c.done) (mark_same g barred one w (mark barred t) x.t (t, k, refl) x.at_word) ∙ x.ok

    go : (f : GroupFault) → f ≢ fault.Memory → Stops g barred front unclosed (w ∷ (mid ++ back)) f → ⊥
    go (fault.Leaf at) m h = elim h.1 [
      | inl k ↦ no_ok _ x.out (ok_as Unknown k)
      | inr k ↦
          let o = opening_behind is_barred k.0.0 x.rs (length c.ts) c.os c.done x.out (ok_as (Begins k.0.0) k.0.1) in
          let P : List Marked → Type 0 = λ us. AreMarked g barred (mid ++ closings n) us in
          k.1 (opens_first g barred mid back n o.rest (subst P o.first x.at_more))
    ]
    go (fault.NoSpace at) m h = no_ok _ x.out (ok_as Glued h.1)
    go (fault.Close at) m h = no_closing is_barred x.rs (length c.ts) c.os c.done x.out (c.count ∙ h.1) (ok_as Closes h.2)
    go (fault.Barred at) m h =
        let none = h.1.no_text in
        none (mid ++ closings n, subst (IsText g barred) (append_assoc front (w ∷ mid) (closings n) ∙ sym (append_assoc front (w ∷ []) (mid ++ closings n))) text)
    go fault.Depth m h = elim h.1 [
      | inl k ↦ let r = ok_under (nat_lt (length c.os) 64) _ _ x.out (ok_as Opens k) in no_room (length c.os) (c.count ∙ h.0) r.0
      | inr k ↦
          let o = opening_behind is_barred k.0.0 x.rs (length c.ts) c.os c.done x.out (ok_as (Begins k.0.0) k.0.1) in
          no_room (length c.os) (c.count ∙ h.0) o.room
    ]
    go (fault.Open at) m h = let e = h.0 in absurd (cc)
    go fault.Memory m h = m refl

abbrev opens_shape : Shape → Bool
opens_shape shapes.Opens = true
opens_shape shapes.Closes = false
opens_shape shapes.Glued = false
opens_shape shapes.AnyOf = false
opens_shape shapes.ExactlyOne = false
opens_shape shapes.AtMostOne = false
opens_shape (shapes.When on) = false
opens_shape shapes.Item = false

-- a parenthesis comes first
abbrev opens_here : Bool → List (List ℕ) → Bool
opens_here brackets [] = false
opens_here brackets (w ∷ ws) = opens_shape (shape brackets w)

opens_here-is : {L : Type 0} (g : Grammar L) (ws : List (List ℕ)) → FirstIs g ws Opens → opens_here g.brackets ws ≡ true
opens_here-is g [] h = absurd h
opens_here-is g (w ∷ ws) h = ap opens_shape h

opens_here-not : {L : Type 0} (g : Grammar L) (ws : List (List ℕ)) → ¬ FirstIs g ws Opens → opens_here g.brackets ws ≡ false
opens_here-not g [] h = refl
opens_here-not g (w ∷ ws) h = of_shape (shape g.brackets w) h
  where
    of_shape : (s : Shape) → (s ≡ shapes.Opens → ⊥) → opens_shape s ≡ false
    of_shape shapes.Opens h = absurd (h refl)
    of_shape shapes.Closes h = refl
    of_shape shapes.Glued h = refl
    of_shape shapes.AnyOf h = refl
    of_shape shapes.ExactlyOne h = refl
    of_shape shapes.AtMostOne h = refl
    of_shape (shapes.When on) h = refl
    of_shape shapes.Item h = refl

-- the fault that a word with this token has where it can't stand
abbrev told : Marked → Bool → ℕ → GroupFault
told (Leaf a) opens at = fault.Barred at
told (Begins b) true at = fault.Depth
told (Begins b) false at = fault.Leaf at
told Opens opens at = fault.Depth
told Closes opens at = fault.Close at
told Glued opens at = fault.NoSpace at
told Unknown opens at = fault.Leaf at

-- the fault is that of the word's token
record Told {L : Type 0} (g : Grammar L) (barred : L → Bool) (w : List ℕ) (ws : List (List ℕ)) (at : ℕ) (f : GroupFault) : Type 0 where
  t : Marked
  token : IsMarked g barred w t
  same : f ≡ told t (opens_here g.brackets ws) at

told_here : {L : Type 0} (g : Grammar L) (barred : L → Bool) (front : List (List ℕ)) (unclosed : ℕ) (w : List ℕ) (ws : List (List ℕ)) (f : GroupFault) → f ≢ fault.Memory → Stops g barred front unclosed (w ∷ ws) f → Told g barred w ws (length front) f
told_here g barred front unclosed w ws (fault.Leaf at) m h = elim h.1 [
  | inl k ↦ record { t = Unknown; token = (Unknown, k, refl); same = ap fault.Leaf h.0 }
  | inr k ↦ record {
    t = Begins k.0.0;
    token = (Begins k.0.0, k.0.1, refl);
    same = ap fault.Leaf h.0 ∙ ap (λ b. told (Begins k.0.0) b (length front)) (sym (opens_here-not g ws k.1));
  }
]
told_here g barred front unclosed w ws (fault.NoSpace at) m h = record { t = Glued; token = (Glued, h.1, refl); same = ap fault.NoSpace h.0 }
told_here g barred front unclosed w ws (fault.Close at) m h = record { t = Closes; token = (Closes, h.2, refl); same = ap fault.Close h.0 }
told_here g barred front unclosed w ws (fault.Barred at) m h = record { t = Leaf (barred h.1.leaf); token = (Leaf h.1.leaf, h.1.token, refl); same = ap fault.Barred h.0 }
told_here g barred front unclosed w ws fault.Depth m h = elim h.1 [
  | inl k ↦ record { t = Opens; token = (Opens, k, refl); same = refl }
  | inr k ↦ record { t = Begins k.0.0; token = (Begins k.0.0, k.0.1, refl); same = ap (λ b. told (Begins k.0.0) b (length front)) (sym (opens_here-is g ws k.1)) }
]
told_here g barred front unclosed w ws (fault.Open at) m h = let e = h.0 in absurd (cc)
told_here g barred front unclosed w ws fault.Memory m h = absurd (m refl)

differ : {L : Type 0} (g : Grammar L) (b : Opener (List ℕ)) → ◌≡◌ {A = Token (Opener (List ℕ)) L} Opens (Begins b) → ⊥
differ g b e = cc

parenthesis_once : {L : Type 0} (g : Grammar L) (start m n : ℕ) (ws : List (List ℕ)) → IsParenthesis g start m ws → IsParenthesis g start n ws → m ≡ n
parenthesis_once g start m n [] h k = absurd h
parenthesis_once g start m n (w ∷ ws) h k = elim h [
  | inl a ↦ elim k [
    | inl b ↦ a.1 ∙ sym b.1
    | inr b ↦ absurd (differ g b.0.0 (token_same g w Opens (Begins b.0.0) a.0 b.0.1))
  ]
  | inr a ↦ elim k [
    | inl b ↦ absurd (differ g a.0.0 (token_same g w Opens (Begins a.0.0) b.0 a.0.1))
    | inr b ↦ a.1 ∙ sym b.1
  ]
]

starts_once : {L : Type 0} (g : Grammar L) (barred : L → Bool) (ws : List (List ℕ)) (m n : ℕ) (o : IsOutermost g barred ws m) (p : IsOutermost g barred ws n) → o.start < p.start → ⊥
starts_once g barred ws m n o p less = o.last p.start less (place-within g p.start n ws p.place) p.before

outermost_once : {L : Type 0} (g : Grammar L) (barred : L → Bool) (ws : List (List ℕ)) (m n : ℕ) → IsOutermost g barred ws m → IsOutermost g barred ws n → m ≡ n
outermost_once g barred ws m n o p = elim (cases_lt o.start p.start) [
  | inl less ↦ absurd (starts_once g barred ws m n o p less)
  | inr more ↦ elim (cases_lt p.start o.start) [
    | inl less ↦ absurd (starts_once g barred ws n m p o less)
    | inr same ↦
        let e : p.start ≡ o.start = omega arith in
        let P : ℕ → Type 0 = λ s. IsParenthesis g s n (drop s ws) in
        parenthesis_once g o.start m n (drop o.start ws) o.place (subst P e p.place)
  ]
]

-- at the end of the words a group is open
end_fault : {L : Type 0} (g : Grammar L) (barred : L → Bool) (front : List (List ℕ)) (unclosed : ℕ) (f : GroupFault) → f ≢ fault.Memory → Stops g barred front unclosed [] f → (at : ℕ) × (f ≡ fault.Open at) × IsOutermost g barred front at
end_fault g barred front unclosed (fault.Leaf at) m h = elim h.1 [ inl k ↦ absurd k | inr k ↦ absurd k ]
end_fault g barred front unclosed (fault.NoSpace at) m h = absurd h.1
end_fault g barred front unclosed (fault.Close at) m h = absurd h.2
end_fault g barred front unclosed (fault.Barred at) m h = absurd h.1
end_fault g barred front unclosed fault.Depth m h = absurd h.1
end_fault g barred front unclosed (fault.Open at) m h = (at, refl, h.1)
end_fault g barred front unclosed fault.Memory m h = absurd (m refl)

-- one fault fits where words in order end
same_here : {L : Type 0} (g : Grammar L) (barred : L → Bool) → OneMark g barred → (front back : List (List ℕ)) (m n : ℕ) (e f : GroupFault) → e ≢ fault.Memory → f ≢ fault.Memory → Stops g barred front m back e → Stops g barred front n back f → e ≡ f
same_here g barred one front [] m n e f p q h k =
    let a = end_fault g barred front m e p h in
    let b = end_fault g barred front n f q k in
    a.1 ∙ ap fault.Open (outermost_once g barred front a.0 b.0 a.2 b.2) ∙ sym b.1
same_here g barred one front (w ∷ ws) m n e f p q h k =
    let a = told_here g barred front m w ws e p h in
    let b = told_here g barred front n w ws f q k in
    a.same ∙ ap (λ t. told t (opens_here g.brackets ws) (length front)) (mark_same g barred one w a.t b.t a.token b.token) ∙ sym b.same

-- one list cut twice
cut_twice : {A : Type 0} (xs ys us vs : List A) → xs ++ ys ≡ us ++ vs → length xs ≤ length us → (m : List A) × (us ≡ xs ++ m) × (ys ≡ m ++ vs)
cut_twice [] ys us vs e le = (us, refl, e)
cut_twice (x ∷ xs) ys [] vs e le = absurd (omega (arith, le))
cut_twice (x ∷ xs) ys (u ∷ us) vs e le =
    let p = cut_twice xs ys us vs (tails x u (xs ++ ys) (us ++ vs) e) (omega (arith, le)) in
    (p.0, ap (λ l. u ∷ l) p.1 ∙ ap (λ y. y ∷ (xs ++ p.0)) (sym (heads x u (xs ++ ys) (us ++ vs) e)), p.2)

-- of two faults the words before the one are those before the other
ordered : {L : Type 0} (g : Grammar L) (barred : L → Bool) → OneMark g barred → (ws : List (List ℕ)) (e f : GroupFault) (a : FirstWordFault g barred ws e) (b : FirstWordFault g barred ws f) → e ≢ fault.Memory → f ≢ fault.Memory → length a.front ≤ length b.front → e ≡ f
ordered g barred one ws e f a b p q le =
    let cut = cut_twice a.front a.back b.front b.back (sym a.whole ∙ b.whole) le in
    go cut.0 cut.1 cut.2
  where
    go : (m : List (List ℕ)) → b.front ≡ a.front ++ m → a.back ≡ m ++ b.back → e ≡ f
    go [] whole rest =
        let P : List (List ℕ) → Type 0 = λ us. Stops g barred us b.unclosed b.back f in
        let Q : List (List ℕ) → Type 0 = λ us. Stops g barred a.front a.unclosed us e in
        same_here g barred one a.front b.back a.unclosed b.unclosed e f p q (subst Q rest a.here) (subst P (whole ∙ append-nil a.front) b.here)
    go (w ∷ mid) whole rest =
        let P : List (List ℕ) → Type 0 = λ us. LeavesOpen g barred us b.unclosed in
        let Q : List (List ℕ) → Type 0 = λ us. Stops g barred a.front a.unclosed us e in
        absurd (no_more g barred one a.front a.unclosed w mid b.back b.unclosed e p a.order (subst Q rest a.here) (subst P whole b.order))

-- but for want of memory words have one first fault at most
pub one_word_fault : {L : Type 0} (g : Grammar L) (barred : L → Bool) → OneMark g barred → (ws : List (List ℕ)) (e f : GroupFault) → FirstWordFault g barred ws e → FirstWordFault g barred ws f → e ≢ fault.Memory → f ≢ fault.Memory → e ≡ f
one_word_fault g barred one ws e f a b p q = elim (cases_lt (length a.front) (length b.front)) [
  | inl less ↦ ordered g barred one ws e f a b p q (omega arith)
  | inr more ↦ sym (ordered g barred one ws f e b a q p more)
]

not_in_text : {L : Type 0} (g : Grammar L) (barred : L → Bool) → OneMark g barred → (ws : List (List ℕ)) (f : GroupFault) → IsText g barred ws → FirstWordFault g barred ws f → f ≢ fault.Memory → ⊥
not_in_text g barred one ws f text a p = go a.back a.whole a.here
  where
    go : (back : List (List ℕ)) → ws ≡ a.front ++ back → Stops g barred a.front a.unclosed back f → ⊥
    go [] whole h =
        let b = end_fault g barred a.front a.unclosed f p h in
        let o = b.2 in
        let here : IsText g barred a.front = subst (IsText g barred) (whole ∙ append-nil a.front) text in
        elim (cases_lt o.start (length a.front)) [
          | inl less ↦ o.last (length a.front) less (omega arith) (subst (IsText g barred) (sym (take-length a.front)) here)
          | inr more ↦ subst (IsParenthesis g o.start b.0) (drop_of_length-le a.front more) o.place
        ]
    go (w ∷ mid) whole h =
        let P : List (List ℕ) → Type 0 = λ us. Stops g barred a.front a.unclosed (w ∷ us) f in
        no_more g barred one a.front a.unclosed w mid [] 0 f p a.order (subst P (sym (append-nil mid)) h) (subst (IsText g barred) (whole ∙ sym (append-nil (a.front ++ w ∷ mid))) text)

-- a text in form has no fault but want of memory
pub no_word_fault : {L : Type 0} (g : Grammar L) (barred : L → Bool) → OneMark g barred → (ws : List (List ℕ)) (f : GroupFault) → IsText g barred ws → FirstWordFault g barred ws f → f ≡ fault.Memory
no_word_fault g barred one ws (fault.Leaf at) text a = absurd (not_in_text g barred one ws (fault.Leaf at) text a (λ e. cc))
no_word_fault g barred one ws (fault.Open at) text a = absurd (not_in_text g barred one ws (fault.Open at) text a (λ e. cc))
no_word_fault g barred one ws (fault.Close at) text a = absurd (not_in_text g barred one ws (fault.Close at) text a (λ e. cc))
no_word_fault g barred one ws (fault.NoSpace at) text a = absurd (not_in_text g barred one ws (fault.NoSpace at) text a (λ e. cc))
no_word_fault g barred one ws (fault.Barred at) text a = absurd (not_in_text g barred one ws (fault.Barred at) text a (λ e. cc))
no_word_fault g barred one ws fault.Depth text a = absurd (not_in_text g barred one ws fault.Depth text a (λ e. cc))
no_word_fault g barred one ws fault.Memory text a = refl

-- Words that are in order, and how many groups they leave open.
use Rattle.std.specs.Prelude.{◌&&◌, Option, Some, None, Ok}
use Rattle.std.specs.List.{list_all}
use Rattle.std.proofs.Common.{◌≡◌, ℕ, zero, suc, ◌+◌, Bool, true, List, [], ◌∷◌, ◌++◌, length, refl, ap, sym, ◌∙◌, subst, arith}
use Rattle.std.proofs.lemmas.List.Folds.{list_all-append}
use Rattle.dep_group.proofs.ReadingLemmas.{read-printed}
use Rattle.dep_group.proofs.TokenLemmas.{read-in_form, in_form-read, only_tokens, tokens_same}
use Rattle.dep_group.specs.Faults.{IsText, LeavesOpen, Begin, closings}
use Rattle.dep_group.specs.Reading.{Opened, all_tokens, list_of, read}
use Rattle.dep_group.specs.Tokens.{AreOnlyTokens, AreTokens, EachWord, Grammar}
use Rattle.dep_group.specs.Trees.{Tree, group, is_any_of, trees_of}
use Rattle.dep_group.specs.Words.{is_word}
use Rattle.dep_group.specs.declared.token.Opener.{Opener}
use Rattle.dep_group.specs.declared.token.Token.{Token}
use Rattle.dep_group.specs.declared.token.Token.TheVariants.{Closes}

-- so many tokens that close
abbrev pub closes : {K L : Type 0} → ℕ → List (Token K L)
closes zero = []
closes (suc n) = Closes ∷ closes n

pub closes-tokens : {L : Type 0} (g : Grammar L) (n : ℕ) → AreOnlyTokens g (closings n) (closes n)
closes-tokens g zero = tt
closes-tokens g (suc n) = (refl, closes-tokens g n)

closings-words : (n : ℕ) → list_all is_word (closings n) ≡ true
closings-words zero = refl
closings-words (suc n) = closings-words n

-- as many tokens as groups are open close all
closes-read : {L : Type 0} (barred : L → Bool) (n at : ℕ) (os : List (Opened (Opener (List ℕ)) L)) (done : List (Tree (Opener (List ℕ)) L)) → length os ≡ n → (out : List (Tree (Opener (List ℕ)) L)) × (read is_any_of barred (closes n) at None os done ≡ Ok out)
closes-read barred zero at [] done e = (done, refl)
closes-read barred zero at (o ∷ os) done e = absurd (omega (arith, e))
closes-read barred (suc n) at [] done e = absurd (omega (arith, e))
closes-read barred (suc n) at (o ∷ os) done e = closes-read barred n (at + 1) os (o.before ++ group o.opener (trees_of done) ∷ []) (omega (arith, e))

-- and no other number does
pub closes-count : {L : Type 0} (barred : L → Bool) (n at : ℕ) (begun : Option (Opener (List ℕ))) (os : List (Opened (Opener (List ℕ)) L)) (done out : List (Tree (Opener (List ℕ)) L)) → read is_any_of barred (closes n) at begun os done ≡ Ok out → (begun ≡ None) × (length os ≡ n)
closes-count barred zero at None [] done out h = (refl, refl)
closes-count barred zero at None (o ∷ os) done out h = absurd (cc)
closes-count barred zero at (Some b) os done out h = absurd (cc)
closes-count barred (suc n) at None [] done out h = absurd (cc)
closes-count barred (suc n) at None (o ∷ os) done out h =
    let fewer = closes-count barred n (at + 1) None os (o.before ++ group o.opener (trees_of done) ∷ []) out h in
    (refl, omega (arith, fewer.1))
closes-count barred (suc n) at (Some b) os done out h = absurd (cc)

pub EachWord-append : {L : Type 0} (R : List ℕ → Token (Opener (List ℕ)) L → Type 0) (ws vs : List (List ℕ)) (ts us : List (Token (Opener (List ℕ)) L)) → EachWord R ws ts → EachWord R vs us → EachWord R (ws ++ vs) (ts ++ us)
EachWord-append R [] vs [] us h k = k
EachWord-append R [] vs (t ∷ ts) us h k = absurd h
EachWord-append R (w ∷ ws) vs [] us h k = absurd h
EachWord-append R (w ∷ ws) vs (t ∷ ts) us h k = (h.0, EachWord-append R ws vs ts us h.1 k)

-- the tokens of appended words come apart as these do
pub record Parted {L : Type 0} (R : List ℕ → Token (Opener (List ℕ)) L → Type 0) (ws vs : List (List ℕ)) (ts : List (Token (Opener (List ℕ)) L)) : Type 0 where
  pub left : List (Token (Opener (List ℕ)) L)
  pub right : List (Token (Opener (List ℕ)) L)
  pub whole : ts ≡ left ++ right
  pub at_left : EachWord R ws left
  pub at_right : EachWord R vs right

pub EachWord-parted : {L : Type 0} (R : List ℕ → Token (Opener (List ℕ)) L → Type 0) (ws vs : List (List ℕ)) (ts : List (Token (Opener (List ℕ)) L)) → EachWord R (ws ++ vs) ts → Parted R ws vs ts
EachWord-parted R [] vs ts h = record { left = []; right = ts; whole = refl; at_left = tt; at_right = h }
EachWord-parted R (w ∷ ws) vs [] h = absurd h
EachWord-parted R (w ∷ ws) vs (t ∷ ts) h =
    let p = EachWord-parted R ws vs ts h.1 in
    record { left = t ∷ p.left; right = p.right; whole = ap (λ us. t ∷ us) p.whole; at_left = (h.0, p.at_left); at_right = p.at_right }

pub EachWord-length : {L : Type 0} (R : List ℕ → Token (Opener (List ℕ)) L → Type 0) (ws : List (List ℕ)) (ts : List (Token (Opener (List ℕ)) L)) → EachWord R ws ts → length ts ≡ length ws
EachWord-length R [] [] h = refl
EachWord-length R [] (t ∷ ts) h = absurd h
EachWord-length R (w ∷ ws) [] h = absurd h
EachWord-length R (w ∷ ws) (t ∷ ts) h = ap suc (EachWord-length R ws ts h.1)

-- reading has come behind these tokens, and goes on with these groups open and these trees in the innermost
abbrev pub Reached : {L : Type 0} → (L → Bool) → List (Token (Opener (List ℕ)) L) → List (Opened (Opener (List ℕ)) L) → List (Tree (Opener (List ℕ)) L) → Type 0
Reached barred ts os done = (rest : List (Token (Opener (List ℕ)) _)) → read is_any_of barred (ts ++ rest) 0 None [] [] ≡ read is_any_of barred rest (length ts) None os done

-- words behind which reading goes on leave as many groups open
pub leaves_open : {L : Type 0} (g : Grammar L) (barred : L → Bool) (front : List (List ℕ)) (ts : List (Token (Opener (List ℕ)) L)) (os : List (Opened (Opener (List ℕ)) L)) (done : List (Tree (Opener (List ℕ)) L)) → list_all is_word front ≡ true → AreOnlyTokens g front ts → Reached barred ts os done → LeavesOpen g barred front (length os)
leaves_open g barred front ts os done proper only reach =
    let n = length os in
    let closed = closes-read barred n (length ts) os done refl in
    let words = list_all-append is_word front (closings n) ∙ ap (λ b. b && list_all is_word (closings n)) proper ∙ closings-words n in
    let spelled = EachWord-append _ front (closings n) ts (closes n) (only_tokens g front ts only) (only_tokens g (closings n) (closes n) (closes-tokens g n)) in
    let found = read-in_form g barred (front ++ closings n) (ts ++ closes n) closed.0 words spelled (reach (closes n) ∙ closed.1) in
    (trees_of closed.0, found.1, found.0)

-- a text is read to its end
pub text-read : {L : Type 0} (g : Grammar L) (barred : L → Bool) (ws : List (List ℕ)) (ts : List (Token (Opener (List ℕ)) L)) → AreOnlyTokens g ws ts → IsText g barred ws → (out : List (Tree (Opener (List ℕ)) L)) × (read is_any_of barred ts 0 None [] [] ≡ Ok out)
text-read g barred ws ts only text = (list_of text.0, in_form-read g barred ws ts text.0 only text.1 text.2)

-- some tokens behind those of the beginning of a text are read with them to the end
pub begin-read : {L : Type 0} (g : Grammar L) (barred : L → Bool) (ws : List (List ℕ)) (ts : List (Token (Opener (List ℕ)) L)) → AreOnlyTokens g ws ts → Begin g barred ws → (rest : List (Token (Opener (List ℕ)) L)) × (out : List (Tree (Opener (List ℕ)) L)) × (read is_any_of barred (ts ++ rest) 0 None [] [] ≡ Ok out)
begin-read g barred ws ts only begin =
    let x = begin.1.0 in
    let form = begin.1.1 in
    let all = all_tokens x [] in
    let P : List (List ℕ) → Type 0 = λ us. AreTokens g us all in
    let p = EachWord-parted _ ws begin.0 all (subst P (sym begin.1.2) form.spelled) in
    let same = tokens_same g ws ts p.left only p.at_left in
    (p.right, list_of x, ap (λ us. read is_any_of barred (us ++ p.right) 0 None [] []) same ∙ ap (λ us. read is_any_of barred us 0 None [] []) (sym p.whole) ∙ read-printed is_any_of barred x form.low form.free)

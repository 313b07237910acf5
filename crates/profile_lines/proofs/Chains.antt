-- One more step over what a map holds, and the first that can't be taken.
use Rattle.std.proofs.Common.{◌≡◌, ◌∙◌, ◌<◌, ◌++◌, ◌+◌, ℕ, List, [], ◌∷◌, ap, drop, get_or, length, refl, subst, sym, take}
use Rattle.std.proofs.lemmas.List.{drop_more, take-append-drop, take_more}
use Rattle.file_tree.specs.Disk.{Map}
use Rattle.profile_lines.specs.Chains.{BreaksAt, Chain}

chain_push : {A S : Type 0} (Step : A → S → S → Type 0) (xs : List A) (x : A) (was mid is : S) → Chain Step xs was mid → Step x mid is → Chain Step (xs ++ x ∷ []) was is
chain_push {A = A} {S = S} Step [] x was mid is none one = (is, subst (λ (s : S). Step x s is) none one, refl)
chain_push Step (y ∷ xs) x was mid is before one = (before.0, before.1, chain_push Step xs x before.0 mid is before.2 one)

module _ {A S : Type 0} (Step : Map → A → S → S → Type 0) (m n : Map) (same : n ≡ m) (xs : List A) (i : ℕ) (d x : A) (lt : i < length xs) (at : x ≡ get_or xs i d) (was mid : S) (before : Chain (Step m) (take i xs) was mid) where
  pub chain_more : (is : S) → Step n x mid is → Chain (Step m) (take (i + 1) xs) was is
  chain_more is one =
      let front : take (i + 1) xs ≡ take i xs ++ x ∷ [] = take_more xs i d lt ∙ ap (λ (z : A). take i xs ++ z ∷ []) (sym at) in
      subst (λ (l : List A). Chain (Step m) l was is) (sym front) (chain_push (Step m) (take i xs) x was mid is before (subst (λ (y : Map). Step y x mid is) same one))

  pub breaks_at : {F : Type 0} (Fault : Map → A → S → F → Type 0) (fault : F) → Fault n x mid fault → BreaksAt (Step m) (Fault m) xs was fault
  breaks_at Fault fault has =
      let behind : drop i xs ≡ x ∷ drop (i + 1) xs = drop_more xs i d lt ∙ ap (λ (z : A). z ∷ drop (i + 1) xs) (sym at) in
      record {
        front = take i xs;
        bad = x;
        rest = drop (i + 1) xs;
        between = mid;
        place = sym (take-append-drop i xs) ∙ ap (λ (l : List A). take i xs ++ l) behind;
        before = before;
        has = subst (λ (y : Map). Fault y x mid fault) same has;
      }

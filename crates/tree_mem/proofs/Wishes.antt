-- Wishes for a crash are gone through.
use Rattle.std.proofs.Common.{◌≡◌, ◌∙◌, ℕ, ◌+◌, ◌<◌, ◌≤◌, suc, Bool, true, false, cond, List, [], ◌∷◌, ◌++◌, length, take, drop, get_or, sym, ap, subst}
use Rattle.std.specs.Prelude.{bytes_eq}
use Rattle.std.proofs.lemmas.List.{append-nil, take-append-drop, take_more}
use Rattle.std.proofs.Math.Seq.{split_at}
use Rattle.std.proofs.Math.ListN.{drop_of_length-le}
use Rattle.basics.proofs.Texts.{same_text}
use Rattle.file_tree.specs.Disk.{Map, with_path}
use Rattle.tree_mem.specs.Image.{AllTouched, IsFirstUntouched, Wish, chosen}

touched-push : (f : List ℕ → Bool) (ws : List Wish) (w : Wish) → AllTouched f ws → f w.0 ≡ true → AllTouched f (ws ++ w ∷ [])
touched-push f [] w a h = (h, tt)
touched-push f (v ∷ ws) w a h = (a.0, touched-push f ws w a.1 h)

pub touched-more : (f : List ℕ → Bool) (ws : List Wish) (i : ℕ) (w : Wish) → AllTouched f (take i ws) → i < length ws → w ≡ get_or ws i w → f w.0 ≡ true → AllTouched f (take (i + 1) ws)
touched-more f ws i w a lt at h =
    subst (AllTouched f) (sym (take_more ws i w lt ∙ ap (λ (v : Wish). take i ws ++ v ∷ []) (sym at))) (touched-push f (take i ws) w a h)

pub touched-all : (f : List ℕ → Bool) (ws : List Wish) (i : ℕ) → length ws ≤ i → AllTouched f (take i ws) → AllTouched f ws
touched-all f ws i h a =
    subst (AllTouched f) (sym (append-nil (take i ws)) ∙ ap (λ (vs : List Wish). take i ws ++ vs) (sym (drop_of_length-le ws h)) ∙ take-append-drop i ws) a

pub first-untouched : (f : List ℕ → Bool) (ws : List Wish) (i : ℕ) (w : Wish) (p : List ℕ) → AllTouched f (take i ws) → i < length ws → w ≡ get_or ws i w → f w.0 ≡ false → p ≡ w.0 → IsFirstUntouched f ws p
first-untouched f ws i w p a lt at h same =
    record {
      before = take i ws;
      wish = w.1;
      behind = drop (suc i) ws;
      parts = split_at ws i w lt ∙ ap (λ (v : Wish). take i ws ++ v ∷ drop (suc i) ws) (sym at) ∙ ap (λ (q : List ℕ). take i ws ++ (let v : Wish = (q, w.1) in v) ∷ drop (suc i) ws) (sym same);
      all = a;
      untouched = ap f same ∙ h;
    }

-- a path that is not touched holds what it held
pub chosen-apart : (f : List ℕ → Bool) (ws : List Wish) (m : Map) (q : List ℕ) → AllTouched f ws → f q ≡ false → chosen ws m q ≡ m q
chosen-apart f [] m q a h = λ i. m q
chosen-apart f (w ∷ ws) m q a h = chosen-apart f ws (with_path m w.0 w.1) q a.1 h ∙ go (bytes_eq w.0 q) (λ i. bytes_eq w.0 q)
  where
    go : (b : Bool) → bytes_eq w.0 q ≡ b → cond b w.1 (m q) ≡ m q
    go true e = let same : f w.0 ≡ f q = ap f (same_text w.0 q e) in let t = a.0 in cc
    go false e = λ i. m q

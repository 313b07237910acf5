-- Paths below a path.
use denote.Ref.{Bor}
use Rattle.std.specs.Prelude.{◌==◌, ◌≢◌, bytes_eq}
use Rattle.std.proofs.Common.{◌≡◌, ◌∙◌, ℕ, zero, suc, true, List, [], ◌∷◌, ◌++◌, MatchOption, None, Option, Some, length, take, drop, get_or, ap, arith, sym}
use Rattle.std.proofs.lemmas.List.{append_cancel_left}
use Rattle.std.proofs.lemmas.Bool.{and_from, and_parts, eq-eqb, eqb-true}
use Rattle.std.proofs.lemmas.Slice.Eq.{bytes_eq-Decides}
use Rattle.std.proofs.Math.Seq.{get_or-append_seam, take-append_seam}
use Rattle.file_tree.specs.Paths.{is_below}

-- what goes on behind a slash is below
pub below_if_goes_on : (a r : List ℕ) → is_below a (a ++ 47 ∷ r) ≡ true
below_if_goes_on a r =
    and_from (bytes_eq a (take (length a) (a ++ 47 ∷ r))) (get_or (a ++ 47 ∷ r) (length a) 0 == 47)
    ((bytes_eq-Decides a (take (length a) (a ++ 47 ∷ r))).1 (sym (take-append_seam a (47 ∷ r))))
    (eq-eqb (get_or (a ++ 47 ∷ r) (length a) 0) 47 (get_or-append_seam a 47 r 0))

parted : (xs : List ℕ) (n : ℕ) → get_or xs n 0 ≡ 47 → xs ≡ take n xs ++ 47 ∷ drop (suc n) xs
parted [] n e = absurd (omega (arith, e))
parted (x ∷ xs) zero e = ap (λ (b : ℕ). b ∷ xs) e
parted (x ∷ xs) (suc n) e = ap (λ (l : List ℕ). x ∷ l) (parted xs n e)

-- a path below another goes on behind a slash
pub below_goes_on : (a q : List ℕ) → is_below a q ≡ true → (r : List ℕ) × (q ≡ a ++ 47 ∷ r)
below_goes_on a q h =
    let front : a ≡ take (length a) q = (bytes_eq-Decides a (take (length a) q)).0 (and_parts (bytes_eq a (take (length a) q)) (get_or q (length a) 0 == 47) h).0 in
    let slash : get_or q (length a) 0 ≡ 47 = eqb-true (get_or q (length a) 0) 47 (and_parts (bytes_eq a (take (length a) q)) (get_or q (length a) 0 == 47) h).1 in
    (drop (suc (length a)) q, parted q (length a) slash ∙ ap (λ (l : List ℕ). l ++ 47 ∷ drop (suc (length a)) q) (sym front))

-- what goes on with a slash behind the folder with which a path begins
pub behind_folder : (path folder rest : List ℕ) → path ≡ folder ++ rest → (r : Option (Bor (List ℕ)))
    → MatchOption r ((x : List ℕ) → rest ≢ 47 ∷ x) (λ x. rest ≡ 47 ∷ x.now)
    → MatchOption r ((x : List ℕ) → path ≢ folder ++ 47 ∷ x) (λ x. path ≡ folder ++ 47 ∷ x.now)
behind_folder path folder rest begins None h = λ x e. h x (append_cancel_left folder rest (47 ∷ x) (sym begins ∙ e))
behind_folder path folder rest begins (Some x) h = begins ∙ ap (λ (t : List ℕ). folder ++ t) h

-- The packages that were read from the folders so far.
use Rattle.std.proofs.Common.{◌≡◌, ◌∙◌, ◌<◌, ◌≤◌, ◌+◌, ℕ, suc, List, [], ◌∷◌, ◌++◌, length, get_or, take, drop, arith, refl, ap, sym, subst, inl, inr, append_assoc, append-nil}
use Rattle.std.proofs.lemmas.List.{take_more, drop_all, take-append-drop}
use Rattle.std.proofs.Math.Seq.{drop-cons}
use Rattle.basics.specs.Members.{Has}
use Rattle.file_tree.specs.Disk.{Map}
use Rattle.vdb_law.specs.Packages.{Installed}
use Rattle.vdb_text.specs.Telling.{TellAll, Tells}

module _ (m : Map) where
  zip_push : (ts : List (List ℕ)) (ps : List Installed) (t : List ℕ) (p : Installed) → TellAll m ts ps → Tells m t p → TellAll m (ts ++ t ∷ []) (ps ++ p ∷ [])
  zip_push [] [] t p all one = (one, tt)
  zip_push [] (q ∷ ps) t p all one = absurd all
  zip_push (s ∷ ts) [] t p all one = absurd all
  zip_push (s ∷ ts) (q ∷ ps) t p all one = (all.0, zip_push ts ps t p all.1 one)

  -- each of the folders tells a package of the list
  pub told : (ts : List (List ℕ)) (ps : List Installed) → TellAll m ts ps → (t : List ℕ) → Has ts t → (p : Installed) × Has ps p × Tells m t p
  told [] ps all t has = absurd has
  told (s ∷ ts) [] all t has = absurd all
  told (s ∷ ts) (p ∷ ps) all t (inl e) = (p, inl refl, subst (λ (x : List ℕ). Tells m x p) e all.0)
  told (s ∷ ts) (p ∷ ps) all t (inr has) = let r = told ts ps all.1 t has in (r.0, inr r.1, r.2)

  -- and each package of the list is told
  pub teller : (ts : List (List ℕ)) (ps : List Installed) → TellAll m ts ps → (p : Installed) → Has ps p → (t : List ℕ) × Tells m t p
  teller [] [] all p has = absurd has
  teller [] (q ∷ ps) all p has = absurd all
  teller (s ∷ ts) [] all p has = absurd all
  teller (s ∷ ts) (q ∷ ps) all p (inl e) = (s, subst (λ (x : Installed). Tells m s x) e all.0)
  teller (s ∷ ts) (q ∷ ps) all p (inr has) = teller ts ps all.1 p has

  -- the list goes on behind these packages with those of the folders that are left
  pub record GoesOn (left : List (List ℕ)) (before ps : List Installed) : Type 0 where
    pub rest : List Installed
    pub is : ps ≡ before ++ rest
    pub all : TellAll m left rest

  pub goes_first : (ts : List (List ℕ)) (ps : List Installed) → TellAll m ts ps → GoesOn ts [] ps
  goes_first ts ps all = record { rest = ps; is = refl; all = all }

  -- the next package of the list is that of the next folder
  pub next_of : (t : List ℕ) (left : List (List ℕ)) (before ps : List Installed) → GoesOn (t ∷ left) before ps → (p : Installed) × Tells m t p × GoesOn left (before ++ p ∷ []) ps
  next_of t left before ps on = at on.rest on.is on.all
    where
      at : (rest : List Installed) → ps ≡ before ++ rest → TellAll m (t ∷ left) rest → (p : Installed) × Tells m t p × GoesOn left (before ++ p ∷ []) ps
      at [] e all = absurd all
      at (p ∷ rest) e all = (p, all.0, record { rest = rest; is = e ∙ sym (append_assoc before (p ∷ []) rest); all = all.1 })

  pub goes_last : (before ps : List Installed) → GoesOn [] before ps → before ≡ ps
  goes_last before ps on = at on.rest on.is on.all
    where
      at : (rest : List Installed) → ps ≡ before ++ rest → TellAll m [] rest → before ≡ ps
      at [] e all = sym (e ∙ append-nil before)
      at (p ∷ rest) e all = absurd all

  module _ (ts : List (List ℕ)) (i : ℕ) (t : List ℕ) (lt : i < length ts) (at : t ≡ get_or ts i t) where
    front : take (i + 1) ts ≡ take i ts ++ t ∷ []
    front = take_more ts i t lt ∙ ap (λ (q : List ℕ). take i ts ++ q ∷ []) (sym at)

    behind : drop i ts ≡ t ∷ drop (i + 1) ts
    behind =
        let next : suc i ≡ i + 1 = omega arith in
        drop-cons ts i t lt ∙ (ap (λ (n : ℕ). get_or ts i t ∷ drop n ts) next ∙ ap (λ (q : List ℕ). q ∷ drop (i + 1) ts) (sym at))

    pub split : ts ≡ take i ts ++ (t ∷ drop (i + 1) ts)
    split = sym (take-append-drop i ts) ∙ ap (λ (l : List (List ℕ)). take i ts ++ l) behind

    pub tell_more : (ps new : List Installed) (p : Installed) → TellAll m (take i ts) ps → Tells m t p → new ≡ ps ++ p ∷ [] → TellAll m (take (i + 1) ts) new
    tell_more ps new p all one pushed = subst (λ (l : List (List ℕ)). TellAll m l new) (sym front) (subst (TellAll m (take i ts ++ t ∷ [])) (sym pushed) (zip_push (take i ts) ps t p all one))

    pub next_at : (before ps : List Installed) → GoesOn (drop i ts) before ps → (p : Installed) × Tells m t p × GoesOn (drop (i + 1) ts) (before ++ p ∷ []) ps
    next_at before ps on = next_of t (drop (i + 1) ts) before ps (subst (λ (l : List (List ℕ)). GoesOn l before ps) behind on)

  pub goes_end : (ts : List (List ℕ)) (n : ℕ) (before ps : List Installed) → n ≡ length ts → GoesOn (drop n ts) before ps → before ≡ ps
  goes_end ts n before ps e on = goes_last before ps (subst (λ (l : List (List ℕ)). GoesOn l before ps) (drop_all n ts (subst (λ (k : ℕ). length ts ≤ k) (sym e) (omega arith))) on)

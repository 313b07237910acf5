-- Relations of two lists, item by item, and sets that grow text by text.
use Rattle.std.proofs.Common.{◌≡◌, ◌∙◌, ◌+◌, ◌++◌, ◌<◌, ◌||◌, ◌⊎◌, ℕ, Bool, true, List, [], ◌∷◌, ap, get_or, inl, inr, length, map, sym, take}
use Rattle.std.specs.Prelude.{◌↔◌, bytes_eq}
use Rattle.std.specs.List.{AllZip}
use Rattle.std.proofs.lemmas.Bool.{or_cases, or_left, or_right}
use Rattle.std.proofs.lemmas.List.{take_more}
use Rattle.std.proofs.lemmas.List.Folds.{list_any-append}
use Rattle.basics.proofs.Tests.{or-false}
use Rattle.pms_names.specs.Flags.{has}
use Rattle.pms_names.specs.Names.{IsName}
use Rattle.pms_names.specs.declared.kind.Kind.TheVariants.{Flag}

pub zip_mapped : {A B C : Type 0} (f : A → B) (R : B → C → Type 0) (xs : List A) (ys : List C) → AllZip (λ x. R (f x)) xs ys → AllZip R (map f xs) ys
zip_mapped f R [] [] all = tt
zip_mapped f R [] (y ∷ ys) all = absurd all
zip_mapped f R (x ∷ xs) [] all = absurd all
zip_mapped f R (x ∷ xs) (y ∷ ys) all = (all.0, zip_mapped f R xs ys all.1)

-- the set has just the texts that are flags
abbrev pub AreFlags : List (List ℕ) → List (List ℕ) → Type 0
AreFlags texts flags = (flag : List ℕ) → (has flags flag ≡ true) ↔ (IsName Flag flag × (has texts flag ≡ true))

has_more : (texts : List (List ℕ)) (t flag : List ℕ) → has (texts ++ t ∷ []) flag ≡ (has texts flag || bytes_eq flag t)
has_more texts t flag = list_any-append (bytes_eq flag) texts (t ∷ []) ∙ ap (λ (b : Bool). has texts flag || b) (or-false (bytes_eq flag t))

-- one text more
pub one_more : (texts : List (List ℕ)) (i : ℕ) (t : List ℕ) (old new : List (List ℕ)) → i < length texts → t ≡ get_or texts i t → AreFlags (take i texts) old → ((flag : List ℕ) → (has new flag ≡ true) ↔ ((has old flag ≡ true) ⊎ (IsName Flag flag × (bytes_eq flag t ≡ true)))) → AreFlags (take (i + 1) texts) new
one_more texts i t old new lt is before step flag =
    let all : has (take (i + 1) texts) flag ≡ (has (take i texts) flag || bytes_eq flag t) = ap (λ (l : List (List ℕ)). has l flag) (take_more texts i t lt ∙ ap (λ (x : List ℕ). take i texts ++ x ∷ []) (sym is)) ∙ has_more (take i texts) t flag in (
      λ has_it. elim ((step flag).0 has_it) [
        | inl had ↦ let p = (before flag).0 had in (p.0, all ∙ or_left _ _ p.1)
        | inr p ↦ (p.0, all ∙ or_right (has (take i texts) flag) _ p.1)
      ],
      λ p. elim (or_cases (has (take i texts) flag) (bytes_eq flag t) (sym all ∙ p.1)) [
        | inl had ↦ (step flag).1 (inl ((before flag).1 (p.0, had)))
        | inr own ↦ (step flag).1 (inr (p.0, own))
      ],
    )

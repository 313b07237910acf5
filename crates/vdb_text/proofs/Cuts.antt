-- The folder of a path, as it is cut out of the path's text.
use Rattle.std.proofs.Common.{◌≡◌, ◌∙◌, ◌<◌, ◌||◌, ◌==◌, ℕ, Bool, true, false, Option, MatchOption, List, ◌∷◌, ◌++◌, length, get_or, refl, ap, sym, lit<, eq-eqb}
use Rattle.std.specs.Prelude.{codes}
use Rattle.std.proofs.lemmas.Bool.{ne_eqb, or_parts, true≢false}
use Rattle.std.proofs.lemmas.List.{append_cancel_left}
use Rattle.std.proofs.lemmas.List.Folds.{list_any_at}
use Rattle.std.proofs.lemmas.List.Recursion.{or_from_places}
use Rattle.std.proofs.lemmas.Str.Pattern.{IsSplitOnceResult, split_after}
use denote.Ref.{Bor}
use Rattle.vdb_law.specs.Database.{IsCounted, has_slash, is_skipped}

pub no_slash_at : (text : List ℕ) → has_slash text ≡ false → (i : ℕ) → i < length text → get_or text i 0 ≡ 47 → ⊥
no_slash_at text none i lt e = true≢false (sym (list_any_at (λ b. b == 47) text i 0 lt (eq-eqb (get_or text i 0) 47 e)) ∙ none)

pub no_slash_if : (text : List ℕ) → ((i : ℕ) → i < length text → get_or text i 0 ≡ 47 → ⊥) → has_slash text ≡ false
no_slash_if text none = or_from_places has_slash (λ b. b == 47) refl (λ _ _. refl) text 0 (λ i lt. ne_eqb (get_or text i 0) 47 (none i lt))

module _ (path rest : List ℕ) (begins : path ≡ codes "var/db/pkg/" ++ rest) (c : IsCounted path) where
  -- the category ends at the first slash behind the database's folder
  pub at_category : (r : Option (Bor (List ℕ) × Bor (List ℕ))) → IsSplitOnceResult 47 rest r
      → MatchOption r ⊥ (λ x. (x.0.now ≡ c.category) × (x.1.now ≡ c.pf ++ (47 ∷ c.name)))
  at_category r clause =
      let e : rest ≡ c.category ++ (47 ∷ (c.pf ++ (47 ∷ c.name))) = append_cancel_left (codes "var/db/pkg/") rest (c.category ++ (47 ∷ (c.pf ++ (47 ∷ c.name)))) (sym begins ∙ c.is) in
      split_after 47 rest c.category (c.pf ++ (47 ∷ c.name)) r clause (lit< tt) e (no_slash_at c.category c.category-counts.part)

  -- and the name with the version at the next
  pub at_name : (behind : List ℕ) (r : Option (Bor (List ℕ) × Bor (List ℕ))) → behind ≡ c.pf ++ (47 ∷ c.name) → IsSplitOnceResult 47 behind r
      → MatchOption r ⊥ (λ x. (x.0.now ≡ c.pf) × (x.1.now ≡ c.name))
  at_name behind r e clause = split_after 47 behind c.pf c.name r clause (lit< tt) e (no_slash_at c.pf c.pf-counts.part)

-- a folder that is skipped has no path that counts
pub left_out : (category pf path : List ℕ) (c : IsCounted path) → category ≡ c.category → pf ≡ c.pf → (is_skipped category || is_skipped pf) ≡ true → ⊥
left_out category pf path c e f h =
    let one : is_skipped category ≡ false = ap is_skipped e ∙ c.category-counts.taken in
    let two : is_skipped pf ≡ false = ap is_skipped f ∙ c.pf-counts.taken in
    true≢false (sym h ∙ (ap (λ (b : Bool). b || is_skipped pf) one ∙ two))

pub counted_by : (category pf name path : List ℕ) → path ≡ codes "var/db/pkg/" ++ (category ++ (47 ∷ (pf ++ (47 ∷ name)))) → has_slash category ≡ false → has_slash pf ≡ false → (is_skipped category || is_skipped pf) ≡ false → IsCounted path
counted_by category pf name path e h k taken =
    let parts = or_parts (is_skipped category) (is_skipped pf) taken in
    record {
      category = category;
      pf = pf;
      name = name;
      is = e;
      category-counts = record { part = h; taken = parts.0 };
      pf-counts = record { part = k; taken = parts.1 };
    }

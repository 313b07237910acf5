-- What changes take away or bring at different places stands on different lines.
use Rattle.std.proofs.Common.{◌≡◌, ◌∙◌, ◌++◌, ℕ, List, [], ◌∷◌, Option, None, Some, arith, inl, inr, refl, ap, subst}
use Rattle.basics.specs.Members.{AreDistinct, Has}
use Rattle.basics.proofs.Membership.{has-map_back}
use Rattle.pkg_state.specs.Package.{Package, line_of, lines_of}
use Rattle.choice_law.specs.Universe.{as_list}
use Rattle.merge_graph.specs.Rows.{AreRising}
use Rattle.merge_edges.specs.Changes.{Change as LineChange}
use Rattle.merge_groups.specs.Apart.{AreChangesApart}
use Rattle.merge_groups.specs.Grouped.{side_at, those_at}
use Rattle.merge_groups.specs.declared.change.Change.{Change}

pub rising_distinct : (xs : List ℕ) → AreRising xs → AreDistinct xs
rising_distinct [] up = tt
rising_distinct (x ∷ xs) up = ((λ has. (let above = up.0 x has in absurd (omega (arith, above)))), rising_distinct xs up.1)

module _ (side : Change) (cs : List LineChange) (apart : AreChangesApart cs) where
  -- the place of these at which the package is taken away or brought
  abbrev From : List ℕ → Package → Type 0
  From xs p = (x : ℕ) × Has xs x × (side_at side cs x ≡ Some p)

  from_more : (x : ℕ) (xs : List ℕ) (p : Package) (o : Option Package) → side_at side cs x ≡ o → (Has (those_at side cs xs) p → From (x ∷ xs) p) → Has (as_list o ++ those_at side cs xs) p → From (x ∷ xs) p
  from_more x xs p None e later there = later there
  from_more x xs p (Some q) e later (inl same) = (x, inl refl, e ∙ ap (λ (r : Package). Some r) same)
  from_more x xs p (Some q) e later (inr there) = later there

  from_place : (xs : List ℕ) (p : Package) → Has (those_at side cs xs) p → From xs p
  from_place [] p has = absurd has
  from_place (x ∷ xs) p has = from_more x xs p (side_at side cs x) refl (λ there. (let r = from_place xs p there in (r.0, inr r.1, r.2))) has

  distinct_more : (x : ℕ) (xs : List ℕ) → ¬ Has xs x → AreDistinct (lines_of (those_at side cs xs)) → (o : Option Package) → side_at side cs x ≡ o → AreDistinct (lines_of (as_list o ++ those_at side cs xs))
  distinct_more x xs new rest None e = rest
  distinct_more x xs new rest (Some p) e = (
    λ has. (let back = has-map_back (λ (q : Package). line_of q.facts) (those_at side cs xs) (line_of p.facts) has in
        let from = from_place xs back.0 back.1 in
        new (subst (λ (j : ℕ). Has xs j) (apart side from.0 x back.0 p from.2 e back.2) from.1)),
    rest,
  )

  pub distinct_at : (xs : List ℕ) → AreDistinct xs → AreDistinct (lines_of (those_at side cs xs))
  distinct_at [] d = tt
  distinct_at (x ∷ xs) d = distinct_more x xs d.0 (distinct_at xs d.1) (side_at side cs x) refl

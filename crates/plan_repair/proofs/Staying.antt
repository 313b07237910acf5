-- The packages that stay behind a group, and behind none.
use Rattle.std.proofs.Common.{◌≡◌, ◌∙◌, ℕ, Bool, true, not, List, [], ◌∷◌, filter, length, map, ap, refl, arith}
use Rattle.std.specs.Prelude.{bytes_eq}
use Rattle.std.specs.List.{list_any}
use Rattle.pkg_state.specs.Package.{Package, line_of}
use Rattle.pkg_state.proofs.Lists.{any_map}
use Rattle.plan_law.specs.Plans.{Group, clears, removed_line}
use Rattle.plan_repair.specs.Repair.{behind, is_elsewhere}

pub all_stay : (xs : List Package) → filter (λ p. true) xs ≡ xs
all_stay [] = refl
all_stay (x ∷ xs) = ap (λ (ys : List Package). x ∷ ys) (all_stay xs)

pub behind_none : (plan : List Group) (start : List Package) → length plan ≡ 0 → behind plan start ≡ start
behind_none [] start e = all_stay start
behind_none (g ∷ plan) start e = absurd (omega (arith, e))

module _ (g : Group) (lines : List (List ℕ)) (are : lines ≡ map removed_line g.removals) where
  same : (p : Package) → is_elsewhere lines p ≡ not (clears g (line_of p.facts))
  same p = ap (λ (b : Bool). not b) (ap (list_any (λ x. bytes_eq x (line_of p.facts))) are ∙ any_map (λ x. bytes_eq x (line_of p.facts)) removed_line g.removals)

  -- those on none of the lines are those that the group doesn't take away
  pub same_stay : (ps : List Package) → filter (is_elsewhere lines) ps ≡ filter (λ p. not (clears g (line_of p.facts))) ps
  same_stay ps = λ i. filter (λ p. same p i) ps

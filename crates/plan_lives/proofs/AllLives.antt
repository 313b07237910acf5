-- The list of lives has each life of the plan, and no other.
use Rattle.std.proofs.Common.{◌≤◌, ◌+◌, ◌-◌, ◌↔◌, ℕ, List, [], ◌∷◌, map, inl, inr, sym, ap, subst, arith}
use Rattle.std.proofs.lemmas.Bool.{cases_eq}
use Rattle.basics.specs.Members.{Has}
use Rattle.basics.proofs.Membership.{has-append_cases, has-append_left, has-append_right, has-map, has-map_back}
use Rattle.pkg_state.specs.Package.{Package, line_of}
use Rattle.plan_law.specs.Plans.{Group, group_at}
use Rattle.plan_law.specs.Lives.{IsCleared, IsLife, Life, Moment, commit, never, opening}
use Rattle.plan_lives.specs.Lives.{life, lives, lives_behind}
use Rattle.plan_lives.proofs.Clears.{Stands, all_stand, clearing_is, one_clearing, rest_stands, stands_here}

module _ (plan : List Group) (start : List Package) where
  inside_behind : (rest : List Group) (from : ℕ) → Stands plan from rest → (x : Life) → Has (lives_behind rest from) x → IsLife plan start x
  inside_behind [] from s x h = absurd h
  inside_behind (group ∷ rest) from s x h = elim (has-append_cases (map (life (commit from) rest (from + 1)) group.additions) (lives_behind rest (from + 1)) x h) [
    | inl here ↦ (let k = has-map_back (life (commit from) rest (from + 1)) group.additions x here in
        subst (λ (y : Life). IsLife plan start y) k.2 (record {
          enters = subst (λ (g : Group). Has g.additions k.0) (sym (stands_here plan from group rest s)) k.1;
          leaves = clearing_is plan (line_of k.0.facts) rest (from + 1) (rest_stands plan from group rest s);
        }))
    | inr later ↦ inside_behind rest (from + 1) (rest_stands plan from group rest s) x later
  ]

  inside : (x : Life) → Has (lives plan start) x → IsLife plan start x
  inside x h = elim (has-append_cases (map (life opening plan 0) start) (lives_behind plan 0) x h) [
    | inl here ↦ (let k = has-map_back (life opening plan 0) start x here in
        subst (λ (y : Life). IsLife plan start y) k.2 (record {
          enters = k.1;
          leaves = clearing_is plan (line_of k.0.facts) plan 0 (all_stand plan);
        }))
    | inr later ↦ inside_behind plan 0 (all_stand plan) x later
  ]

  all_behind : (rest : List Group) (from : ℕ) → Stands plan from rest → (g : ℕ) (p : Package) (d : Moment) → from ≤ g → Has (group_at plan g).additions p → IsCleared plan (g + 1) (line_of p.facts) d
      → Has (lives_behind rest from) (record { package_is = p; birth = commit g; death = d })
  all_behind [] from s g p d le h c = absurd (subst (λ (x : Group). Has x.additions p) (s g (g - from) (omega (arith, le))) h)
  all_behind (group ∷ rest) from s g p d le h c = elim (cases_eq from g) [
    | inl same ↦ (
        let first = clearing_is plan (line_of p.facts) rest (from + 1) (rest_stands plan from group rest s) in
        let here : IsCleared plan (from + 1) (line_of p.facts) d = subst (λ (n : ℕ). IsCleared plan (n + 1) (line_of p.facts) d) (sym same) c in
        let has : Has group.additions p = subst (λ (x : Group). Has x.additions p) (stands_here plan from group rest s) (subst (λ (n : ℕ). Has (group_at plan n).additions p) (sym same) h) in
        has-append_left (map (life (commit from) rest (from + 1)) group.additions) (lives_behind rest (from + 1)) (record { package_is = p; birth = commit g; death = d })
        (subst (λ (m : Moment). Has (map (life (commit from) rest (from + 1)) group.additions) (record { package_is = p; birth = m; death = d })) (ap commit same)
        (subst (λ (m : Moment). Has (map (life (commit from) rest (from + 1)) group.additions) (record { package_is = p; birth = commit from; death = m }))
        (one_clearing plan (line_of p.facts) (from + 1) _ d first here)
        (has-map (life (commit from) rest (from + 1)) group.additions p has))))
    | inr other ↦ has-append_right (map (life (commit from) rest (from + 1)) group.additions) (lives_behind rest (from + 1)) (record { package_is = p; birth = commit g; death = d })
        (all_behind rest (from + 1) (rest_stands plan from group rest s) g p d (omega (arith, le, other)) h c)
  ]

  all : (p : Package) (b d : Moment) → IsLife plan start (record { package_is = p; birth = b; death = d }) → Has (lives plan start) (record { package_is = p; birth = b; death = d })
  all p opening d is = has-append_left (map (life opening plan 0) start) (lives_behind plan 0) (record { package_is = p; birth = opening; death = d })
      (subst (λ (m : Moment). Has (map (life opening plan 0) start) (record { package_is = p; birth = opening; death = m }))
      (one_clearing plan (line_of p.facts) 0 _ d (clearing_is plan (line_of p.facts) plan 0 (all_stand plan)) is.leaves)
      (has-map (life opening plan 0) start p is.enters))
  all p (commit g) d is = has-append_right (map (life opening plan 0) start) (lives_behind plan 0) (record { package_is = p; birth = commit g; death = d })
      (all_behind plan 0 (all_stand plan) g p d (omega arith) is.enters is.leaves)
  all p never d is = absurd is.enters

  pub has_lives : (x : Life) → Has (lives plan start) x ↔ IsLife plan start x
  has_lives x = (inside x, all x.package_is x.birth x.death)

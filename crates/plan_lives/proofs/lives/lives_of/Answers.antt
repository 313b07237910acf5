use Rattle.std.proofs.Common.{◌≡◌, ◌≤◌, ◌+◌, ◌-◌, ◌∷◌, ◌++◌, ◌↔◌, ◌∙◌, ℕ, cond, List, Some, ap, sym, subst, arith, drop, length, bytes_eq, get_or, reverse, map}
use Rattle.std.specs.List.{list_any}
use Rattle.basics.specs.Members.{Has}
use Rattle.basics.proofs.Lists.{at_drop}
use Rattle.pkg_state.specs.Package.{Package}
use Rattle.plan_law.specs.Lives as law
use Rattle.plan_law.specs.Plans.{Group, Removal, removed_line}
use Rattle.plan_lives.specs.Clearings.{AreClearings, life_at, place_at}
use Rattle.plan_lives.specs.Lives.{life, life_of, lives, lives_behind, lives_of}
use Rattle.plan_lives.proofs.AllLives.{has_lives}
use Rattle.plan_lives.proofs.Backwards.{behind_more, clearings_more, lives_at, map_reverse}
use Rattle.plan_lives.specs.declared.life.Life.{Life}
use Rattle.plan_lives.proofs.lives.lives_of.Goals as goal

-- the groups from one place earlier on
earlier : (groups : List Group) (g k : ℕ) (group : Group) → g ≡ k + 1 → g ≤ length groups → group ≡ get_or groups k group → drop k groups ≡ group ∷ drop g groups
earlier groups g k group e le is = at_drop groups k group (omega (arith, e, le)) is ∙ ap (λ (n : ℕ). group ∷ drop n groups) (sym e)

pub loop-g-preserved : goal.loop-g-preserved
loop-g-preserved c =
    let groups = c.args.groups.now in
    let g = c.loop-g.g in
    let k = c.loop-g.g - 1 in
    let group = c.index-groups-g.result in
    let e : g ≡ k + 1 = (let some = c.loop-g-test.true in omega (arith, some)) in
    let is = earlier groups g k group e c.loop-g.invariant.0 c.index-groups-g.is in
    let are : AreClearings (drop g groups) (k + 1) c.loop-g.places.entries = subst (λ (n : ℕ). AreClearings (drop g groups) n c.loop-g.places.entries) e c.loop-g.invariant.1 in
    let removals : c.deref-in-loop-g.result.now ≡ group.removals = c.deref-in-loop-g.ensures.value ∙ ap (λ (x : Group). x.removals) c.group.view_is in
    let additions : c.deref.result.now ≡ group.additions = c.deref.ensures.value ∙ ap (λ (x : Group). x.additions) c.group.view_is in (
      (let le = c.loop-g.invariant.0 in omega (arith, le)),
      subst (λ (rest : List Group). AreClearings rest k c.note_removals.new.places.entries) (sym is)
          (clearings_more group (drop g groups) k c.loop-g.places.entries c.note_removals.new.places.entries are
          (subst (λ (rs : List Removal). (line : List ℕ) → place_at c.note_removals.new.places.entries line ≡ cond (list_any (λ r. bytes_eq (removed_line r) line) rs) (Some k) (place_at c.loop-g.places.entries line)) removals c.in_ok-note_removals.ensures)),
      subst (λ (rest : List Group). reverse (lives_of c.add_lives.new.lives.items) ≡ lives_behind rest k) (sym is)
          (behind_more group (drop g groups) k c.loop-g.places.entries (reverse (lives_of c.add_lives.new.lives.items)) (reverse (lives_of c.loop-g.lives.items)) are
          (c.loop-g.invariant.2 ∙ ap (lives_behind (drop g groups)) e)
          (c.in_ok-add_lives.ensures ∙ ap (λ (ps : List Package). map (life_at (law.commit k) c.loop-g.places.entries) ps ++ reverse (lives_of c.loop-g.lives.items)) additions)),
    )

-- the lives are all listed once the groups are gone through, and turned round
turned : (groups : List Group) (start : List Package) (g : ℕ) (places : List (List ℕ × ℕ)) (before behind after : List Life) → g ≡ 0
    → AreClearings (drop g groups) g places → reverse (lives_of before) ≡ lives_behind (drop g groups) g
    → reverse (lives_of behind) ≡ map (life_at law.opening places) start ++ reverse (lives_of before) → after ≡ reverse behind
    → lives_of after ≡ lives groups start
turned groups start g places before behind after e are is all turn =
    let at_first : AreClearings groups 0 places = subst (λ (n : ℕ). AreClearings (drop n groups) n places) e are in
    let behind_is : reverse (lives_of before) ≡ lives_behind groups 0 = subst (λ (n : ℕ). reverse (lives_of before) ≡ lives_behind (drop n groups) n) e is in
    ap lives_of turn ∙ (map_reverse life_of behind ∙ (all
    ∙ (ap (λ (xs : List law.Life). xs ++ reverse (lives_of before)) (lives_at law.opening groups 0 places start at_first)
    ∙ ap (λ (xs : List law.Life). map (life law.opening groups 0) start ++ xs) behind_is)))

pub returns-clause-lives : goal.returns-clause-lives
returns-clause-lives c =
    turned c.args.groups.now c.args.start.now c.loop-g.g c.loop-g.places.entries c.loop-g.lives.items c.add_lives-2.new.lives.items c.reverse.new.self.items (let none = c.loop-g-test.false in omega (arith, none))
    c.loop-g.invariant.1 c.loop-g.invariant.2 c.in_ok-add_lives-2.ensures c.reverse.ensures.items

pub returns-clause-all : goal.returns-clause-all
returns-clause-all c =
    let is = turned c.args.groups.now c.args.start.now c.loop-g.g c.loop-g.places.entries c.loop-g.lives.items c.add_lives-2.new.lives.items c.reverse.new.self.items (let none = c.loop-g-test.false in omega (arith, none))
    c.loop-g.invariant.1 c.loop-g.invariant.2 c.in_ok-add_lives-2.ensures c.reverse.ensures.items in
    λ x. subst (λ (xs : List law.Life). Has xs x ↔ law.IsLife c.args.groups.now c.args.start.now x) (sym is) (has_lives c.args.groups.now c.args.start.now x)

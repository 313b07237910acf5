-- The lines of a plan tell which plan it is.
use Rattle.std.proofs.Common.{◌≡◌, ◌∙◌, ◌+◌, ℕ, List, [], ◌∷◌, ◌++◌, map, refl, sym, ap, append_assoc}
use Rattle.std.specs.List.{flat_map}
use Rattle.build_pool.specs.declared.orders.Order.{Order}
use Rattle.dep_atom.specs.declared.slot.Bind.{Bind}
use Rattle.plan_text.specs.Lines.{LineValue, Said, line_of}
use Rattle.plan_text.specs.Plans.{GroupValue}
use Rattle.plan_text.specs.Texts.{addition_lines, after_lines, entry, groups_lines, plan_lines, remove_line}
use Rattle.plan_text.specs.declared.kind.Kind.{Kind}
use Rattle.plan_text.specs.declared.kind.Kind.TheVariants as kinds
use Rattle.plan_text.specs.declared.plan.Removal.{Removal}

-- what lines say, read from the last one: the binds, additions, removals and numbers that stand
-- before the first line of a group, and the groups
record Gathered : Type 0 where
  binds : List Bind
  additions : List Order
  removals : List Removal
  after : List ℕ
  groups : List GroupValue

abbrev of : List Bind → List Order → List Removal → List ℕ → List GroupValue → Gathered
of bs xs rs ns gs = record { binds = bs; additions = xs; removals = rs; after = ns; groups = gs }

abbrev with_binds : Order → List Bind → Order
with_binds a bs = record { id = a.id; slot = a.slot; subslot = a.subslot; enabled = a.enabled; binds = bs }

abbrev put : (kind : Kind) → Said kind → Gathered → Gathered
put kinds.Plan said x = x
put kinds.Group n x = of [] [] [] [] (record { after = x.after; removals = x.removals; additions = x.additions } ∷ x.groups)
put kinds.After ns x = of x.binds x.additions x.removals ns x.groups
put kinds.Remove r x = of x.binds x.additions (r ∷ x.removals) x.after x.groups
put kinds.Add a x = of [] (with_binds a x.binds ∷ x.additions) x.removals x.after x.groups
put kinds.Bind b x = of (b ∷ x.binds) x.additions x.removals x.after x.groups

abbrev gather : List LineValue → Gathered
gather [] = of [] [] [] [] []
gather (l ∷ ls) = put l.kind l.said (gather ls)

binds_first : (bs : List Bind) (ls : List LineValue) (xs : List Order) (rs : List Removal) (ns : List ℕ) (gs : List GroupValue) → gather ls ≡ of [] xs rs ns gs → gather (map (line_of kinds.Bind) bs ++ ls) ≡ of bs xs rs ns gs
binds_first [] ls xs rs ns gs e = e
binds_first (b ∷ bs) ls xs rs ns gs e = ap (put kinds.Bind b) (binds_first bs ls xs rs ns gs e)

additions_first : (xs : List Order) (ls : List LineValue) (rs : List Removal) (ns : List ℕ) (gs : List GroupValue) → gather ls ≡ of [] [] rs ns gs → gather (flat_map addition_lines xs ++ ls) ≡ of [] xs rs ns gs
additions_first [] ls rs ns gs e = e
additions_first (a ∷ xs) ls rs ns gs e =
    ap (λ l. put kinds.Add (entry a) (gather l)) (append_assoc (map (line_of kinds.Bind) a.binds) (flat_map addition_lines xs) ls)
    ∙ ap (put kinds.Add (entry a)) (binds_first a.binds (flat_map addition_lines xs ++ ls) xs rs ns gs (additions_first xs ls rs ns gs e))

removals_first : (rs : List Removal) (ls : List LineValue) (xs : List Order) (ns : List ℕ) (gs : List GroupValue) → gather ls ≡ of [] xs [] ns gs → gather (map remove_line rs ++ ls) ≡ of [] xs rs ns gs
removals_first [] ls xs ns gs e = e
removals_first (r ∷ rs) ls xs ns gs e = ap (put kinds.Remove r) (removals_first rs ls xs ns gs e)

after_first : (ns : List ℕ) (ls : List LineValue) (xs : List Order) (rs : List Removal) (gs : List GroupValue) → gather ls ≡ of [] xs rs [] gs → gather (after_lines ns ++ ls) ≡ of [] xs rs ns gs
after_first [] ls xs rs gs e = e
after_first (n ∷ ns) ls xs rs gs e = ap (put kinds.After (n ∷ ns)) e

groups_gathered : (n : ℕ) (gs : List GroupValue) → gather (groups_lines n gs) ≡ of [] [] [] [] gs
groups_gathered n [] = refl
groups_gathered n (g ∷ gs) =
    let more : List LineValue = groups_lines (n + 1) gs in
    ap (λ l. put kinds.Group n (gather l))
    (append_assoc (after_lines g.after) (map remove_line g.removals ++ flat_map addition_lines g.additions) (groups_lines (n + 1) gs)
    ∙ ap (λ l. after_lines g.after ++ l) (append_assoc (map remove_line g.removals) (flat_map addition_lines g.additions) (groups_lines (n + 1) gs)))
    ∙ ap (put kinds.Group n)
    (after_first g.after (map remove_line g.removals ++ (flat_map addition_lines g.additions ++ groups_lines (n + 1) gs)) g.additions g.removals gs
    (removals_first g.removals (flat_map addition_lines g.additions ++ groups_lines (n + 1) gs) g.additions [] gs
    (additions_first g.additions (groups_lines (n + 1) gs) [] [] gs (groups_gathered (n + 1) gs))))

-- two plans with the same lines are one
pub one_plan : (p q : List GroupValue) → plan_lines p ≡ plan_lines q → p ≡ q
one_plan p q e =
    ap (λ (x : Gathered). x.groups) (sym (groups_gathered 1 p) ∙ ap gather e ∙ groups_gathered 1 q)

-- The text of a plan, and when a plan is in form.
use Rattle.std.specs.Prelude.{◌≡◌, ◌<◌, ◌≤◌, ◌+◌, ℕ, true, List, [], ◌∷◌, ◌++◌, length, map, ⊤}
use Rattle.std.specs.List.{AllByRecursion, flat_map}
use Rattle.basics.specs.Limits.{most_groups}
use Rattle.build_pool.specs.declared.orders.Order.{Order}
use Rattle.plan_text.specs.Lines.{LineValue, line_of, line_text}
use Rattle.plan_text.specs.Numbers.{rise_between}
use Rattle.plan_text.specs.Plans.{GroupValue}
use Rattle.plan_text.specs.Words.{IsBind, IsEntry, IsRemoval, rise}
use Rattle.plan_text.specs.declared.kind.Kind.TheVariants as kinds
use Rattle.plan_text.specs.declared.plan.Removal.{Removal}

-- the addition without its binds
abbrev pub entry : Order → Order
entry a =
    record { id = a.id; slot = a.slot; subslot = a.subslot; enabled = a.enabled; binds = [] }

abbrev pub remove_line : Removal → LineValue
remove_line r = line_of kinds.Remove r

abbrev pub add_line : Order → LineValue
add_line a = line_of kinds.Add (entry a)

-- the line of an addition, and one for each of its binds
abbrev pub addition_lines : Order → List LineValue
addition_lines a = add_line a ∷ map (line_of kinds.Bind) a.binds

-- a line for what a group waits for, where it waits for some
abbrev pub after_lines : List ℕ → List LineValue
after_lines [] = []
after_lines (n ∷ ns) = line_of kinds.After (n ∷ ns) ∷ []

-- the lines of the group with this number
abbrev pub group_lines : ℕ → GroupValue → List LineValue
group_lines n g =
    line_of kinds.Group n ∷ (after_lines g.after ++
    (map remove_line g.removals ++ flat_map addition_lines g.additions))

-- the lines of groups, the first of which has this number
abbrev pub groups_lines : ℕ → List GroupValue → List LineValue
groups_lines n [] = []
groups_lines n (g ∷ gs) = group_lines n g ++ groups_lines (n + 1) gs

abbrev pub plan_lines : List GroupValue → List LineValue
plan_lines gs = line_of kinds.Plan tt ∷ groups_lines 1 gs

-- the line and a newline
abbrev pub ended : LineValue → List ℕ
ended l = line_text l ++ (10 ∷ [])

abbrev pub plan_text : List GroupValue → List ℕ
plan_text gs = flat_map ended (plan_lines gs)

pub record IsAddition (a : Order) : Type 0 where
  pub says : IsEntry a
  pub binds : AllByRecursion IsBind a.binds

-- the group may stand in a plan with this number: it changes something, it waits for earlier
-- groups in rising order, and the lines of each kind rise in byte order
pub record IsGroup (n : ℕ) (g : GroupValue) : Type 0 where
  pub earlier : rise_between 0 n g.after ≡ true
  pub changes : 0 < length g.removals + length g.additions
  pub removals : AllByRecursion IsRemoval g.removals
  pub removals_rise : rise (map (λ r. line_text (remove_line r)) g.removals) ≡ true
  pub additions : AllByRecursion IsAddition g.additions
  pub additions_rise : rise (map (λ a. line_text (add_line a)) g.additions) ≡ true

abbrev pub AreGroups : ℕ → List GroupValue → Type 0
AreGroups n [] = ⊤
AreGroups n (g ∷ gs) = IsGroup n g × AreGroups (n + 1) gs

-- the plan is in form
pub record IsPlan (gs : List GroupValue) : Type 0 where
  pub few : length gs ≤ most_groups
  pub groups : AreGroups 1 gs

-- the text is that of a plan in form
abbrev pub IsPlanText : List ℕ → Type 0
IsPlanText text = (gs : List GroupValue) × IsPlan gs × (text ≡ plan_text gs)

-- The changes of lines that a plan makes, as a list: each line with the place of its group.
use denote.Ref.{Bor}
use Rattle.std.specs.Prelude.{◌≡◌, ℕ, ◌+◌, List, [], ◌∷◌, ◌++◌, Option, None, Some, Vec, bytes_eq, filter, if◌then◌else◌, map}
use Rattle.std.specs.BTreeMap.{BTreeMap}
use Rattle.std.specs.Global.{Global}
use Rattle.std.specs.Ordering.{is_lt}
use Rattle.pkg_state.specs.Index.{listed}
use Rattle.pkg_state.specs.Package.{line_of}
use Rattle.plan_law.specs.Plans.{Group, removed_line}
use Rattle.plan_rules.specs.Pairs.{Pair, pair_cmp}
use Rattle.plan_rules.specs.declared.change.Change.{Change}
use Rattle.plan_rules.specs.declared.change.FoundPair.{FoundPair}

abbrev pub changes_of : ℕ → Group → List (List ℕ × ℕ)
changes_of g group =
    map (λ r. (removed_line r, g)) group.removals
    ++ map (λ p. (line_of p.facts, g)) group.additions

abbrev pub changes_from : ℕ → List Group → List (List ℕ × ℕ)
changes_from g [] = []
changes_from g (group ∷ rest) = changes_of g group ++ changes_from (g + 1) rest

-- a change as the code keeps it
abbrev pub change_of : Change → List ℕ × ℕ
change_of c = (c.line, c.group)

-- the groups that change the line
abbrev pub groups_on : List ℕ → List (List ℕ × ℕ) → List ℕ
groups_on line changes = map (λ c. c.1) (filter (λ c. bytes_eq line c.0) changes)

-- under each line stand the groups that change it
abbrev pub AreByLine : List (List ℕ × ℕ) → BTreeMap (Bor (List ℕ)) (Vec ℕ Global) → Type 0
AreByLine changes lists = (line : List ℕ) → listed lists line ≡ groups_on line changes

-- the group of a change, and a higher one
abbrev pub pair_of : FoundPair → Pair
pair_of p = record {
  line = p.change.now.line;
  lower = p.change.now.group;
  higher = p.higher;
}

-- the first of a pair, if there is one, and another
abbrev pub earlier : Option Pair → Pair → Pair
earlier None q = q
earlier (Some p) q = if is_lt (pair_cmp q p) then q else p

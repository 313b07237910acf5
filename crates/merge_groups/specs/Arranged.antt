-- The two plans of a choice, and why it has none.
use Rattle.std.specs.Prelude.{◌≡◌, ◌≢◌, ◌<◌, ◌≤◌, ℕ, List, length, ⊤}
use Rattle.basics.specs.Limits.{most_groups}
use Rattle.pkg_state.specs.Package.{Package}
use Rattle.merge_graph.specs.Numbering.{HasNoBuildInside, IsBuildCycle, IsNumbering}
use Rattle.merge_graph.specs.declared.edge.Edge.{Edge}
use Rattle.plan_law.specs.Plans.{Group}
use Rattle.plan_text.specs.Plans.{GroupValue}
use Rattle.choice_law.specs.Universe.{IsValue, Universe, lines, offer_at}
use Rattle.choice_law.specs.Tree.{Choice, filling}
use Rattle.merge_edges.specs.Changes.{Change, changes}
use Rattle.merge_edges.specs.Edges.{AreEdges}
use Rattle.merge_groups.specs.Grouped.{AreFine, AreLevel, named_at}
use Rattle.merge_groups.specs.Written.{AreTexts}
use Rattle.merge_groups.specs.declared.arranged.NotArranged.{NotArranged}
use Rattle.merge_groups.specs.declared.arranged.NotArranged.TheVariants.{BuildCycle, Limit, Memory}

-- the choice has a value for each line that the line may have
abbrev pub HasValues : Universe → Choice → Type 0
HasValues u c = (l : ℕ) → l < lines u → IsValue (offer_at u l) (filling u c l)

-- the components of so many changes have these numbers, of which there aren't too many, and none
-- builds on itself
pub record AreNumbered (nodes : ℕ) (es : List Edge) (numbers : List ℕ) (count : ℕ) : Type 0 where
  pub builds_on_others : HasNoBuildInside es
  pub numbering : IsNumbering nodes es count numbers
  pub few : count ≤ most_groups

-- the text of the fine plan of changes with these edges, over installed packages
pub record IsFineOf (start : List Package) (cs : List Change) (es : List Edge)
    (texts : List GroupValue) : Type 0 where
  pub numbers : List ℕ
  pub count : ℕ
  pub numbered : AreNumbered (length cs) es numbers count
  pub plan : List Group
  pub fine : AreFine cs es numbers count plan
  pub text : AreTexts plan start texts

-- the text of their level plan
pub record IsLevelOf (start : List Package) (cs : List Change) (es : List Edge)
    (texts : List GroupValue) : Type 0 where
  pub numbers : List ℕ
  pub count : ℕ
  pub numbered : AreNumbered (length cs) es numbers count
  pub plan : List Group
  pub level : AreLevel cs es numbers count plan
  pub text : AreTexts plan start texts

-- Why they have no plan: of the components that build on themselves the one with the first line,
-- told by its packages in the order of lines; or, where there is none, the fine plan would have too
-- many groups. Want of memory says nothing.
abbrev pub HaveNoPlan : List Change → List Edge → NotArranged → Type 0
HaveNoPlan cs es (BuildCycle packages) =
    (cycle : List ℕ) × IsBuildCycle (length cs) es cycle
    × (packages.items ≡ named_at cs cycle)
HaveNoPlan cs es Limit =
    (numbers : List ℕ) × (count : ℕ) × HasNoBuildInside es
    × IsNumbering (length cs) es count numbers × (most_groups < count)
HaveNoPlan cs es Memory = ⊤

-- the same of the changes of a choice, with the edges that they have
abbrev pub IsFine : List Package → Universe → Choice → List GroupValue → Type 0
IsFine start u c texts =
    (es : List Edge) × AreEdges u c es × IsFineOf start (changes u c) es texts

abbrev pub IsLevel : List Package → Universe → Choice → List GroupValue → Type 0
IsLevel start u c texts =
    (es : List Edge) × AreEdges u c es × IsLevelOf start (changes u c) es texts

abbrev pub HasNoPlan : Universe → Choice → NotArranged → Type 0
HasNoPlan u c e =
    e ≢ Memory → (es : List Edge) × AreEdges u c es × HaveNoPlan (changes u c) es e

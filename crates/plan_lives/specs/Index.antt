-- How the lives are found by the line and the name of their packages.
use denote.Ref.{Bor}
use Rattle.std.specs.Prelude.{◌≡◌, ℕ, List, Vec, bytes_eq, filter}
use Rattle.std.specs.Global.{Global}
use Rattle.std.specs.BTreeMap.{BTreeMap}
use Rattle.pkg_state.specs.Index.{listed}
use Rattle.pkg_state.specs.Package.{Package, line_of}
use Rattle.plan_law.specs.Plans.{Group}
use Rattle.plan_law.specs.Lives as law
use Rattle.plan_lives.specs.IsReach.{IsReach}
use Rattle.plan_lives.specs.Lives.{lives, lives_of}
use Rattle.plan_lives.specs.declared.life.Life.{Life}
use Rattle.plan_lives.specs.declared.index.Index.{Index}

abbrev pub line_key : law.Life → List ℕ
line_key x = line_of x.package_is.facts

abbrev pub name_key : law.Life → List ℕ
name_key x = x.package_is.facts.id.name.«package»

-- the lives with this key, in their order
abbrev pub keyed : (law.Life → List ℕ) → List ℕ → List law.Life → List law.Life
keyed key text xs = filter (λ x. bytes_eq text (key x)) xs

-- under each text stand the lives with that key
abbrev pub AreKeyed : (law.Life → List ℕ) → List law.Life →
    BTreeMap (Bor (List ℕ)) (Vec Life Global) → Type 0
AreKeyed key xs lists = (text : List ℕ) → lives_of (listed lists text) ≡ keyed key text xs

-- the plan and the packages that the rules are about
abbrev pub plan_of : Index → List Group
plan_of index = index.reach.now.groups.now

abbrev pub start_of : Index → List Package
start_of index = index.start.now

abbrev pub all_lives : Index → List law.Life
all_lives index = lives (plan_of index) (start_of index)

-- what the rules look up is of the plan over the packages
pub record IsIndex (index : Index) : Type 0 where
  pub reach_is : IsReach index.reach.now
  pub lives_are : lives_of index.lives.now ≡ all_lives index
  pub by_line : AreKeyed line_key (all_lives index) index.by_line.lists
  pub by_name : AreKeyed name_key (all_lives index) index.by_name.lists

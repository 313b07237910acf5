-- Why the change of one line waits for that of another: four reasons, over what is installed, which
-- is what stands where nothing is decided, and what the choice makes of it.
use Rattle.std.specs.Prelude.{◌≡◌, ◌≢◌, ◌⊎◌, ℕ, true, false, List, [], ◌∷◌}
use Rattle.std.specs.Option.{option_map_or}
use Rattle.pkg_state.specs.Consistent.{facts_of, is_met}
use Rattle.pkg_state.specs.Package.{Package}
use Rattle.pkg_state.specs.declared.class.Class.{Class}
use Rattle.pkg_state.specs.declared.class.Class.TheVariants.{Rdepend}
use Rattle.plan_law.specs.Sound.{bars, is_of_build}
use Rattle.choice_law.specs.Tree.{Choice, decided, filling}
use Rattle.choice_law.specs.Universe.{Stands, Universe, conflicts, is_new, packages}
use Rattle.merge_edges.specs.Changes.{changes_line}
use Rattle.merge_edges.specs.Needs.{NeedsLine}

-- the package is installed on the line
abbrev pub IsThere : Universe → ℕ → Package → Type 0
IsThere u l y = Stands u (filling u []) l y

-- the package comes on the line
abbrev pub Comes : Universe → Choice → ℕ → Package → Type 0
Comes u c l x = (is_new (filling u c l) ≡ true) × Stands u (filling u c) l x

-- the choice of one line alone
abbrev pub alone : Choice → ℕ → Choice
alone c l = option_map_or (λ v. (l, v) ∷ []) (decided c l) []

-- 1. What comes on the first line needs the second one for its build: a class of its build, judged
-- as a whole, doesn't hold over what is installed, and needs the second line in the result.
pub record IsBuiltWith (u : Universe) (c : Choice) (l m : ℕ) : Type 0 where
  pub comer : Package
  pub comes : Comes u c l comer
  pub class_is : Class
  pub of_build : is_of_build class_is ≡ true
  pub lacks : is_met (facts_of (packages u (filling u []))) class_is comer ≡ false
  pub needs : NeedsLine u c class_is comer m

-- 2. What comes on the first line needs the second one at run time.
pub record RunsWith (u : Universe) (c : Choice) (l m : ℕ) : Type 0 where
  pub comer : Package
  pub comes : Comes u c l comer
  pub needs : NeedsLine u c Rdepend comer m

-- the change of the first line alone breaks what is installed on the second one: that needs the
-- first line at run time, and doesn't have what it needs then
pub record Breaks (u : Universe) (c : Choice) (l k : ℕ) (y : Package) : Type 0 where
  pub there : IsThere u k y
  pub needs : NeedsLine u [] Rdepend y l
  pub lacks : is_met (facts_of (packages u (filling u (alone c l)))) Rdepend y ≡ false

-- 3. The change of the first line alone breaks a package: one that is installed on the second line,
-- which changes too; or one whose own line doesn't change, and that needs the second line in the
-- result.
abbrev pub WouldBreak : Universe → Choice → ℕ → ℕ → Type 0
WouldBreak u c l m =
    (k : ℕ) × (y : Package) × Breaks u c l k y
    × (((changes_line u c k ≡ true) × (k ≡ m))
    ⊎ ((changes_line u c k ≡ false) × NeedsLine u c Rdepend y m))

-- 4. What comes on the first line can't stand beside what is installed on the second one: one of
-- both keeps the other out, or they are of one name and version.
pub record IsApartFrom (u : Universe) (c : Choice) (l m : ℕ) : Type 0 where
  pub comer : Package
  pub comes : Comes u c l comer
  pub goer : Package
  pub there : IsThere u m goer
  pub against : (conflicts true comer goer ≡ true) ⊎ (conflicts false goer comer ≡ true)

-- .. and can't be brought while that is there: by a strong block, or by any block of its build
pub record IsBarredBy (u : Universe) (c : Choice) (l m : ℕ) : Type 0 where
  pub comer : Package
  pub comes : Comes u c l comer
  pub goer : Package
  pub there : IsThere u m goer
  pub barred : bars comer goer ≡ true

-- the change of the first line builds on that of the second one; a line may build on itself for
-- what it needs
abbrev pub BuildsOn : Universe → Choice → ℕ → ℕ → Type 0
BuildsOn u c l m = IsBuiltWith u c l m ⊎ ((l ≢ m) × IsBarredBy u c l m)

-- the change of the first line waits for that of the second one, which is another line or one that
-- it builds on
abbrev pub WaitsFor : Universe → Choice → ℕ → ℕ → Type 0
WaitsFor u c l m =
    BuildsOn u c l m
    ⊎ ((l ≢ m) × (RunsWith u c l m ⊎ (WouldBreak u c l m ⊎ IsApartFrom u c l m)))

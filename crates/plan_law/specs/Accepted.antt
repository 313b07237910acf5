-- When a plan is accepted: by pairs of lives and by chains, without a look at any run.
use Rattle.std.specs.Prelude.{◌≡◌, ◌⊎◌, ◌↔◌, ◌<◌, ℕ, true, false, List}
use Rattle.basics.specs.Members.{AreDistinct, Has}
use Rattle.pms_names.specs.Flags.{has}
use Rattle.pkg_state.specs.Consistent.{AreConsistent, blocks, facts_of, fits_required, is_met}
use Rattle.pkg_state.specs.Package.{Package, line_of, lines_of, tree_of}
use Rattle.pkg_state.specs.declared.class.Class.{Class}
use Rattle.pkg_state.specs.declared.class.Class.TheVariants.{Pdepend, Rdepend}
use Rattle.plan_law.specs.Plans.{Group, Reaches, Removal, clears, group_at, removed_line}
use Rattle.plan_law.specs.Lives.{IsLife, Life, Meets, StandsBefore, Stretch, never, stretch_of, until}
use Rattle.plan_law.specs.Firm.{AreFirm, IsChained}
use Rattle.plan_law.specs.Sound.{bars, is_of_build}

-- the group takes something from the line, or brings something to it
abbrev pub Changes : List Group → ℕ → List ℕ → Type 0
Changes plan g line =
    (clears (group_at plan g) line ≡ true)
    ⊎ ((p : Package) × Has (group_at plan g).additions p × (line_of p.facts ≡ line))

-- what the package wants in this class is there all through the stretch
abbrev pub IsFirmThrough : List Group → List Package → Stretch → Class → Package → Type 0
IsFirmThrough plan start s class p =
    AreFirm (tree_of class p).empty_holds (IsChained plan start p.facts.enabled s)
    (has p.facts.enabled) (tree_of class p).groups

-- the packages that no group takes away
abbrev pub AreLeft : List Group → List Package → List Package → Type 0
AreLeft plan start ps =
    (p : Package) → Has ps p ↔
    ((x : Life) × IsLife plan start x × (x.death ≡ never) × (x.package_is ≡ p))

pub record IsAccepted (plan : List Group) (start : List Package) : Type 0 where
  -- of two groups that change one line one reaches the other
  pub ordered : (g h : ℕ) (line : List ℕ) → g < h → Changes plan g line → Changes plan h line →
      Reaches plan h g ⊎ Reaches plan g h
  -- a package that goes stands on its line just before the group
  pub present : (g : ℕ) (r : Removal) → Has (group_at plan g).removals r →
      (x : Life) × IsLife plan start x × StandsBefore g x
      × (x.package_is.facts.id ≡ r.id) × (line_of x.package_is.facts ≡ removed_line r)
  -- what stands on the line of a package that comes goes in the same group
  pub vacant : (g : ℕ) (p : Package) (x : Life) → Has (group_at plan g).additions p →
      IsLife plan start x → StandsBefore g x → line_of x.package_is.facts ≡ line_of p.facts →
      clears (group_at plan g) (line_of p.facts) ≡ true
  -- a group brings at most one package to a line
  pub single : (g : ℕ) → AreDistinct (lines_of (group_at plan g).additions)
  -- a version of a name that is there on two lines isn't there at one time
  pub versions : (x y : Life) → IsLife plan start x → IsLife plan start y →
      Meets plan (stretch_of x) y → x.package_is.facts.id ≡ y.package_is.facts.id →
      line_of x.package_is.facts ≡ line_of y.package_is.facts
  -- the packages are consistent to begin with
  pub consistent : AreConsistent start
  -- the flags of what comes go together
  pub required : (g : ℕ) (p : Package) → Has (group_at plan g).additions p →
      fits_required p ≡ true
  -- what a package needs while it runs is there all through its life
  pub lasting : (x : Life) → IsLife plan start x →
      IsFirmThrough plan start (stretch_of x) Rdepend x.package_is
  -- what it blocks isn't there with it
  pub unblocked : (x y : Life) → IsLife plan start x → IsLife plan start y →
      Meets plan (stretch_of x) y → blocks x.package_is y.package_is ≡ false
  -- .. and what bars it isn't there when it may come
  pub unbarred : (g : ℕ) (p : Package) (y : Life) → Has (group_at plan g).additions p →
      IsLife plan start y → Meets plan (until g) y → bars p y.package_is ≡ false
  -- what it wants for its build is there whenever it may come
  pub built : (g : ℕ) (p : Package) (class : Class) → Has (group_at plan g).additions p →
      is_of_build class ≡ true → IsFirmThrough plan start (until g) class p
  -- what it wants later is there at the end
  pub finished : (g : ℕ) (p : Package) (ps : List Package) → Has (group_at plan g).additions p →
      AreLeft plan start ps → Has ps p → is_met (facts_of ps) Pdepend p ≡ true

-- When a plan is sound: whatever order its groups are committed in, and wherever that stops.
use Rattle.std.specs.Prelude.{◌≡◌, ◌<◌, ◌&&◌, ◌||◌, ℕ, Bool, true, false, List, length, map}
use Rattle.std.specs.List.{list_any}
use Rattle.basics.specs.Members.{AreDistinct, Has}
use Rattle.dep_atom.specs.Match.{value_matches}
use Rattle.dep_atom.specs.declared.atom.Block.{Block}
use Rattle.dep_atom.specs.declared.atom.Block.TheVariants.{No, Strong, Weak}
use Rattle.pkg_state.specs.Consistent.{AreConsistent, class_blocks, facts_of, is_met, leaves_in}
use Rattle.pkg_state.specs.Package.{Package}
use Rattle.pkg_state.specs.declared.class.Class.{Class}
use Rattle.pkg_state.specs.declared.class.Class.TheVariants.{Bdepend, Depend, Idepend, Pdepend, Rdepend}
use Rattle.plan_law.specs.Plans.{Group, IsRun, after, group_at}

-- a class whose packages are wanted while a package is built or merged
abbrev pub is_of_build : Class → Bool
is_of_build Rdepend = false
is_of_build Pdepend = false
is_of_build Depend = true
is_of_build Bdepend = true
is_of_build Idepend = true

abbrev pub is_strong_block : Block → Bool
is_strong_block No = false
is_strong_block Weak = false
is_strong_block Strong = true

-- a strong block of this class that counts matches the other package
abbrev pub class_blocks_strongly : Class → Package → Package → Bool
class_blocks_strongly class p q =
    list_any (λ a. is_strong_block a.block && value_matches a q.facts p.facts.enabled)
    (leaves_in class p)

-- p can't be brought while q is there: a strong block, or any block of a class of its build
abbrev pub bars : Package → Package → Bool
bars p q =
    class_blocks_strongly Rdepend p q || (class_blocks_strongly Pdepend p q
    || (class_blocks Depend p q || (class_blocks Bdepend p q || class_blocks Idepend p q)))

-- no version of a name is there twice
abbrev pub AreVersionsApart : List Package → Type 0
AreVersionsApart ps = AreDistinct (map (λ p. p.facts.id) ps)

-- the run has done what the group waits for, and not the group
pub record ComesUpTo (plan : List Group) (run : List ℕ) (g : ℕ) : Type 0 where
  pub run_is : IsRun plan run
  pub there : g < length plan
  pub waited : (h : ℕ) → Has (group_at plan g).after h → Has run h
  pub undone : ¬ Has run g

-- the run has each group of the plan
pub record IsWhole (plan : List Group) (run : List ℕ) : Type 0 where
  pub run_is : IsRun plan run
  pub all : (g : ℕ) → g < length plan → Has run g

pub record IsSound (plan : List Group) (start : List Package) : Type 0 where
  -- wherever a run stops, the packages are consistent, and no version of a name is there twice
  pub consistent : (run : List ℕ) → IsRun plan run → AreConsistent (after plan start run)
  pub versions : (run : List ℕ) → IsRun plan run → AreVersionsApart (after plan start run)
  -- whenever a group may come, what its additions want for their build is there
  pub built : (run : List ℕ) (g : ℕ) (p : Package) (class : Class) → ComesUpTo plan run g →
      Has (group_at plan g).additions p → is_of_build class ≡ true →
      is_met (facts_of (after plan start run)) class p ≡ true
  -- .. and nothing is there that bars one of them
  pub unbarred : (run : List ℕ) (g : ℕ) (p q : Package) → ComesUpTo plan run g →
      Has (group_at plan g).additions p → Has (after plan start run) q → bars p q ≡ false
  -- after a run of all groups each addition that is still there has what it wants then
  pub finished : (run : List ℕ) (g : ℕ) (p : Package) → IsWhole plan run →
      Has (group_at plan g).additions p → Has (after plan start run) p →
      is_met (facts_of (after plan start run)) Pdepend p ≡ true

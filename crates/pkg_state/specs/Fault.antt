-- What is first wrong with packages that aren't consistent, in the order in which they are listed.
use Rattle.std.specs.Prelude.{◌≡◌, ◌&&◌, ◌++◌, ℕ, Bool, true, false, not, List, ◌∷◌, Option, None, Some, IfSome, if◌then◌else◌}
use Rattle.std.specs.List.{find}
use Rattle.std.specs.Option.{option_map}
use Rattle.basics.specs.Members.{Has}
use Rattle.pms_names.specs.Flags.{has}
use Rattle.dep_atom.specs.declared.package.Facts.{Facts}
use Rattle.dep_atom.specs.declared.package.PackageId.{PackageId}
use Rattle.dep_atom.specs.Values.{AtomValue, atom_value}
use Rattle.dep_group.specs.Trees.{Tree, group, holds, is_any_of, is_member, leaf, no_trees, tree}
use Rattle.dep_group.specs.declared.token.Opener.{Opener}
use Rattle.dep_tree.specs.Texts.{AtomTrees}
use Rattle.dep_tree.specs.Truth.{is_fact, kind}
use Rattle.pkg_state.specs.Package.{Package, line_of, tree_of}
use Rattle.pkg_state.specs.Consistent.{AreApart, blocks, facts_of, fits_required, is_blocked, is_met}
use Rattle.pkg_state.specs.declared.class.Class.{Class}
use Rattle.pkg_state.specs.declared.class.Class.TheVariants.{Rdepend}
use Rattle.pkg_state.specs.declared.broken.Broken.{Broken}
use Rattle.pkg_state.specs.declared.broken.Broken.TheVariants as broken

-- The leaf to name of trees that don't hold: in trees that must all hold, of the first that fails;
-- of an any-of group, of its first member. `empty` says whether a group that wants one of its
-- members holds where it has none.
abbrev mutual
  pub lacking :
      Bool → (AtomValue → Bool) → (List ℕ → Bool) → Tree (Opener (List ℕ)) AtomValue →
      Option AtomValue
  lacking empty fact on (leaf a) = Some a
  lacking empty fact on (group None ts) = lacking_of_all empty fact on ts
  lacking empty fact on (group (Some opener) ts) =
      if is_any_of opener then lacking_of_first empty fact on ts
      else lacking_of_all empty fact on ts

  pub lacking_of_all :
      Bool → (AtomValue → Bool) → (List ℕ → Bool) → AtomTrees → Option AtomValue
  lacking_of_all empty fact on no_trees = None
  lacking_of_all empty fact on (tree t ts) =
      if holds empty kind fact on t then lacking_of_all empty fact on ts
      else lacking empty fact on t

  pub lacking_of_first :
      Bool → (AtomValue → Bool) → (List ℕ → Bool) → AtomTrees → Option AtomValue
  lacking_of_first empty fact on no_trees = None
  lacking_of_first empty fact on (tree t ts) =
      if is_member kind on t then lacking empty fact on t else lacking_of_first empty fact on ts

-- the leaf to name of what the package needs in this class, among packages with these facts
abbrev pub lacking_leaf : List Facts → Class → Package → Option AtomValue
lacking_leaf facts class p =
    lacking_of_all (tree_of class p).empty_holds (is_fact facts p.facts.enabled)
    (has p.facts.enabled) (tree_of class p).groups

-- what can be wrong, by the packages' ids
pub data Fault : Type 0 where
  SlotTwice : (one other : PackageId) → Fault
  RequiredUse : (one : PackageId) → Fault
  Blocked : (one by : PackageId) → Fault
  Runtime : (one : PackageId) (missing : Option AtomValue) → Fault

-- what the code's answer says is wrong; want of memory says nothing of the packages
abbrev pub told : Broken → Option Fault
told (broken.SlotTwice one other) = Some (SlotTwice one other)
told (broken.RequiredUse one) = Some (RequiredUse one)
told (broken.Blocked one by) = Some (Blocked one by)
told (broken.Runtime one missing) = Some (Runtime one (option_map atom_value missing))
told broken.Memory = None

-- the answer says just this, if it isn't want of memory
abbrev pub IsTold : Fault → Broken → Type 0
IsTold fault answer = IfSome (told answer) (λ f. f ≡ fault)

-- q is the first package whose line an earlier one has, which is p
pub record AreFirstTwins (ps : List Package) (p q : Package) : Type 0 where
  pub front : List Package
  pub back : List Package
  pub is : ps ≡ front ++ q ∷ back
  pub apart : AreApart front
  pub has : Has front p
  pub twin : line_of p.facts ≡ line_of q.facts

-- nothing is wrong with the package among these
abbrev pub is_right : List Package → Package → Bool
is_right ps p = fits_required p && (not (is_blocked ps p) && is_met (facts_of ps) Rdepend p)

-- what is tried first of the package and is wrong: its flags, its blocks, its needs
abbrev pub IsWrong : List Package → Package → Fault → Type 0
IsWrong ps p (SlotTwice one other) = ⊥
IsWrong ps p (RequiredUse one) = (one ≡ p.facts.id) × (fits_required p ≡ false)
IsWrong ps p (Blocked one by) =
    (one ≡ p.facts.id) × (fits_required p ≡ true)
    × ((q : Package) × (find (λ q. blocks q p) ps ≡ Some q) × (by ≡ q.facts.id))
IsWrong ps p (Runtime one missing) =
    (one ≡ p.facts.id) × (fits_required p ≡ true) × (is_blocked ps p ≡ false)
    × (is_met (facts_of ps) Rdepend p ≡ false) × (missing ≡ lacking_leaf (facts_of ps) Rdepend p)

-- no two stand on one line, and of the first package that isn't right this is wrong
pub record IsFirstWrong (ps : List Package) (fault : Fault) : Type 0 where
  pub apart : AreApart ps
  pub one : Package
  pub first : find (λ p. not (is_right ps p)) ps ≡ Some one
  pub why : IsWrong ps one fault

-- what is first wrong: two packages on one line, and then package by package
abbrev pub IsFirstFault : List Package → Fault → Type 0
IsFirstFault ps (SlotTwice one other) =
    (p q : Package) × AreFirstTwins ps p q × (one ≡ p.facts.id) × (other ≡ q.facts.id)
IsFirstFault ps (RequiredUse one) = IsFirstWrong ps (RequiredUse one)
IsFirstFault ps (Blocked one by) = IsFirstWrong ps (Blocked one by)
IsFirstFault ps (Runtime one missing) = IsFirstWrong ps (Runtime one missing)

-- All changes of a choice, as a plan of one group.
use Rattle.std.specs.Prelude.{◌≡◌, ℕ, List, [], ◌∷◌, Some, map}
use Rattle.build_pool.specs.declared.orders.Order.{Order}
use Rattle.pkg_state.specs.Package.{Package, line_of}
use Rattle.choice_law.specs.Universe.{Universe, Value, offer_at, package_of}
use Rattle.choice_law.specs.Tree.{Choice}
use Rattle.plan_text.specs.Plans.{GroupValue}
use Rattle.plan_text.specs.declared.plan.Removal.{Removal}
use Rattle.merge_groups.specs.Binds.{binds_of}
use Rattle.merge_groups.specs.Changes.{those}
use Rattle.merge_groups.specs.Order.{AreInTextOrder, enabled_of, removal_of}
use Rattle.merge_groups.specs.declared.change.Change.TheVariants as changes
use Rattle.merge_groups.specs.declared.part.Part.TheVariants.{Coming, Going, Standing}

-- the package comes, where these stand beside it afterwards
abbrev pub addition_of : List Package → Package → Order
addition_of ps p = record {
  id = p.facts.id;
  slot = p.facts.slot;
  subslot = p.facts.subslot;
  enabled = enabled_of p;
  binds = binds_of ps p;
}

-- the one group of all changes, which waits for none; where nothing changes, there is none
abbrev pub groups_of : List Removal → List Order → List GroupValue
groups_of [] [] = []
groups_of [] (a ∷ more) = record { after = []; removals = []; additions = a ∷ more } ∷ []
groups_of (r ∷ rs) additions = record { after = []; removals = r ∷ rs; additions = additions } ∷ []

-- what goes and what comes with the choice, in the order of the text of a plan
pub record IsSingle (u : Universe) (c : Choice) (groups : List GroupValue) : Type 0 where
  pub going : List Package
  pub coming : List Package
  pub leave : AreInTextOrder changes.Removal (those Going u c) going
  pub enter : AreInTextOrder changes.Addition (those Coming u c) coming
  pub is : groups ≡ groups_of (map removal_of going)
      (map (addition_of (those Standing u c)) coming)

-- no two lines of the universe have packages of one name and slot
abbrev pub AreLinesApart : Universe → Type 0
AreLinesApart u =
    (l m : ℕ) (v w : Value) (p q : Package) → package_of (offer_at u l) v ≡ Some p →
    package_of (offer_at u m) w ≡ Some q → line_of p.facts ≡ line_of q.facts → l ≡ m

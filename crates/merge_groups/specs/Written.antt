-- The text of groups over installed packages: what comes has the binds that the check asks for.
use Rattle.std.specs.Prelude.{◌≡◌, ◌<◌, ◌+◌, ℕ, List, [], get_or, length, map}
use Rattle.std.specs.List.{AllZip}
use Rattle.pms_names.specs.Flags.{has}
use Rattle.build_pool.specs.declared.orders.Order.{Order}
use Rattle.dep_atom.specs.Values.{AtomValue}
use Rattle.dep_atom.specs.declared.slot.Bind.{Bind}
use Rattle.pkg_state.specs.Package.{Package}
use Rattle.plan_law.specs.Plans as law
use Rattle.plan_text.specs.Plans.{GroupValue}
use Rattle.plan_text.specs.Texts.{entry}
use Rattle.plan_text.specs.declared.plan.Removal.{Removal}
use Rattle.plan_lives.specs.Binding.{IsGreatest}
use Rattle.plan_lives.specs.Gathered.{matching}
use Rattle.plan_lives.specs.Lives.{lives}
use Rattle.plan_model.specs.Entering.{all_asking_leaves}
use Rattle.merge_groups.specs.Binds.{bind_to}
use Rattle.merge_groups.specs.Order.{entry_of}
use Rattle.std.specs.Prelude.{Option, None}

-- The bind of a leaf of what the group brings, for an asker with these flags: to the greatest
-- package that the leaf matches of those that stand beside it. Such a package doesn't go with the
-- group or with one that it waits for, and doesn't come with one that waits for it.
abbrev pub IsBindOf :
    List law.Group → List Package → ℕ → List (List ℕ) → AtomValue → Bind → Type 0
IsBindOf plan start g asker a b =
    (found : Option Package)
    × IsGreatest plan g None (matching a asker (lives plan start)) found × (b ≡ bind_to found a)

-- the addition says that the package comes with the group: with those of its own flags that are on,
-- and with a bind for each leaf that asks, in written order
pub record Says (plan : List law.Group) (start : List Package) (g : ℕ) (p : Package)
    (a : Order) : Type 0 where
  pub is : entry a ≡ entry_of p
  pub binds : AllZip (IsBindOf plan start g p.facts.enabled)
      (all_asking_leaves (has p.facts.enabled) p.rdepend.groups) a.binds

abbrev pub removal_in : law.Removal → Removal
removal_in r = record { id = r.id; slot = r.slot }

-- the text of the group at a place; groups have numbers from 1 on there
pub record IsGroupText (plan : List law.Group) (start : List Package) (g : ℕ) (group : law.Group)
    (t : GroupValue) : Type 0 where
  pub after : t.after ≡ map (λ h. h + 1) group.after
  pub removals : t.removals ≡ map removal_in group.removals
  pub additions : AllZip (Says plan start g) group.additions t.additions

abbrev pub no_text : GroupValue
no_text = record { after = []; removals = []; additions = [] }

-- the texts of all groups
pub record AreTexts (plan : List law.Group) (start : List Package)
    (texts : List GroupValue) : Type 0 where
  pub each : length texts ≡ length plan
  pub group : (g : ℕ) → g < length plan →
      IsGroupText plan start g (law.group_at plan g) (get_or texts g no_text)

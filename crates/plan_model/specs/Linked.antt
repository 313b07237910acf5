-- The plan that a text stands for, over the packages that are offered.
use Rattle.std.specs.Prelude.{◌≡◌, ◌-◌, List, map}
use Rattle.std.specs.List.{AllZip}
use Rattle.pkg_state.specs.Package.{Package}
use Rattle.plan_law.specs.Plans as law
use Rattle.plan_text.specs.Plans.{GroupValue}
use Rattle.plan_text.specs.declared.plan.Removal.{Removal}
use Rattle.plan_model.specs.Offers.{Brings}

abbrev pub removal_of : Removal → law.Removal
removal_of r = record { id = r.id; slot = r.slot }

-- the group waits for those with the numbers of the text, takes away what that names, and brings
-- what each of its additions brings
pub record IsLinkedGroup (offered : List Package) (t : GroupValue) (g : law.Group) : Type 0 where
  pub after : g.after ≡ map (λ n. n - 1) t.after
  pub removals : g.removals ≡ map removal_of t.removals
  pub additions : AllZip (Brings offered) t.additions g.additions

-- group by group
abbrev pub IsLinked : List Package → List GroupValue → List law.Group → Type 0
IsLinked offered text plan = AllZip (IsLinkedGroup offered) text plan

-- What the additions of a text ask of its binds, over the packages that are offered.
use Rattle.std.specs.Prelude.{◌≡◌, ℕ, List, [], Option, None, Some}
use Rattle.std.specs.List.{AllZip, flat_map}
use Rattle.pms_names.specs.Flags.{has}
use Rattle.build_pool.specs.declared.orders.Order.{Order}
use Rattle.dep_atom.specs.Values.{AtomValue}
use Rattle.pkg_state.specs.Package.{Package}
use Rattle.plan_text.specs.Plans.{GroupValue}
use Rattle.plan_check.specs.Asks.{AskedValue}
use Rattle.plan_model.specs.Entering.{all_asking_leaves}
use Rattle.plan_model.specs.Offers.{AreOn, IsFirst}

-- these leaves of the package ask for a bind, with the flags that are on where it comes with the
-- addition; none do where no package is found
abbrev pub AreAsking : Order → Option Package → List AtomValue → Type 0
AreAsking a None leaves = leaves ≡ []
AreAsking a (Some p) leaves =
    (on : List (List ℕ)) × AreOn a.enabled p.facts.enabled on
    × (leaves ≡ all_asking_leaves (has on) p.rdepend.groups)

-- the addition asks this: the leaves are those of the offered package, as they are written, and the
-- binds are those of the text
pub record IsAsked (offered : List Package) (a : Order) (asked : AskedValue) : Type 0 where
  pub found : Option Package
  pub first : IsFirst a offered found
  pub leaves : AreAsking a found asked.leaves
  pub binds : asked.binds ≡ a.binds

-- the additions of all groups, in their order
abbrev pub additions_of : List GroupValue → List Order
additions_of text = flat_map (λ t. t.additions) text

-- addition by addition
abbrev pub AreAsked : List Package → List GroupValue → List AskedValue → Type 0
AreAsked offered text asks = AllZip (IsAsked offered) (additions_of text) asks

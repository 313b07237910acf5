-- What may stand on each line of a system, and choices of it.
use Rattle.std.specs.Prelude.{◌≡◌, ◌<◌, ◌||◌, ◌&&◌, ◌++◌, ℕ, zero, suc, Bool, true, false, List, [], ◌∷◌, Option, None, Some, IsSome, bytes_eq, get_or, length, slice_get, ⊤}
use Rattle.dep_atom.specs.Ids.{id_text}
use Rattle.dep_atom.specs.Values.{AtomValue}
use Rattle.pkg_state.specs.Consistent.{class_blocks}
use Rattle.pkg_state.specs.Package.{Package}
use Rattle.pkg_state.specs.declared.class.Class.{Class}
use Rattle.pkg_state.specs.declared.class.Class.TheVariants.{Bdepend, Depend, Idepend, Pdepend, Rdepend}

-- what may stand on one line: what is installed there, nothing, or one of these
pub record Offer : Type 0 where
  pub installed : Option Package
  pub variants : List Package

-- an offer for each line, in line order, and what is wanted; a line is told by its place
pub record Universe : Type 0 where
  pub offers : List Offer
  pub wanted : List AtomValue

pub data Value : Type 0 where
  keep : Value
  absent : Value
  variant : ℕ → Value

abbrev pub no_offer : Offer
no_offer = record { installed = None; variants = [] }

abbrev pub offer_at : Universe → ℕ → Offer
offer_at u l = get_or u.offers l no_offer

abbrev pub lines : Universe → ℕ
lines u = length u.offers

-- the package that a value of a line means
abbrev pub package_of : Offer → Value → Option Package
package_of o keep = o.installed
package_of o absent = None
package_of o (variant i) = slice_get o.variants i

abbrev pub IsValue : Offer → Value → Type 0
IsValue o keep = IsSome o.installed
IsValue o absent = ⊤
IsValue o (variant i) = i < length o.variants

-- a package that isn't there yet
abbrev pub is_new : Value → Bool
is_new keep = false
is_new absent = false
is_new (variant i) = true

abbrev pub standing : Option Package → Value
standing None = absent
standing (Some p) = keep

-- a line as it is
abbrev pub as_is : Universe → ℕ → Value
as_is u l = standing (offer_at u l).installed

-- a value of each line
abbrev pub Filling : Type 0
Filling = ℕ → Value

-- the package stands on the line
pub record Stands (u : Universe) (f : Filling) (l : ℕ) (p : Package) : Type 0 where
  pub there : l < lines u
  pub is : package_of (offer_at u l) (f l) ≡ Some p

abbrev pub as_list : Option Package → List Package
as_list None = []
as_list (Some p) = p ∷ []

-- the packages on the first lines, in line order
abbrev pub packages_below : Universe → Filling → ℕ → List Package
packages_below u f zero = []
packages_below u f (suc n) = packages_below u f n ++ as_list (package_of (offer_at u n) (f n))

-- all of them
abbrev pub packages : Universe → Filling → List Package
packages u f = packages_below u f (lines u)

abbrev pub same_version : Package → Package → Bool
same_version p q = bytes_eq (id_text p.facts.id) (id_text q.facts.id)

-- the package can't stand beside another one, on another line; if it is new, the blocks of its
-- build count too
abbrev pub conflicts : Bool → Package → Package → Bool
conflicts new p q =
    class_blocks Rdepend p q || (class_blocks Pdepend p q
    || ((new && (class_blocks Depend p q || (class_blocks Bdepend p q || class_blocks Idepend p q)))
    || same_version p q))

-- what the class wants must be there for a package of this value
abbrev pub counts : Class → Value → Bool
counts Rdepend v = true
counts Pdepend v = is_new v
counts Depend v = is_new v
counts Bdepend v = is_new v
counts Idepend v = is_new v

-- Which packages may yet stand under a choice, and where none of them could close what is open.
use Rattle.std.specs.Prelude.{◌≡◌, ◌&&◌, ◌++◌, ℕ, zero, suc, Bool, false, true, not, List, [], Option, None, Some, is_some, if◌then◌else◌}
use Rattle.std.specs.Option.{option_map_or}
use Rattle.pkg_state.specs.Consistent.{facts_of, is_met}
use Rattle.pkg_state.specs.Package.{Package}
use Rattle.pkg_state.specs.declared.class.Class.{Class}
use Rattle.choice_law.specs.Universe.{Offer, Universe, Value, as_list, lines, offer_at, package_of, packages}
use Rattle.choice_law.specs.Tree.{Choice, Obligation, absence, conflict, decided, filling, required, tree, wanted}

-- what may yet stand on a line: where something is decided of it just that, else what is installed
-- there and each variant
abbrev pub possible_on : Option Value → Offer → List Package
possible_on None o = as_list o.installed ++ o.variants
possible_on (Some v) o = as_list (package_of o v)

-- .. on the first lines, in line order
abbrev pub possible_below : Universe → Choice → ℕ → List Package
possible_below u c zero = []
possible_below u c (suc n) = possible_below u c n ++ possible_on (decided c n) (offer_at u n)

-- all of them; of one line there may be several, since nothing says yet which
abbrev pub possible : Universe → Choice → List Package
possible u c = possible_below u c (lines u)

-- what the package needs in this class holds among all that may yet stand
abbrev pub may_be_met : Universe → Choice → Class → Package → Bool
may_be_met u c class p = is_met (facts_of (possible u c)) class p

-- by these packages it is judged what is to blame where a need doesn't hold: by all that may yet
-- stand, where it doesn't hold even among them, else by those that stand now
abbrev pub judged_among : Universe → Choice → Class → Package → List Package
judged_among u c class p =
    if may_be_met u c class p then packages u (filling u c) else possible u c

-- no decision on another line closes this: it is what a package on a decided line needs, and that
-- doesn't hold even among all that may yet stand. Anything else that nothing closes has no option.
abbrev pub is_hopeless : Universe → Choice → Obligation → Bool
is_hopeless u c (wanted a) = false
is_hopeless u c (required l) = false
is_hopeless u c (conflict l m) = false
is_hopeless u c (tree l class) =
    is_some (decided c l)
    && option_map_or (λ p. not (may_be_met u c class p))
    (package_of (offer_at u l) (filling u c l)) false
is_hopeless u c (absence l) = false

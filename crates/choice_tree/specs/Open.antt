-- What is taken up next of a choice: the first obligation that is open.
use Rattle.std.specs.Prelude.{ℕ, Bool, true, false, not, ◌&&◌, ◌++◌, List, [], ◌∷◌, Option, None, Some, get_or, map, nat_eq}
use Rattle.std.specs.List.{find, flat_map, list_any}
use Rattle.std.specs.Option.{option_and_then}
use Rattle.dep_atom.specs.Match.{value_matches}
use Rattle.dep_atom.specs.Values.{AtomValue, atom_value}
use Rattle.pkg_state.specs.Consistent.{facts_of, fits_required, is_met}
use Rattle.pkg_state.specs.Package.{Package}
use Rattle.pkg_state.specs.declared.class.Class.{Class}
use Rattle.pkg_state.specs.declared.class.Class.TheVariants.{Bdepend, Depend, Idepend, Pdepend, Rdepend}
use Rattle.choice_law.specs.Universe.{Universe, Value, absent, conflicts, counts, is_new, keep, lines, package_of, variant}
use Rattle.choice_law.specs.Tree.{Choice, IsPick, Obligation, absence, conflict, required, tree, wanted}
use Rattle.choice_tree.specs.Places.{Place, is_one, no_place, numbers, package_in, packages_in, places, value_in}
use Rattle.choice_tree.specs.declared.obligation.Obligation.{Obligation as TheObligation}
use Rattle.choice_tree.specs.declared.obligation.Obligation.TheVariants.{Absence, Conflict, Required, Tree, Wanted}

abbrev pub obligation_of : TheObligation → Obligation
obligation_of (Wanted a) = wanted (atom_value a.now)
obligation_of (Required l) = required l
obligation_of (Conflict l m) = conflict l m
obligation_of (Tree l class) = tree l class
obligation_of (Absence l) = absence l

abbrev pub classes : List Class
classes = Rdepend ∷ Pdepend ∷ Depend ∷ Bdepend ∷ Idepend ∷ []

-- of the package of one line: its flags, then the others in line order, then its dependencies
abbrev pub obligations_of : ℕ → ℕ → List Obligation
obligations_of n l =
    required l ∷ (map (λ m. conflict l m) (numbers n 0) ++ map (λ class. tree l class) classes)

-- all that there may be over so many lines, in the order in which it is taken up: first what is
-- wanted, then line by line the packages, then what has gone
abbrev pub obligations : List AtomValue → ℕ → List Obligation
obligations atoms n =
    map (λ a. wanted a) atoms
    ++ (flat_map (λ l. obligations_of n l) (numbers n 0) ++ map (λ l. absence l) (numbers n 0))

abbrev pub is_gone : Option Value → Bool
is_gone None = false
is_gone (Some keep) = false
is_gone (Some absent) = true
is_gone (Some (variant i)) = false

-- a decided line has a package that the atom matches
abbrev pub decides : AtomValue → Place → Bool
decides a s =
    is_one (λ p. value_matches a p.facts []) (option_and_then (package_of s.offer) s.decided)

-- what stands there conflicts with the package
abbrev pub opposes : Package → Place → Bool
opposes q s = is_one (λ p. conflicts (is_new (value_in s)) p q) (package_in s)

abbrev pub is_open_of : List Place → Obligation → Bool
is_open_of ss (wanted a) = not (list_any (decides a) ss)
is_open_of ss (required l) =
    is_one (λ p. not (fits_required p)) (package_in (get_or ss l no_place))
is_open_of ss (conflict l m) =
    not (nat_eq l m)
    && is_one (λ q. opposes q (get_or ss l no_place)) (package_in (get_or ss m no_place))
is_open_of ss (tree l class) =
    counts class (value_in (get_or ss l no_place))
    && is_one (λ p. not (is_met (facts_of (packages_in ss)) class p))
    (package_in (get_or ss l no_place))
is_open_of ss (absence l) =
    is_gone (get_or ss l no_place).decided
    && is_one (λ z. not (list_any (opposes z) ss)) (get_or ss l no_place).offer.installed

-- what is taken up next, where anything is open
abbrev pub first_open : Universe → Choice → Option Obligation
first_open u c = find (is_open_of (places u c)) (obligations u.wanted (lines u))

-- it is a pick, so the laws of the tree of choices hold of it
abbrev pub FirstOpenIsAPick : Type 0
FirstOpenIsAPick = (u : Universe) → IsPick u (first_open u)

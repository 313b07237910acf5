-- What may yet stand under a choice, and what is hopeless by that, line by line.
use Rattle.std.specs.Prelude.{◌&&◌, ℕ, Bool, List, None, Option, Some, is_some, not, if◌then◌else◌}
use Rattle.std.specs.List.{flat_map}
use Rattle.dep_atom.specs.Match.{value_matches}
use Rattle.dep_atom.specs.Values.{AtomValue}
use Rattle.pkg_state.specs.Consistent.{facts_of, is_met}
use Rattle.pkg_state.specs.Package.{Package}
use Rattle.pkg_state.specs.declared.class.Class.{Class}
use Rattle.choice_law.specs.Possible.{possible_on}
use Rattle.choice_law.specs.Reasons.{can_match}
use Rattle.choice_law.specs.Universe.{Offer, Value, package_of}
use Rattle.choice_tree.specs.Places.{Place, is_one, package_in, packages_in}

-- what may yet stand on these lines
abbrev pub possible_in : List Place → List Package
possible_in ss = flat_map (λ s. possible_on s.decided s.offer) ss

-- one of these is a package that the atom matches: of a line with this decision and this offer
abbrev pub may_match_by : AtomValue → List (List ℕ) → Option Value → Offer → Bool
may_match_by a asker None o = can_match a asker o
may_match_by a asker (Some v) o = is_one (λ p. value_matches a p.facts asker) (package_of o v)

-- .. of a line
abbrev pub may_match : AtomValue → List (List ℕ) → Place → Bool
may_match a asker s = may_match_by a asker s.decided s.offer

-- the packages by which it is judged what is to blame
abbrev pub judged_in : List Place → Class → Package → List Package
judged_in ss class p =
    if is_met (facts_of (possible_in ss)) class p then packages_in ss else possible_in ss

-- the line is decided, and what its package needs doesn't hold even among all that may yet stand
abbrev pub is_lost : List Place → Class → Place → Bool
is_lost ss class s =
    is_some s.decided
    && is_one (λ p. not (is_met (facts_of (possible_in ss)) class p)) (package_in s)

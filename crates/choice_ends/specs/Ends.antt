-- What a person is told of the dead ends of a search, by the packages that the lines have.
use Rattle.std.specs.Prelude.{◌≡◌, ◌||◌, ℕ, Bool, List, [], ◌∷◌, Option, None, Some, take}
use Rattle.std.specs.List.{AllZip, flat_map, list_any}
use Rattle.std.specs.Option.{option_map}
use Rattle.dep_atom.specs.Match.{value_matches}
use Rattle.dep_atom.specs.Values.{AtomValue, atom_value}
use Rattle.dep_atom.specs.declared.atom.Atom.{Atom}
use Rattle.dep_atom.specs.declared.package.PackageId.{PackageId}
use Rattle.pkg_state.specs.Consistent.{facts_of}
use Rattle.pkg_state.specs.Fault.{lacking_leaf}
use Rattle.pkg_state.specs.Package.{Package}
use Rattle.pkg_state.specs.declared.class.Class.{Class}
use Rattle.choice_law.specs.Universe.{Offer, Stands, Universe, Value, absent, keep, offer_at, variant, package_of}
use Rattle.choice_law.specs.Possible.{judged_among}
use Rattle.choice_law.specs.Tree.{Choice, Obligation, absence, conflict, filling, required, tree, wanted}
use Rattle.choice_tree.specs.Open.{first_open}
use Rattle.choice_tree.specs.Places.{is_one}
use Rattle.choice_ends.specs.declared.ends.DeadEnd.{DeadEnd}
use Rattle.choice_ends.specs.declared.ends.Fate.{Fate}
use Rattle.choice_ends.specs.declared.ends.Fate.TheVariants.{Comes, Goes, Stays}
use Rattle.choice_ends.specs.declared.ends.Lack.{Lack}
use Rattle.choice_ends.specs.declared.ends.Lack.TheVariants as lacks
use Rattle.choice_ends.specs.declared.ends.Pick.{Pick}

-- of so many dead ends a person is told
abbrev pub most_told : ℕ
most_told = 10

abbrev pub picked : Fate → Option Package → List Pick
picked fate None = []
picked fate (Some p) = record { id = p.facts.id; fate = fate } ∷ []

-- the package that a decision on a line is about, and what becomes of it; none where nothing is
-- there and nothing comes
abbrev pub picks_on : Offer → Value → List Pick
picks_on o keep = picked Stays o.installed
picks_on o absent = picked Goes o.installed
picks_on o (variant i) = picked Comes (package_of o (variant i))

-- .. of all decisions, the newest first
abbrev pub picks_of : Universe → Choice → List Pick
picks_of u c = flat_map (λ d. picks_on (offer_at u d.0) d.1) c

-- something that may stand on the line is a package that the atom matches
abbrev pub may_serve : AtomValue → List (List ℕ) → Offer → Bool
may_serve a asker o =
    is_one (λ p. value_matches a p.facts asker) o.installed
    || list_any (λ p. value_matches a p.facts asker) o.variants

-- .. on some line
abbrev pub is_offered : Universe → List (List ℕ) → AtomValue → Bool
is_offered u asker a = list_any (may_serve a asker) u.offers

-- what the package needs in this class isn't there: this leaf of it is named, by all packages that
-- may yet stand where it isn't there even then; and is that offered at all?
pub record IsNeed (u : Universe) (c : Choice) (class : Class) (p : Package)
    (leaf : Option Atom) (is_offered_at_all : Bool) : Type 0 where
  pub leaf_is : option_map atom_value leaf ≡
      lacking_leaf (facts_of (judged_among u c class p)) class p
  pub offered_is : is_offered_at_all ≡
      is_one (is_offered u p.facts.enabled) (option_map atom_value leaf)

-- the package stands on the line, and this is its name
pub record IsNamed (u : Universe) (c : Choice) (l : ℕ) (p : Package)
    (id : PackageId) : Type 0 where
  pub stands : Stands u (filling u c) l p
  pub named : id ≡ p.facts.id

-- what is open, told by packages
abbrev pub IsLack : Universe → Choice → Obligation → Lack → Type 0
IsLack u c (wanted a) (lacks.Wanted atom) = atom_value atom ≡ a
IsLack u c (required l) (lacks.Flags id) = (p : Package) × IsNamed u c l p id
IsLack u c (conflict l m) (lacks.Conflict id other) =
    (p q : Package) × IsNamed u c l p id × IsNamed u c m q other
IsLack u c (tree l class) (lacks.Need id of leaf offered) =
    (p : Package) × IsNamed u c l p id × (of ≡ class) × IsNeed u c class p leaf offered
IsLack u c (absence l) (lacks.Forsaken id) =
    (z : Package) × ((offer_at u l).installed ≡ Some z) × (id ≡ z.facts.id)
IsLack u c o lack = ⊥

-- what the choice decides, and what is first open of it
pub record IsDeadEnd (u : Universe) (c : Choice) (d : DeadEnd) : Type 0 where
  pub chosen : d.chosen.items ≡ picks_of u c
  pub obligation : Obligation
  pub first : first_open u c ≡ Some obligation
  pub lacks : IsLack u c obligation d.lacks

-- the first of these choices, each as a dead end
abbrev pub AreDeadEnds : Universe → List Choice → List DeadEnd → Type 0
AreDeadEnds u cs dead = AllZip (IsDeadEnd u) (take most_told cs) dead

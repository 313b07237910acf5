-- What a command asks, and over what.
use Rattle.std.specs.Prelude.{◌≡◌, ◌||◌, ℕ, Bool, not, List, [], Option, map}
use Rattle.std.specs.List.{find, list_any}
use Rattle.dep_atom.specs.Match.{value_matches}
use Rattle.dep_atom.specs.Values.{AtomValue, atom_value}
use Rattle.pkg_state.specs.Package.{Package}
use Rattle.choice_law.specs.Universe.{Offer, Universe}
use Rattle.choice_tree.specs.Places.{is_one}
use Rattle.choice_universe.specs.Offers.{AreOffers}
use Rattle.emerge_choose.specs.declared.wish.Wish.{Wish}

-- each of these atoms is to match a package; whether a greater version goes before what is
-- installed; and how many tries are too many
pub record WishValue : Type 0 where
  pub wanted : List AtomValue
  pub update : Bool
  pub limit : ℕ

abbrev pub wish_value : Wish → WishValue
wish_value w =
    record { wanted = map atom_value w.wanted.items; update = w.update; limit = w.limit }

-- what there is to choose from: what is installed, these variants, and what is wanted
pub record IsUniverse (installed variants : List Package) (wish : WishValue)
    (u : Universe) : Type 0 where
  pub offers : AreOffers installed variants u.offers
  pub wanted : u.wanted ≡ wish.wanted

-- .. and what holds of it
pub record Over (installed variants : List Package) (wish : WishValue)
    (Holds : Universe → Type 0) : Type 0 where
  pub universe : Universe
  pub made : IsUniverse installed variants wish universe
  pub holds : Holds universe

-- the atom matches a package
abbrev pub is_match : AtomValue → Package → Bool
is_match a p = value_matches a p.facts []

-- the atom matches what may stand on the line
abbrev pub may_serve : AtomValue → Offer → Bool
may_serve a o = is_one (is_match a) o.installed || list_any (is_match a) o.variants

-- the atom matches what may stand on some line
abbrev pub is_served : Universe → AtomValue → Bool
is_served u a = list_any (may_serve a) u.offers

-- the first wanted atom that matches no value of a line, if there is one
abbrev pub first_unserved : Universe → Option AtomValue
first_unserved u = find (λ a. not (is_served u a)) u.wanted

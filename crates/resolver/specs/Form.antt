-- Packages whose dependencies are in form.
use Rattle.std.specs.Prelude.{◌≡◌, List, Some}
use Rattle.basics.specs.Members.{Has}
use Rattle.pkg_state.specs.Package.{Package, tree_of}
use Rattle.pkg_state.specs.declared.class.Class.{Class}
use Rattle.choice_law.specs.Laws.{CountNothing}
use Rattle.choice_law.specs.Universe.{Value, package_of}
use Rattle.choice_tree.specs.Views.{offer_of}
use Rattle.choice_tree.specs.declared.universe.Offer.{Offer}

-- no group of its dependencies counts its members
abbrev pub IsPlain : Package → Type 0
IsPlain p = (class : Class) → CountNothing (tree_of class p).groups

abbrev pub ArePlain : List Package → Type 0
ArePlain ps = (p : Package) → Has ps p → IsPlain p

-- nor one of what may stand on a line
abbrev pub AreOffers : List Offer → Type 0
AreOffers os =
    (o : Offer) → Has os o → (v : Value) (p : Package) → package_of (offer_of o) v ≡ Some p →
    IsPlain p

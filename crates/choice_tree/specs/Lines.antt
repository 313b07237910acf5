-- What stands on a line, by its offer and what is decided of it.
use Rattle.std.specs.Prelude.{Option}
use Rattle.std.specs.Option.{option_map}
use Rattle.pkg_state.specs.Package.{Package}
use Rattle.choice_law.specs.Universe.{Value}
use Rattle.choice_tree.specs.Places.{Place, package_in, value_in}
use Rattle.choice_tree.specs.Views.{offer_of, value_of}
use Rattle.choice_tree.specs.declared.universe.Offer.{Offer as TheOffer}
use Rattle.choice_tree.specs.declared.value.Value.{Value as TheValue}

abbrev pub line_place : TheOffer → Option TheValue → Place
line_place offer decided =
    record { decided = option_map value_of decided; offer = offer_of offer }

abbrev pub value_of_line : TheOffer → Option TheValue → Value
value_of_line offer decided = value_in (line_place offer decided)

abbrev pub package_of_line : TheOffer → Option TheValue → Option Package
package_of_line offer decided = package_in (line_place offer decided)

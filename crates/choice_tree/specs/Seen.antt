-- What the code knows of a line, in the words of the definitions.
use Rattle.std.specs.Prelude.{List, map}
use Rattle.choice_tree.specs.Lines.{line_place}
use Rattle.choice_tree.specs.Places.{Place}
use Rattle.choice_tree.specs.declared.place.Place.{Place as ThePlace}

abbrev pub place_of : ThePlace → Place
place_of p = line_place p.offer.now p.decided

abbrev pub places_of : List ThePlace → List Place
places_of ps = map place_of ps

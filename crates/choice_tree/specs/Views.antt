-- What the code's values say, in the words of the laws.
use Rattle.std.specs.Prelude.{List, map}
use Rattle.dep_atom.specs.Values.{atom_value}
use Rattle.choice_law.specs.Universe.{Offer, Universe, Value, absent, keep, variant}
use Rattle.choice_law.specs.Tree.{Choice}
use Rattle.choice_tree.specs.declared.value.Value.{Value as TheValue}
use Rattle.choice_tree.specs.declared.value.Value.TheVariants.{Absent, Keep, Variant}
use Rattle.choice_tree.specs.declared.value.Decision.{Decision}
use Rattle.choice_tree.specs.declared.universe.Offer.{Offer as TheOffer}
use Rattle.choice_tree.specs.declared.universe.Universe.{Universe as TheUniverse}

abbrev pub value_of : TheValue → Value
value_of Keep = keep
value_of Absent = absent
value_of (Variant i) = variant i

abbrev pub decisions_of : List Decision → Choice
decisions_of ds = map (λ d. (d.line, value_of d.value)) ds

abbrev pub offer_of : TheOffer → Offer
offer_of o = record { installed = o.installed; variants = o.variants.items }

abbrev pub universe_of : TheUniverse → Universe
universe_of u =
    record { offers = map offer_of u.offers.items; wanted = map atom_value u.wanted.items }

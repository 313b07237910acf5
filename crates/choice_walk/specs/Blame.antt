-- The leaves to blame where something is open.
use Rattle.std.specs.Prelude.{List, []}
use Rattle.std.specs.Option.{option_map_or}
use Rattle.dep_atom.specs.Values.{AtomValue}
use Rattle.pkg_state.specs.Consistent.{facts_of}
use Rattle.choice_law.specs.Blame.{blamed_in}
use Rattle.choice_law.specs.Possible.{judged_among}
use Rattle.choice_law.specs.Tree.{Choice, Obligation, absence, conflict, filling, required, tree, wanted}
use Rattle.choice_law.specs.Universe.{Universe, offer_at, package_of}

-- where it is that a package lacks what it needs; none where it is anything else
abbrev pub blamed_for : Universe → Choice → Obligation → List AtomValue
blamed_for u c (wanted a) = []
blamed_for u c (required l) = []
blamed_for u c (conflict l m) = []
blamed_for u c (tree l class) =
    option_map_or (λ p. blamed_in (facts_of (judged_among u c class p)) class p)
    (package_of (offer_at u l) (filling u c l)) []
blamed_for u c (absence l) = []

-- Which blocks of a package count against the others.
use Rattle.std.specs.Prelude.{Bool, ◌++◌, List, [], if◌then◌else◌}
use Rattle.std.specs.List.{list_any}
use Rattle.dep_atom.specs.Match.{value_matches}
use Rattle.dep_atom.specs.Values.{AtomValue}
use Rattle.pkg_state.specs.Consistent.{blocks_in}
use Rattle.pkg_state.specs.Package.{Package}
use Rattle.pkg_state.specs.declared.class.Class.TheVariants.{Bdepend, Depend, Idepend, Pdepend, Rdepend}

-- those of its build count while it is new
abbrev pub build_blocks : Package → List AtomValue
build_blocks p = blocks_in Depend p ++ (blocks_in Bdepend p ++ blocks_in Idepend p)

abbrev pub blocks_of : Bool → Package → List AtomValue
blocks_of new p =
    (blocks_in Rdepend p ++ blocks_in Pdepend p) ++ (if new then build_blocks p else [])

-- one of the atoms matches q, for an asker with the flags of p
abbrev pub hit : List AtomValue → Package → Package → Bool
hit atoms p q = list_any (λ a. value_matches a q.facts p.facts.enabled) atoms

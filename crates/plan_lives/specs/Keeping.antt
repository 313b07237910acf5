-- What the blocks of a package keep out.
use Rattle.std.specs.Prelude.{◌≡◌, ◌&&◌, ◌++◌, ℕ, Bool, true, not, List, Option, None, Some, bytes_eq, filter}
use Rattle.std.specs.List.{list_any}
use Rattle.dep_atom.specs.Match.{value_matches}
use Rattle.dep_atom.specs.Values.{AtomValue}
use Rattle.pkg_state.specs.Consistent.{blocks_in, leaves_in}
use Rattle.pkg_state.specs.Package.{Package, line_of}
use Rattle.pkg_state.specs.declared.class.Class.{Class}
use Rattle.pkg_state.specs.declared.class.Class.TheVariants.{Bdepend, Depend, Idepend, Pdepend, Rdepend}
use Rattle.plan_law.specs.Plans.{Group}
use Rattle.plan_law.specs.Lives.{Life, Meets, Stretch}
use Rattle.plan_law.specs.Sound.{is_strong_block}

-- the strong blocks of a class that count
abbrev pub strong_blocks_in : Class → Package → List AtomValue
strong_blocks_in class p = filter (λ a. is_strong_block a.block) (leaves_in class p)

-- the blocks of a package that count while it is there
abbrev pub running_blocks : Package → List AtomValue
running_blocks p = blocks_in Rdepend p ++ blocks_in Pdepend p

-- .. and those that count when it may come
abbrev pub barring_blocks : Package → List AtomValue
barring_blocks p =
    strong_blocks_in Rdepend p ++ (strong_blocks_in Pdepend p
    ++ (blocks_in Depend p ++ (blocks_in Bdepend p ++ blocks_in Idepend p)))

-- the package isn't on the line, where one is given
abbrev pub is_elsewhere : Option (List ℕ) → Package → Bool
is_elsewhere None p = true
is_elsewhere (Some line) p = not (bytes_eq line (line_of p.facts))

-- one of the blocks matches the package, elsewhere than on the line
abbrev pub is_kept_out : List AtomValue → List (List ℕ) → Option (List ℕ) → Package → Bool
is_kept_out atoms asker line p =
    list_any (λ a. value_matches a p.facts asker) atoms && is_elsewhere line p

-- such a package may be there at some time of the stretch
abbrev pub IsMet :
    List Group → Stretch → List AtomValue → List (List ℕ) → Option (List ℕ) → Life → Type 0
IsMet plan s atoms asker line y =
    Meets plan s y × (is_kept_out atoms asker line y.package_is ≡ true)

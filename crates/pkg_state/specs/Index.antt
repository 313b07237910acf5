-- How the packages that an atom may mean are found, and the blocks that may mean a package.
use denote.Ref.{Bor}
use Rattle.std.specs.Prelude.{◌≡◌, ◌&&◌, ◌++◌, ℕ, Bool, not, List, [], ◌∷◌, Vec, bytes_eq, filter, map, if◌then◌else◌}
use Rattle.std.specs.Global.{Global}
use Rattle.std.specs.BTreeMap.{BTreeMap, get_by}
use Rattle.std.specs.Cmp.Lexicographic.{slice_cmp}
use Rattle.std.specs.List.{flat_map}
use Rattle.std.specs.Option.{option_map_or}
use Rattle.std.specs.Ordering.{nat_cmp}
use Rattle.dep_atom.specs.Match.{value_matches}
use Rattle.dep_atom.specs.Values.{AtomValue}
use Rattle.pkg_state.specs.Package.{Package}
use Rattle.pkg_state.specs.Consistent.{blocks_in, shares_line}
use Rattle.pkg_state.specs.declared.class.Class.{Class}
use Rattle.pkg_state.specs.declared.class.Class.TheVariants.{Pdepend, Rdepend}

-- what stands under a name
abbrev pub listed : {T : Type 0} → BTreeMap (Bor (List ℕ)) (Vec T Global) → List ℕ → List T
listed lists name =
    option_map_or (λ v. v.items) (get_by (λ k. slice_cmp nat_cmp name k.now) lists) []

-- one more item under a name, or none
abbrev pub one_under : {T : Type 0} → List ℕ → List ℕ → T → List T
one_under name other item = if bytes_eq other name then item ∷ [] else []

-- the packages of this name, whatever their category
abbrev pub those_named : List ℕ → List Package → List Package
those_named name ps = filter (λ p. bytes_eq name p.facts.id.name.«package») ps

-- under each name stand the packages of that name, in their order
abbrev pub AreNamed : List Package → BTreeMap (Bor (List ℕ)) (Vec (Bor Package) Global) → Type 0
AreNamed ps lists = (name : List ℕ) → map (λ p. p.now) (listed lists name) ≡ those_named name ps

-- the blocks of a class that count, each with the package that has it
abbrev pub blocks_of_class : Class → Package → List (Package × AtomValue)
blocks_of_class class p = map (λ a. (p, a)) (blocks_in class p)

-- those that keep other packages out
abbrev pub blocks_of : Package → List (Package × AtomValue)
blocks_of p = blocks_of_class Rdepend p ++ blocks_of_class Pdepend p

abbrev pub all_blocks : List Package → List (Package × AtomValue)
all_blocks ps = flat_map blocks_of ps

-- the blocks on packages of this name
abbrev pub those_on : List ℕ → List (Package × AtomValue) → List (Package × AtomValue)
those_on name bs = filter (λ b. bytes_eq name b.1.name.«package») bs

-- the block keeps the package out
abbrev pub keeps_out : Package → Package × AtomValue → Bool
keeps_out p b = value_matches b.1 p.facts b.0.facts.enabled && not (shares_line b.0 p)

-- A package with the flags on that a run has on for every package.
use Rattle.std.specs.Prelude.{ℕ, List, [], ◌∷◌, filter, map}
use Rattle.std.specs.BTreeSet.{insert_key}
use Rattle.pms_names.specs.Flags.{byte_order, has}
use Rattle.pkg_state.specs.Package.{Package, with_enabled}
use Rattle.vdb_law.specs.Packages.{Installed}

-- the flags that are on, with these beside them: each at its place in byte order, and once
abbrev pub lit_flags : List (List ℕ) → List (List ℕ) → List (List ℕ)
lit_flags [] on = on
lit_flags (flag ∷ flags) on = lit_flags flags (insert_key byte_order on flag)

-- the package with these flags on beside its own
abbrev pub lit : List (List ℕ) → Package → Package
lit flags p = with_enabled (lit_flags flags p.facts.enabled) p

-- the package as it is recorded: of the flags that are on, those that it knows
abbrev pub as_recorded : Package → Package
as_recorded p = with_enabled (filter (has p.facts.iuse) p.facts.enabled) p

-- what a database says of its packages, without the paths that they recorded, and with these flags
-- on, which the run has on for every package
abbrev pub packages_of : List (List ℕ) → List Installed → List Package
packages_of flags ps = map (λ p. lit flags p.package_is) ps

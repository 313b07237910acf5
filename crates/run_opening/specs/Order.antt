-- Packages in line order, and what is first wrong with them in this order.
use Rattle.std.specs.Prelude.{List, map}
use Rattle.std.specs.List.Sorted.{IsPermutation, IsSorted}
use Rattle.std.specs.Ordering.{ordering_then}
use Rattle.std.specs.declared.cmp.Ordering.{Ordering}
use Rattle.pms_grammar.specs.Grammar.{spelling}
use Rattle.pms_names.specs.Flags.{byte_order}
use Rattle.pkg_state.specs.Fault.{Fault, IsFirstFault}
use Rattle.pkg_state.specs.Package.{Package, line_of}
use Rattle.vdb_law.specs.Packages.{Installed}

-- which of two packages comes first: that on the smaller line, and on one line that of the smaller
-- version text, in bytes
abbrev pub line_cmp : Package → Package → Ordering
line_cmp p q = ordering_then (byte_order (line_of p.facts) (line_of q.facts))
    (byte_order (spelling p.facts.id.version) (spelling q.facts.id.version))

-- the packages as they are recorded
abbrev pub recorded_of : List Installed → List Package
recorded_of ps = map (λ p. p.package_is) ps

-- the second are the first, in line order
pub record AreInLineOrder (ps qs : List Package) : Type 0 where
  pub moved : IsPermutation ps qs
  pub sorted : IsSorted line_cmp qs

-- this is first wrong with the packages, taken in line order
pub record IsFirstInOrder (ps : List Package) (fault : Fault) : Type 0 where
  pub ordered : List Package
  pub order : AreInLineOrder ps ordered
  pub first : IsFirstFault ordered fault

-- What comes of the judgement of packages that a repair lets in.
use Rattle.std.proofs.Common.{◌≡◌, ℕ, List, Some, Vec, Global, refl, subst, sym}
use Rattle.std.specs.Prelude.{IfErr, IfOk, IfSome}
use Rattle.std.proofs.lemmas.List.Sorted.{IsPermutation-map, IsPermutation-sym}
use Rattle.basics.proofs.Permutations.{distinct-moved}
use Rattle.file_tree.specs.Disk.{Map}
use Rattle.pkg_state.specs.Consistent.{AreApart}
use Rattle.pkg_state.specs.Fault.{Fault, told}
use Rattle.pkg_state.specs.Fault as state
use Rattle.pkg_state.specs.Package.{Package, line_of, lines_of}
use Rattle.pkg_state.specs.declared.broken.Broken.{Broken}
use Rattle.pkg_state.specs.declared.broken.Broken.TheVariants as broken
use Rattle.pkg_state.proofs.Lines.{twins_not_apart}
use Rattle.vdb_law.specs.Database.{IsDatabase, IsTidy}
use Rattle.vdb_law.specs.Packages.{Installed}
use Rattle.vdb_text.specs.Limits.{AreWithin}
use Rattle.vdb_text.specs.declared.fault.DatabaseFault.{DatabaseFault}
use Rattle.law_commit.specs.Lit.{packages_of}
use Rattle.run_opening.specs.Faults.{AreBroken, Refuses, out_of_memory}
use Rattle.run_opening.specs.Order.{AreInLineOrder, IsFirstInOrder}
use Rattle.run_opening.specs.Repairs.{AreCrowded, RefusesRepair, let_in}
use Rattle.run_opening.specs.declared.fault.OpeningFault.{OpeningFault}
use Rattle.run_opening.specs.declared.fault.OpeningFault.TheVariants.{Database, Inconsistent}

-- packages in line order are apart where they are
apart_ordered : (ps qs : List Package) → AreInLineOrder ps qs → AreApart ps → AreApart qs
apart_ordered ps qs order h = distinct-moved (lines_of ps) (lines_of qs) (IsPermutation-map (λ (p : Package). line_of p.facts) ps qs order.moved) h

apart_back : (ps qs : List Package) → AreInLineOrder ps qs → AreApart qs → AreApart ps
apart_back ps qs order h = distinct-moved (lines_of qs) (lines_of ps) (IsPermutation-map (λ (p : Package). line_of p.facts) qs ps (IsPermutation-sym ps qs order.moved)) h

-- packages with such a first fault are apart, but for two on one line
apart_of : (ps qs : List Package) (f : Fault) → AreInLineOrder ps qs → state.IsFirstWrong qs f → AreApart ps
apart_of ps qs f order first = apart_back ps qs order first.apart

module _ (flags : List (List ℕ)) (packages : Vec Installed Global) where
  abbrev ps : List Package
  ps = packages_of flags packages.items

  pub let_in_same : (fault : Broken) → IfOk (let_in fault packages) (λ v. v.items ≡ packages.items)
  let_in_same broken.Memory = tt
  let_in_same (broken.SlotTwice one other) = tt
  let_in_same (broken.RequiredUse one) = refl
  let_in_same (broken.Blocked one by) = refl
  let_in_same (broken.Runtime one leaf) = refl

  pub let_in_apart : (fault : Broken) → IfSome (told fault) (IsFirstInOrder ps) → IfOk (let_in fault packages) (λ v. AreApart (packages_of flags v.items))
  let_in_apart broken.Memory first = tt
  let_in_apart (broken.SlotTwice one other) first = tt
  let_in_apart (broken.RequiredUse one) first = apart_of ps first.ordered _ first.order first.first
  let_in_apart (broken.Blocked one by) first = apart_of ps first.ordered _ first.order first.first
  let_in_apart (broken.Runtime one leaf) first = apart_of ps first.ordered _ first.order first.first

  twice : (fault : Broken) (f : Fault) → told fault ≡ Some f → IsFirstInOrder ps f → AreBroken flags packages.items fault
  twice fault f is first = record { says = f; is = is; first = first }

  pub let_in_crowded : (fault : Broken) → IfSome (told fault) (IsFirstInOrder ps) → IfErr (let_in fault packages) (AreCrowded flags packages.items)
  let_in_crowded broken.Memory first = refl
  let_in_crowded (broken.SlotTwice one other) first = (refl, twice (broken.SlotTwice one other) _ refl first, tt)
  let_in_crowded (broken.RequiredUse one) first = tt
  let_in_crowded (broken.Blocked one by) first = tt
  let_in_crowded (broken.Runtime one leaf) first = tt

  pub let_in_fine : (fault : Broken) → IfSome (told fault) (IsFirstInOrder ps) → AreApart ps → IfErr (let_in fault packages) (λ e. e ≡ out_of_memory)
  let_in_fine broken.Memory first h = refl
  let_in_fine (broken.SlotTwice one other) first h =
      let twins = first.first in
      absurd (twins_not_apart first.ordered twins.0 twins.1 (apart_ordered ps first.ordered first.order h) twins.2)
  let_in_fine (broken.RequiredUse one) first h = tt
  let_in_fine (broken.Blocked one by) first h = tt
  let_in_fine (broken.Runtime one leaf) first h = tt

-- what packages of which two stand on one line are for a repair
pub refused_crowded : (flags : List (List ℕ)) (m : Map) (qs : List Installed) (e : OpeningFault) → IsDatabase m qs → AreWithin qs → IsTidy qs → AreCrowded flags qs e → RefusesRepair flags m e
refused_crowded flags m qs (Inconsistent fault packages) db within tidy (same, is, lines) = (
  record {
    database = subst (IsDatabase m) (sym same) db;
    within = subst AreWithin (sym same) within;
    tidy = subst IsTidy (sym same) tidy;
    broken = subst (λ (l : List Installed). AreBroken flags l fault) (sym same) is;
  },
  lines,
)
refused_crowded flags m qs (Database fault) db within tidy memory = subst (λ (f : DatabaseFault). Refuses flags m (Database f)) (sym memory) tt

-- What comes of the judgement of the packages.
use Rattle.std.proofs.Common.{◌≡◌, ◌⊎◌, ℕ, List, Option, Some, None, Vec, Global, ap, inl, inr, refl, subst, sym}
use Rattle.std.specs.Prelude.{IfSome}
use Rattle.file_tree.specs.Disk.{Map}
use Rattle.file_tree.specs.declared.fault.TreeFault.{TreeFault}
use Rattle.file_tree.specs.declared.limits.Quantity.{Quantity}
use Rattle.pkg_state.specs.Fault.{Fault, IsFirstFault, told}
use Rattle.pkg_state.specs.Package.{Package}
use Rattle.pkg_state.specs.declared.broken.Broken.{Broken}
use Rattle.pkg_state.specs.declared.broken.Broken.TheVariants as broken
use Rattle.vdb_law.specs.Database.{IsDatabase, IsTidy}
use Rattle.vdb_law.specs.Packages.{Installed}
use Rattle.vdb_text.specs.Faults as reads
use Rattle.vdb_text.specs.Faults.{FirstFault, FolderFault, located}
use Rattle.vdb_text.specs.Limits.{AreWithin}
use Rattle.vdb_text.specs.Machine as machine
use Rattle.vdb_text.specs.declared.fault.DatabaseFault.{DatabaseFault}
use Rattle.vdb_text.specs.declared.fault.DatabaseFault.TheVariants as databases
use Rattle.vdb_record.specs.declared.fault.RecordFault.{RecordFault}
use Rattle.vdb_record.specs.declared.fault.RecordFault.TheVariants as records
use Rattle.law_commit.specs.Lit.{packages_of}
use Rattle.run_opening.specs.Faults.{AreBroken, ArePast, HasTooMuch, IsOfMachine, IsUnfit, Refuses, refusal_of}
use Rattle.run_opening.specs.Order.{AreInLineOrder, IsFirstInOrder}
use Rattle.run_opening.specs.declared.fault.OpeningFault.{OpeningFault}
use Rattle.run_opening.specs.declared.fault.OpeningFault.TheVariants.{Database, Inconsistent}

-- the first fault of packages in line order is that of the packages
pub first_in_order : (ps qs : List Package) (o : Option Fault) → AreInLineOrder ps qs → IfSome o (IsFirstFault qs) → IfSome o (IsFirstInOrder ps)
first_in_order ps qs None order first = tt
first_in_order ps qs (Some f) order first = record { ordered = qs; order = order; first = first }

unfit_at : (flags : List (List ℕ)) (ps : List Installed) (fault : Broken) (f : Fault) → told fault ≡ Some f → IsFirstInOrder (packages_of flags ps) f → AreBroken flags ps fault
unfit_at flags ps fault f is first = record { says = f; is = is; first = first }

-- what is told of packages that are broken
pub unfit : (flags : List (List ℕ)) (packages : Vec Installed Global) (fault : Broken) → IfSome (told fault) (IsFirstInOrder (packages_of flags packages.items)) → IsUnfit flags packages.items (refusal_of fault packages)
unfit flags packages broken.Memory first = refl
unfit flags packages (broken.Runtime one leaf) first = (refl, unfit_at flags packages.items (broken.Runtime one leaf) _ refl first)
unfit flags packages (broken.Blocked one by) first = (refl, unfit_at flags packages.items (broken.Blocked one by) _ refl first)
unfit flags packages (broken.RequiredUse one) first = (refl, unfit_at flags packages.items (broken.RequiredUse one) _ refl first)
unfit flags packages (broken.SlotTwice one other) first = (refl, unfit_at flags packages.items (broken.SlotTwice one other) _ refl first)

-- why a fault of the database may come in place of these packages
pub in_place : (ps : List Installed) (e : DatabaseFault) → machine.IsOfMachine e ⊎ reads.ArePast ps e → IsOfMachine (Database e) ⊎ ArePast ps (Database e)
in_place ps e (inl h) = inl (h.0, ap Database h.1)
in_place ps e (inr h) = inr h

first_or : (m : Map) (e : DatabaseFault) → ((of : TreeFault) → e ≡ databases.Tree of → ⊥) → machine.IsOfMachine e ⊎ FirstFault m e → FirstFault m e
first_or m e none (inl h) = absurd (none h.0 h.1)
first_or m e none (inr first) = first

-- no folder is at fault for what there is too much of
not_located : (text : List ℕ) (fault : RecordFault) (q : Quantity) → databases.Limit q ≡ located text fault → ⊥
not_located text (records.Missing file) q e = cc e
not_located text records.Eapi q e = cc e
not_located text (records.Text file line) q e = cc e
not_located text (records.Dep file at) q e = cc e
not_located text records.Memory q e = cc e

not_folder : (m : Map) (text : List ℕ) (q : Quantity) → FolderFault m text (databases.Limit q) → ⊥
not_folder m text q (inl bad) = cc bad.told
not_folder m text q (inr bad) = not_located text bad.first q bad.told

too_much : (m : Map) (q : Quantity) → FirstFault m (databases.Limit q) → HasTooMuch m q
too_much m q (inl bad) = absurd (not_folder m bad.text q bad.has)
too_much m q (inr (inl much)) = much
too_much m q (inr (inr untidy)) = absurd untidy.overlaps

-- .. and what it is for a run
pub refused_database : (flags : List (List ℕ)) (m : Map) (e : DatabaseFault) → machine.IsOfMachine e ⊎ FirstFault m e → Refuses flags m (Database e)
refused_database flags m (databases.Tree fault) h = tt
refused_database flags m (databases.Name p) h = first_or m (databases.Name p) (λ of x. cc x) h
refused_database flags m (databases.Missing p) h = first_or m (databases.Missing p) (λ of x. cc x) h
refused_database flags m (databases.Eapi p) h = first_or m (databases.Eapi p) (λ of x. cc x) h
refused_database flags m (databases.Text p line) h = first_or m (databases.Text p line) (λ of x. cc x) h
refused_database flags m (databases.Dep p at) h = first_or m (databases.Dep p at) (λ of x. cc x) h
refused_database flags m (databases.Limit q) h = too_much m q (first_or m (databases.Limit q) (λ of x. cc x) h)
refused_database flags m (databases.OwnedTwice p) h = first_or m (databases.OwnedTwice p) (λ of x. cc x) h
refused_database flags m (databases.Nested p q) h = first_or m (databases.Nested p q) (λ of x. cc x) h

-- what packages that don't go together are for a run
pub refused_unfit : (flags : List (List ℕ)) (m : Map) (ps : List Installed) (e : OpeningFault) → IsDatabase m ps → AreWithin ps → IsTidy ps → IsUnfit flags ps e → Refuses flags m e
refused_unfit flags m ps (Inconsistent fault packages) db within tidy (same, is) =
    record {
      database = subst (IsDatabase m) (sym same) db;
      within = subst AreWithin (sym same) within;
      tidy = subst IsTidy (sym same) tidy;
      broken = subst (λ (qs : List Installed). AreBroken flags qs fault) (sym same) is;
    }
refused_unfit flags m ps (Database fault) db within tidy memory = subst (λ (f : DatabaseFault). Refuses flags m (Database f)) (sym memory) tt

-- A record whose files are there and of an edition that is read.
use Rattle.std.proofs.Common.{Result, Ok, Err, refl, inl, inr}
use Rattle.std.specs.Prelude.{IfErr}
use Rattle.basics.proofs.Tests.{none_is_not_some}
use Rattle.dep_atom.specs.declared.package.PackageId.{PackageId}
use Rattle.pkg_state.specs.declared.eapi.Eapi.{Eapi}
use Rattle.vdb_law.specs.Fields.{Field, contents, eapi, slots}
use Rattle.vdb_law.specs.Packages.{Installed}
use Rattle.vdb_record.specs.Faults.{AreThere, FirstFault, IsFirstMissing, IsFirstOfFiles, IsSupported}
use Rattle.vdb_values.specs.Values.{SaysNoEapi}
use Rattle.vdb_record.specs.Texts.{IsOfEdition, Tell, Texts, value}
use Rattle.vdb_record.specs.declared.fault.RecordFault.{RecordFault}
use Rattle.vdb_record.proofs.Files.{first_fault}

-- no file that must be there is missing where the texts tell a package
pub none_missing : (t : Texts) (k : Field) (id : PackageId) (p : Installed) → IsFirstMissing t k → Tell t id p → ⊥
none_missing t k id p (inl bad) tell = none_is_not_some (t contents) bad.1 (tell.there contents refl)
none_missing t k id p (inr (some, inl bad)) tell = none_is_not_some (t eapi) bad.1 (tell.there eapi refl)
none_missing t k id p (inr (some, inr (some', inl bad))) tell = none_is_not_some (t slots) bad.1 (tell.there slots refl)
none_missing t k id p (inr (some, inr (some', inr (some'', none)))) tell = none

pub unsupported : (t : Texts) (id : PackageId) (p : Installed) → SaysNoEapi (value (t eapi)) → Tell t id p → ⊥
unsupported t id p none tell = none p.package_is.eapi (tell.reads eapi)

pub not_supported : (t : Texts) → SaysNoEapi (value (t eapi)) → ¬ IsSupported t
not_supported t none of = none of.0 of.1

pub file_fault : {A : Type 0} (t : Texts) (e : Eapi) (r : Result A RecordFault) → AreThere t → IsOfEdition t e → IfErr r (IsFirstOfFiles e t) → IfErr r (FirstFault t)
file_fault t e (Ok p) there is h = tt
file_fault t e (Err f) there is h = first_fault t e f there is h

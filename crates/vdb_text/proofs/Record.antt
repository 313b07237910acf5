-- What the texts of the files in a package's folder tell is what the folder tells.
use Rattle.std.proofs.Common.{◌≡◌, ◌∙◌, ℕ, List, Result, Ok, Err, MatchResult, ap, sym, subst, inl, inr}
use Rattle.dep_atom.specs.Ids.{IsId, IsIdOf, id_text}
use Rattle.dep_atom.specs.declared.package.PackageId.{PackageId}
use Rattle.file_tree.specs.Disk.{Map}
use Rattle.file_tree.specs.declared.fault.TreeFault.TheVariants as trees
use Rattle.vdb_law.specs.Database.{folder}
use Rattle.vdb_law.specs.Fields.{Says}
use Rattle.vdb_law.specs.Packages.{Installed, id_of}
use Rattle.vdb_record.specs.Faults.{FirstFault}
use Rattle.vdb_record.specs.Texts.{Tell, Texts, folder_texts}
use Rattle.vdb_record.specs.declared.fault.RecordFault.{RecordFault}
use Rattle.vdb_text.specs.Faults.{FolderFault, located}
use Rattle.vdb_text.specs.Telling.{Tells, texts_at}
use Rattle.vdb_text.specs.Machine.{IsOfMachine}
use Rattle.vdb_text.specs.declared.fault.DatabaseFault.{DatabaseFault}
use Rattle.vdb_text.specs.declared.fault.DatabaseFault.TheVariants.{Tree}
use Rattle.vdb_text.proofs.Files.{own_texts}

module _ (m : Map) (text : List ℕ) (id : PackageId) (owner : IsIdOf text id) (t : Texts) (are : t ≡ texts_at m text) where
  own : t ≡ folder_texts (folder m id)
  own = are ∙ own_texts m id text owner.named

  pub tells : (p : Installed) → Tell t id p → Tells m text p
  tells p h =
      let told : Tell (folder_texts (folder m id)) id p = subst (λ (s : Texts). Tell s id p) own h in
      let says : Says (folder m id) p = record { there = told.there; reads = told.reads } in
      record {
        is = subst IsId (sym told.of) owner.is;
        named = owner.named ∙ ap id_text (sym told.of);
        says = subst (λ (i : PackageId). Says (folder m i) p) (sym told.of) says;
      }

  pub told_by : (p : Installed) → Tells m text p → Tell t id p
  told_by p h =
      let of : id_of p ≡ id = owner.only (id_of p) h.is h.named in
      let says : Says (folder m id) p = subst (λ (i : PackageId). Says (folder m i) p) of h.says in
      let told : Tell (folder_texts (folder m id)) id p = record { of = of; there = says.there; reads = says.reads } in
      subst (λ (s : Texts). Tell s id p) (sym own) told

  pub bad_record : (f : RecordFault) (e : DatabaseFault) → FirstFault t f → e ≡ located text f → FolderFault m text e
  bad_record f e first told = inr (record { id = id; is = owner.is; named = owner.named; first = f; of = subst (λ (s : Texts). FirstFault s f) own first; told = told })

pub of_machine : {A : Type 0} (r : Result A DatabaseFault) (P : A → Type 0) → MatchResult r P (λ e. e ≡ Tree trees.Memory) → MatchResult r P IsOfMachine
of_machine (Ok x) P h = h
of_machine (Err e) P h = (trees.Memory, h)

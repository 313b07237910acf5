-- What the variables and the line files of a folder come to.
use Rattle.std.proofs.Common.{◌≡◌, ◌++◌, ◌∙◌, ℕ, List, ap, inr, length, subst}
use Rattle.config_text.specs.declared.assignment.Assignment.{Assignment}
use Rattle.file_tree.specs.Disk.{Map}
use Rattle.profile_folders.specs.Defaults.{AreDefaults}
use Rattle.profile_lines.specs.Files.{Content, MissFiles, MissFolder, ReadsFiles, ReadsFolder, defaults_file, defaults_path, with_assigned}
use Rattle.profile_lines.specs.declared.fault.ReadFault.{ReadFault}
use Rattle.profile_lines.specs.declared.profile.DefaultsFile.{DefaultsFile}

-- assignments and files that have grown by those of the folder are those with them
pub grown_alike : (was : Content) (folder : List ℕ) (those assigned : List Assignment) (count : ℕ) (files : List DefaultsFile) → assigned ≡ was.assigned ++ those → count ≡ length those → files ≡ was.files ++ defaults_file (defaults_path folder) count → (let r : Content = record was { assigned = assigned; files = files } in r) ≡ with_assigned was folder those
grown_alike was folder those assigned count files a n f = ap (λ (l : List Assignment). let r : Content = record was { assigned = l; files = files } in r) a ∙ ap (λ (fs : List DefaultsFile). let r : Content = record was { assigned = was.assigned ++ those; files = fs } in r) (f ∙ ap (λ (k : ℕ). was.files ++ defaults_file (defaults_path folder) k) n)

module _ (m n : Map) (same : n ≡ m) (folder : List ℕ) (was before : Content) (known those : List Assignment) (known-is : known ≡ was.assigned) (are : AreDefaults m folder known those) (set : before ≡ with_assigned was folder those) where
  sets : AreDefaults m folder was.assigned those
  sets = subst (λ (k : List Assignment). AreDefaults m folder k those) known-is are

  pub folder_reads : (is : Content) → ReadsFiles n folder before is → ReadsFolder m folder was is
  folder_reads is reads = (those, sets, subst (λ (c : Content). ReadsFiles m folder c is) set (subst (λ (y : Map). ReadsFiles y folder before is) same reads))

  pub folder_misses : (fault : ReadFault) → MissFiles n folder before fault → MissFolder m folder was fault
  folder_misses fault miss = inr (those, sets, subst (λ (c : Content). MissFiles m folder c fault) set (subst (λ (y : Map). MissFiles y folder before fault) same miss))

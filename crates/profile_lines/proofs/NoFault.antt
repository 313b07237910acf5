-- A profile that can be read has no fault.
use Rattle.std.specs.Prelude.{codes}
use Rattle.std.proofs.Common.{◌≡◌, ◌∙◌, ◌++◌, ℕ, List, [], ◌∷◌, Option, None, Some, inl, inr, subst, sym}
use Rattle.config_text.proofs.OneText.{no_fault}
use Rattle.config_text.specs.declared.assignment.Assignment.{Assignment}
use Rattle.file_tree.specs.Disk.{Map}
use Rattle.profile_folders.specs.Defaults.{AreSet, IsFaultOf, defaults_text}
use Rattle.profile_folders.specs.Texts.{file_in}
use Rattle.profile_folders.specs.declared.fault.ProfileFault.{ProfileFault}
use Rattle.profile_folders.specs.declared.line_file.FileLine.{FileLine}
use Rattle.profile_folders.proofs.Listed.{lines_or_not, one_lines}
use Rattle.profile_folders.proofs.Once.{one_walk}
use Rattle.profile_lines.specs.Chains.{BreaksAt, Chain}
use Rattle.profile_lines.specs.Faults.{FirstBad}
use Rattle.profile_lines.specs.Files.{AreLinesAt, Content, IsLinesFaultAt, MissFile, MissFolder, MissTells, ReadsFile, ReadsFolder, Tells, form_of, line_files, path_in}
use Rattle.profile_lines.specs.Profiles.{FirstFault, IsProfile, MissProfile, MissRest}
use Rattle.profile_lines.specs.declared.fault.ReadFault.{ReadFault}
use Rattle.profile_lines.specs.declared.file.File.{File}
use Rattle.profile_lines.specs.declared.item.Entry.{Entry}
use Rattle.profile_lines.specs.declared.item.Form.{Form}
use Rattle.profile_lines.proofs.Lines.{in_form_or_not}

module _ {A S F : Type 0} (Step : A → S → S → Type 0) (Fault : A → S → F → Type 0) (not_both : (x : A) (was is other : S) (f : F) → Step x was is → Fault x other f → ⊥) where
  has_step : (front : List A) (x : A) (rest : List A) (was is : S) → Chain Step (front ++ (x ∷ rest)) was is → (s : S) × (t : S) × Step x s t
  has_step [] x rest was is chain = (was, chain.0, chain.1)
  has_step (y ∷ front) x rest was is chain = has_step front x rest chain.0 is chain.2

  -- where all steps can be taken none of them is at fault
  pub chain_or_not : (xs : List A) (was is other : S) (f : F) → Chain Step xs was is → BreaksAt Step Fault xs other f → ⊥
  chain_or_not xs was is other f chain breaks =
      let one = has_step breaks.front breaks.bad breaks.rest was is (subst (λ (l : List A). Chain Step l was is) breaks.place chain) in
      not_both breaks.bad one.0 one.1 breaks.between f one.2 breaks.has

-- where a text sets something it has no fault
pub set_or_not : (file text : List ℕ) (known those : List Assignment) (fault : ProfileFault) → AreSet text known those → IsFaultOf file text fault → ⊥
set_or_not file text known those fault are bad = bad.own (no_fault known text those bad.first are.utf8 are.says bad.has)

module _ (m : Map) where
  one_lines_at : (path : Option (List ℕ)) (these those : List FileLine) → AreLinesAt m path these → AreLinesAt m path those → these ≡ those
  one_lines_at None these those a b = a ∙ sym b
  one_lines_at (Some path) these those a b = one_lines m path these those a b

  lines_at_or_not : (path : Option (List ℕ)) (these : List FileLine) (fault : ProfileFault) → AreLinesAt m path these → IsLinesFaultAt m path fault → ⊥
  lines_at_or_not None these fault a bad = bad
  lines_at_or_not (Some path) these fault a bad = lines_or_not m path these fault a bad

  -- where the lines of a file say something the file has no fault
  pub tells_or_not : (form : Form) (path : Option (List ℕ)) (entries : List Entry) (fault : ReadFault) → Tells m form path entries → MissTells m form path fault → ⊥
  tells_or_not form path entries fault tells (inl bad) = lines_at_or_not path tells.lines bad.0 tells.there bad.1
  tells_or_not form path entries fault tells (inr bad) =
      let same : tells.lines ≡ bad.0 = one_lines_at path tells.lines bad.0 tells.there bad.1 in
      in_form_or_not form tells.lines entries fault tells.say (subst (λ (l : List FileLine). FirstBad form l fault) (sym same) bad.2)

  file_or_not : (folder : List ℕ) (file : File) (was is other : Content) (fault : ReadFault) → ReadsFile m folder file was is → MissFile m folder file other fault → ⊥
  file_or_not folder file was is other fault reads miss = tells_or_not (form_of file) (path_in folder file) reads.0 fault reads.1 miss

  folder_or_not : (folder : List ℕ) (was is other : Content) (fault : ReadFault) → ReadsFolder m folder was is → MissFolder m folder other fault → ⊥
  folder_or_not folder was is other fault reads (inl bad) = set_or_not (file_in folder (codes "make.defaults")) (defaults_text m folder) was.assigned reads.0 bad.0 reads.1 bad.1
  folder_or_not folder was is other fault reads (inr bad) = chain_or_not (ReadsFile m folder) (MissFile m folder) (file_or_not folder) line_files _ is _ fault reads.2 bad.2

  rest_or_not : (path : List ℕ) (is : Content) (fault : ReadFault) → IsProfile m path is → MissProfile m path fault → ⊥
  rest_or_not path is fault profile miss = by_miss miss.misses
    where
      same : (profile.folders ≡ miss.folders) × (None ≡ miss.end)
      same = one_walk m path profile.folders miss.folders None miss.end profile.walks miss.walks

      by_miss : MissRest m miss.folders miss.end miss.first fault → ⊥
      by_miss (inl bad) = chain_or_not (ReadsFolder m) (MissFolder m) folder_or_not profile.folders profile.first is miss.first fault profile.reads (subst (λ (l : List (List ℕ)). BreaksAt (ReadsFolder m) (MissFolder m) l miss.first fault) (sym same.0) bad)
      by_miss (inr bad) = let none : None ≡ Some bad.2 = same.1 ∙ bad.3 in absurd (cc none)

  -- where the map has a profile it has no fault
  pub profile_or_not : (path : List ℕ) (is : Content) (fault : ReadFault) → IsProfile m path is → FirstFault m path fault → ⊥
  profile_or_not path is fault profile (inl bad) = tells_or_not _ _ profile.opens.0 fault profile.opens.1 bad
  profile_or_not path is fault profile (inr bad) = rest_or_not path is fault profile bad

-- What `make.conf` and the line files come to, and that files which are read have no fault.
use Rattle.std.proofs.Common.{◌≡◌, ◌++◌, List, Some, inl, inr, subst}
use Rattle.config_text.specs.declared.assignment.Assignment.{Assignment}
use Rattle.file_tree.specs.Disk.{Map}
use Rattle.profile_folders.specs.Texts.{text_of}
use Rattle.profile_lines.specs.declared.fault.ReadFault.{ReadFault}
use Rattle.profile_lines.proofs.NoFault.{chain_or_not, set_or_not, tells_or_not}
use Rattle.profile_stack.specs.Files.{AreOfConf, Config, MissFile, MissFiles, MissUser, ReadsFile, ReadsFiles, ReadsUser, form_of, make_conf, path_of, user_files}
use Rattle.profile_stack.specs.declared.line_file.UserFile.{UserFile}

module _ (m n : Map) (same : n ≡ m) (was : Config) (known those conf : List Assignment) (known-is : known ≡ was.defaults) (are : AreOfConf m known those) (conf-is : conf ≡ was.conf ++ those) where
  sets : AreOfConf m was.defaults those
  sets = subst (λ (k : List Assignment). AreOfConf m k those) known-is are

  pub user_reads : (is : Config) → ReadsFiles n (record was { conf = conf }) is → ReadsUser m was is
  user_reads is reads = (those, sets, subst (λ (a : List Assignment). ReadsFiles m (record was { conf = a }) is) conf-is (subst (λ (y : Map). ReadsFiles y (record was { conf = conf }) is) same reads))

  pub user_misses : (fault : ReadFault) → MissFiles n (record was { conf = conf }) fault → MissUser m was fault
  user_misses fault miss = inr (those, sets, subst (λ (a : List Assignment). MissFiles m (record was { conf = a }) fault) conf-is (subst (λ (y : Map). MissFiles y (record was { conf = conf }) fault) same miss))

module _ (m : Map) where
  file_or_not : (file : UserFile) (was is other : Config) (fault : ReadFault) → ReadsFile m file was is → MissFile m file other fault → ⊥
  file_or_not file was is other fault reads miss = tells_or_not m (form_of file) (Some (path_of file)) reads.0 fault reads.1 miss

  -- where the user's files can be read none of them is at fault
  pub user_or_not : (was is other : Config) (fault : ReadFault) → ReadsUser m was is → MissUser m other fault → ⊥
  user_or_not was is other fault reads (inl bad) = set_or_not make_conf (text_of (m make_conf)) was.defaults reads.0 bad.0 reads.1 bad.1
  user_or_not was is other fault reads (inr bad) = chain_or_not (ReadsFile m) (MissFile m) file_or_not user_files _ is _ fault reads.2 bad.2

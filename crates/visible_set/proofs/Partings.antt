-- How many files set variables.
use Rattle.std.proofs.Common.{◌≡◌, ◌≤◌, List, [], ◌∷◌, ap, arith, drop, length, map, refl, suc}
use Rattle.std.proofs.lemmas.List.{length-append, length-map}
use Rattle.config_text.specs.declared.assignment.Assignment.{Assignment}
use Rattle.profile_lines.specs.declared.profile.DefaultsFile.{DefaultsFile}
use Rattle.config_vars.specs.declared.vars.FileVars.{FileVars}
use Rattle.profile_stack.specs.Files.{Config}
use Rattle.visible_set.specs.Configured.{conf_file, file_value, files_of, parted}

-- each file has its part
pub parted-length : (files : List DefaultsFile) (assigned : List Assignment) → length (parted files assigned) ≡ length files
parted-length [] assigned = refl
parted-length (file ∷ files) assigned = ap suc (parted-length files (drop file.count assigned))

-- the files are more than those of the profile
pub enough : (c : Config) (files : List FileVars) → map file_value files ≡ files_of c → length c.files ≤ length files
enough c files are =
    let all : length (map file_value files) ≡ length (files_of c) = ap length are in
    omega (arith, all, length-map files file_value, length-append (parted c.files c.defaults) (conf_file c ∷ []), parted-length c.files c.defaults)

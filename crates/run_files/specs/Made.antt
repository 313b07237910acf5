-- What is made of packages that come with their images.
use Rattle.std.specs.Prelude.{◌≡◌, Bool, List, map}
use Rattle.std.specs.List.{AllByRecursion}
use Rattle.dep_atom.specs.Ids.{IsId}
use Rattle.merge_fit.specs.Misfits.{AreGood}
use Rattle.file_tree.specs.Paths.{IsPathText}
use Rattle.pkg_state.specs.Package.{Package, line_of}
use Rattle.plan_law.specs.Plans.{Group, clears}
use Rattle.vdb_law.specs.Packages.{Installed}
use Rattle.law_commit.specs.Lit.{as_recorded}
use Rattle.merge_group.specs.declared.files.Files.{Files}
use Rattle.law_package.specs.Records.{owned_of}
use Rattle.vdb_files.specs.Recorded.{AreNamed}
use Rattle.vdb_files.specs.Written.{AreFolderFiles, installed_with}
use Rattle.run_files.specs.Keys.{key_with}
use Rattle.run_files.specs.declared.newcomer.Newcomer.{Newcomer}

-- what a newcomer is
abbrev pub package_of : Newcomer → Package
package_of n = n.pkg

-- the package leaves with the group: it stands on a line that the group clears
abbrev pub leaves : Group → Installed → Bool
leaves g p = clears g (line_of p.package_is.facts)

-- the package that comes as it is recorded, with the entries of its image as what it owns
abbrev pub recorded : Newcomer → Installed
recorded n = installed_with (as_recorded n.pkg) (map owned_of n.image.items)

-- what a package that comes is, by the types of its parts: its names are names, and the paths of
-- its image are texts of paths
pub record IsNamed (n : Newcomer) : Type 0 where
  pub id : IsId n.pkg.facts.id
  pub facts : AreNamed n.pkg.facts
  pub paths : AllByRecursion (λ e. IsPathText e.path) n.image.items

-- the files of a package that comes: its image, and, where the objects of that may be placed, the
-- files of a folder that record it; its key among these is to own them
pub record AreFilesFor (ps : List Installed) (coming : List Package) (n : Newcomer)
    (files : Files) : Type 0 where
  pub owner : files.owner ≡ key_with ps coming (recorded n)
  pub image : files.image.items ≡ n.image.items
  pub folder : AreGood n.image.items → AreFolderFiles (recorded n) files.folder.items

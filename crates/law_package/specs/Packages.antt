-- A package that is merged, as its files tell it.
use Rattle.std.specs.Prelude.{◌≡◌, Some}
use Rattle.basics.specs.Members.{Has}
use Rattle.dep_atom.specs.Ids.{IsId}
use Rattle.file_tree.specs.Disk.{held_by}
use Rattle.file_tree.specs.declared.objects.Entry.{Entry}
use Rattle.vdb_contents.specs.declared.owned.Owned.{Owned}
use Rattle.vdb_law.specs.Database.{Holds, IsOf, folder}
use Rattle.vdb_law.specs.Fields.{Says}
use Rattle.vdb_law.specs.Packages.{Installed, id_of, paths}
use Rattle.merge_group.specs.declared.files.Files.{Files}

-- the package records this entry of its image so
pub record IsRecorded (e : Entry) (o : Owned) : Type 0 where
  pub path : o.path ≡ e.path
  pub content : Holds (Some e.object) o.content

-- the files are those of the package: it records the entries of its image, and nothing else, and
-- what lies in its own folder says what it is
pub record AreFilesOf (files : Files) (a : Installed) : Type 0 where
  pub id : IsId (id_of a)
  pub owned : (o : Owned) → Has a.owned o →
      (e : Entry) × Has files.image.items e × IsRecorded e o
  pub recorded : (e : Entry) → Has files.image.items e → Has (paths a) e.path
  pub inside : (e : Entry) → Has files.folder.items e → IsOf (id_of a) e.path
  pub says : Says (folder (held_by files.folder.items) (id_of a)) a

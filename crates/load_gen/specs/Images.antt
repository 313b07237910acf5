-- The images of the packages of a load.
use Rattle.std.specs.Prelude.{List, [], ◌∷◌, ◌++◌, codes, drop}
use Rattle.dep_atom.specs.declared.package.PackageId.{PackageId}
use Rattle.file_tree.specs.declared.objects.Entry.{Entry}
use Rattle.file_tree.specs.declared.objects.Kind.TheVariants.{Plain}

-- the image of package `load/p<i>`: the file `usr/share/load/p<i>` with the number and a newline
abbrev pub image_of : PackageId → List Entry
image_of id = record {
  path = codes "usr/share/load/" ++ id.name.«package»;
  object = record { kind = Plain; bytes = drop 1 id.name.«package» ++ 10 ∷ [] };
} ∷ []

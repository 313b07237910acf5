-- The texts of the files of a map.
use Rattle.std.specs.Prelude.{ℕ, List, [], ◌∷◌, ◌++◌, Option, None, Some}
use Rattle.config_text.specs.declared.fault.TextFault.{TextFault}
use Rattle.config_text.specs.declared.fault.TextFault.TheVariants as texts
use Rattle.file_tree.specs.Disk.{Map}
use Rattle.file_tree.specs.ObjectValue.{ObjectValue}
use Rattle.file_tree.specs.declared.objects.Kind.{Kind}
use Rattle.file_tree.specs.declared.objects.Kind.TheVariants.{Exec, Link, Plain}
use Rattle.profile_folders.specs.Places.{path_of}
use Rattle.file_tree.specs.declared.fault.TreeFault.TheVariants as trees
use Rattle.profile_folders.specs.declared.fault.ProfileFault.{ProfileFault}
use Rattle.profile_folders.specs.declared.fault.ProfileFault.TheVariants.{Text, Tree}

-- the bytes of a file of the kind; those of a link are no text
abbrev pub bytes_of_kind : Kind → List ℕ → List ℕ
bytes_of_kind Plain bytes = bytes
bytes_of_kind Exec bytes = bytes
bytes_of_kind Link bytes = []

-- the text of an object; a missing file is empty
abbrev pub text_of : Option ObjectValue → List ℕ
text_of None = []
text_of (Some x) = bytes_of_kind x.kind x.bytes

-- the file of this name in the folder
abbrev pub file_in : List ℕ → List ℕ → List ℕ
file_in folder name = folder ++ (47 ∷ name)

-- the text at a path; where there is no path there is no text
abbrev pub text_at : Map → Option (List ℕ) → List ℕ
text_at m None = []
text_at m (Some path) = text_of (m path)

-- the text of the file of this name in the folder
abbrev pub text_in : Map → List ℕ → List ℕ → List ℕ
text_in m folder name = text_at m (path_of (file_in folder name))

-- the fault of a text, by the path of its file
abbrev pub text_fault : List ℕ → TextFault → ProfileFault
text_fault path (texts.NotUtf8 line) = Text path line
text_fault path (texts.BadKey line) = Text path line
text_fault path (texts.OpenQuote line) = Text path line
text_fault path texts.Memory = Tree trees.Memory

-- The folders of a tree that are no package's.
use Rattle.std.specs.Prelude.{ℕ, List, codes}

-- the folder of the installed packages
unfoldable pub database_path : List ℕ
database_path = codes "var/db/pkg"

-- the folder of the program's own files
abbrev pub own_files : List ℕ
own_files = codes "var/lib/portage"

-- the folder of the journals of all groups
abbrev pub jobs : List ℕ
jobs = codes "var/lib/portage/jobs"

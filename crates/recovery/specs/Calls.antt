-- The records that change nothing, and the disk once they are put.
use Rattle.std.specs.Prelude.{ℕ, List, [], ◌∷◌, Some}
use Rattle.file_tree.specs.Disk.{Disk, write}
use Rattle.file_tree.specs.ObjectValue.{ObjectValue, plain}
use Rattle.merge_core.specs.Recovery.{empty_content}
use Rattle.merge_journal.specs.Names.{record_path}
use Rattle.merge_record.specs.Spelling.{spelling}

-- the record of a group without paths
abbrev pub empty_record : ℕ → ObjectValue
empty_record g = plain (spelling (empty_content g))

-- each of these groups has a record without paths
abbrev pub emptied : List ℕ → Disk → Disk
emptied [] d = d
emptied (g ∷ gs) d = emptied gs (write d (record_path g) (Some (empty_record g)))

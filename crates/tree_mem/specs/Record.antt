-- The record of what a disk was asked to change, from which each earlier state is read.
use Rattle.std.specs.Prelude.{ℕ, Bool, List, [], ◌∷◌, ◌++◌, bytes_eq, reverse, if◌then◌else◌}
use Rattle.std.specs.List.{list_any}
use Rattle.std.specs.BTreeMap.{is_at}
use Rattle.file_tree.specs.Disk.{Disk, Story, with_path}
use Rattle.tree_mem.specs.declared.record.Change.{Change}
use Rattle.tree_mem.specs.declared.record.Change.TheVariants.{Wrote, Touched, Synced}
use Rattle.tree_mem.specs.Items.{Item, held, path_cmp}

-- the path is one of these
abbrev pub is_among : List (List ℕ) → List ℕ → Bool
is_among names p = list_any (is_at (path_cmp p)) names

abbrev pub disk_of : List Item → List (List ℕ) → Disk
disk_of es touched = record { holds = held es; touched = is_among touched }

-- the disk before a change
abbrev pub undo : Change → Disk → Disk
undo (Wrote p old was) d =
    record {
      holds = with_path d.holds p old;
      touched = λ q. if bytes_eq p q then was else d.touched q;
    }
undo (Touched p was) d =
    record { holds = d.holds; touched = λ q. if bytes_eq p q then was else d.touched q }
undo (Synced touched) d = record { holds = d.holds; touched = is_among touched.keys }

-- the disks before these changes, the last of which comes first
abbrev pub earlier : List Change → Disk → List Disk
earlier [] d = []
earlier (c ∷ cs) d = earlier cs (undo c d) ++ undo c d ∷ []

abbrev pub story_of : Disk → List Change → Story
story_of d changes = record { past = earlier (reverse changes) d; now = d }

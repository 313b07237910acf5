-- A disk in memory and its record, as the story of all its states.
use Rattle.file_tree.specs.Disk.{Story}
use Rattle.tree_mem.specs.declared.disk.MemDisk.{MemDisk}
use Rattle.tree_mem.specs.Record.{disk_of, story_of}

abbrev pub disk_story : MemDisk → Story
disk_story d = story_of (disk_of d.objects.items d.touched.keys) d.changes.items

-- What is recorded of a package when it is merged.
use Rattle.std.specs.Prelude.{ℕ, List}
use Rattle.md5.specs.Md5.{md5}
use Rattle.file_tree.specs.declared.objects.Entry.{Entry}
use Rattle.file_tree.specs.declared.objects.Kind.{Kind}
use Rattle.file_tree.specs.declared.objects.Kind.TheVariants as kinds
use Rattle.vdb_contents.specs.declared.owned.Content.{Content}
use Rattle.vdb_contents.specs.declared.owned.Content.TheVariants.{File, Link}
use Rattle.vdb_contents.specs.declared.owned.Owned.{Owned}

-- what is recorded of an object: the digest of a file, the target of a link
abbrev pub content_by : Kind → List ℕ → Content
content_by kinds.Plain bytes = File (md5 bytes)
content_by kinds.Exec bytes = File (md5 bytes)
content_by kinds.Link bytes = Link bytes

-- what is recorded of an entry of the image
abbrev pub owned_of : Entry → Owned
owned_of e = record { path = e.path; content = content_by e.object.kind e.object.bytes }

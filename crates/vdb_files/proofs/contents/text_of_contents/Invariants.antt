use Rattle.std.proofs.Common.{◌≡◌, map, take}
use Rattle.vdb_contents.specs.Contents.{contents_text}
use Rattle.vdb_files.proofs.Order.{owned_at}
use Rattle.vdb_files.proofs.contents.text_of_contents.Given as goal

abbrev pub invariant-loop-one : goal.invariant-loop-one
invariant-loop-one l = l.text.items ≡ contents_text (map owned_at (take l.one-index l.owned))

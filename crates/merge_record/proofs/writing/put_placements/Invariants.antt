use Rattle.std.proofs.Common.{◌≡◌, ◌++◌, take, length}
use Rattle.std.specs.List.{AllByRecursion, flat_map}
use Rattle.merge_record.specs.Spelling.{placement_text}
use Rattle.file_tree.specs.Paths.{IsPathText}
use Rattle.merge_record.proofs.writing.put_placements.Given as goal

abbrev pub invariant-loop-placement : goal.invariant-loop-placement
invariant-loop-placement l = (l.out.items ≡ l.initial.out.items ++ flat_map placement_text (take l.placement-index l.placements)) × AllByRecursion (λ p. IsPathText p.path × (length p.md5 ≡ 16)) (take l.placement-index l.placements)

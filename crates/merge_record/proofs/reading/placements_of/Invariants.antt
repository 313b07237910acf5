use Rattle.std.proofs.Common.{◌≡◌, ◌-◌}
use Rattle.merge_record.specs.Reading.{many_at, placement_at}
use Rattle.merge_record.proofs.Loop.{with_front}
use Rattle.merge_record.proofs.reading.placements_of.Given as goal

abbrev pub invariant-loop : goal.invariant-loop
invariant-loop l = with_front l.placements.items (many_at (placement_at l.size) (l.count - l.counter) l.rest) ≡ many_at (placement_at l.size) l.count l.bytes

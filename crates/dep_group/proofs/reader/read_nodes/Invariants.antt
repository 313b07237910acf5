use Rattle.std.specs.Vec.Iter.{into_iter_items, into_iter_len}
use Rattle.std.proofs.Common.{◌≡◌, ◌+◌, [], map, None, length}
use Rattle.dep_group.specs.Reading.{read}
use Rattle.dep_group.specs.Maps.{token_map}
use Rattle.dep_group.specs.Nodes.{read_on}
use Rattle.dep_group.specs.Trees.{is_any_of}
use Rattle.dep_group.proofs.reader.read_nodes.Given as goal

abbrev pub invariant-loop-at : goal.invariant-loop-at
invariant-loop-at g l = record {
  counted : length l.fn.tokens.items ≡ l.at-iterator.count + length (into_iter_items l.at-iterator.iter);
  left : length (into_iter_items l.at-iterator.iter) ≡ into_iter_len l.at-iterator.iter;
  same : read is_any_of g.N.Node.barred (map (token_map g.N.Node.kind g.N.Node.said) l.fn.tokens.items) 0 None [] [] ≡ read_on g.N.Node.kind g.N.Node.view g.N.Node.barred l.reader (map (token_map g.N.Node.kind g.N.Node.said) (into_iter_items l.at-iterator.iter)) l.at-iterator.count;
}

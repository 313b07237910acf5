use Rattle.std.proofs.Common.{◌≡◌, ◌++◌, drop}
use Rattle.std.specs.List.{flat_map}
use Rattle.choice_tree.specs.Seen.{places_of}
use Rattle.pkg_state.specs.declared.class.Class.TheVariants.{Rdepend}
use Rattle.merge_edges.specs.Found.{broken_edges, needed_lines}
use Rattle.merge_edges.proofs.breaking.push_breaking.Given as goal

abbrev pub invariant-loop-line : goal.invariant-loop-line
invariant-loop-line l = l.out.items ++ flat_map (broken_edges (places_of l.before.places.now) (places_of l.after.places.now) l.own l.stayer) (drop l.line-index l.line-items) ≡ l.fn.out.items ++ flat_map (broken_edges (places_of l.before.places.now) (places_of l.after.places.now) l.own l.stayer) (needed_lines (places_of l.before.places.now) Rdepend l.stayer)

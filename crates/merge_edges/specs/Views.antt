-- What the code's values say, in the words of the definitions.
use Rattle.std.specs.Option.{option_map}
use Rattle.merge_edges.specs.Changes.{Change}
use Rattle.merge_edges.specs.Found.{Stander}
use Rattle.merge_edges.specs.declared.change.Change.{Change as TheChange}
use Rattle.merge_edges.specs.declared.stander.Stander.{Stander as TheStander}

abbrev pub change_of : TheChange → Change
change_of x =
    record {
      line = x.line;
      old = option_map (λ p. p.now) x.old;
      new = option_map (λ p. p.now) x.new;
    }

abbrev pub stander_of : TheStander → Stander
stander_of x = record { line = x.line; package_is = x.owner.now }

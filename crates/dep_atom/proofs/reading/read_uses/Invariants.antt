use Rattle.std.proofs.Common.{◌≡◌, ◌++◌, ◌<◌, length, List}
use Rattle.std.specs.List.{AllByRecursion}
use Rattle.dep_atom.specs.declared.uses.UseDep.{UseDep}
use Rattle.dep_atom.specs.Cuts.{Starts}
use Rattle.dep_atom.specs.Form.{IsUseForm}
use Rattle.dep_atom.specs.Text.{opened_text, uses_text}
use Rattle.dep_atom.proofs.Opened.{IsLeft}
use Rattle.dep_atom.proofs.reading.read_uses.Given as goal

abbrev pub invariant-loop-more : goal.invariant-loop-more
invariant-loop-more l = record {
  some : 0 < length l.uses.items;
  found : l.text ≡ opened_text l.uses.items ++ l.rest;
  form : AllByRecursion IsUseForm l.uses.items;
  starts : Starts 44 93 l.rest;
  only : (us : List UseDep) → AllByRecursion IsUseForm us → l.text ≡ uses_text us → IsLeft us l.uses.items l.rest;
}

abbrev pub decreases-loop-more : goal.decreases-loop-more
decreases-loop-more l = length l.rest
